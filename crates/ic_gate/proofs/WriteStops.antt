-- What a stop within gated writes leaves of a log's file.
use Rattle.std.proofs.Common.{◌≡◌, refl, sym, ap, ◌∙◌, ℕ, zero, suc, ◌-◌, ◌*◌, ◌<◌, ◌≤◌, false, cond, List, [], ◌∷◌, ◌++◌, length, length-append, arith}
use Rattle.std.specs.Prelude.{nat_le, ◌==◌}
use Rattle.std.proofs.lemmas.Bool.Decides.{nat_tests}
use Rattle.ic_base.specs.declared.events.Fill.{Fill}
use Rattle.ic_base.specs.declared.events.Stop.{Stop}
use Rattle.ic_base.specs.declared.record.Record.{Record}
use Rattle.def_log.specs.Directory.{slots_in}
use Rattle.def_log.specs.Gated.{GatedWrite, gate_opened, batch_write, mark_writes, log_writes}
use Rattle.def_log.specs.Log.{end_with_checkpoint}
use Rattle.def_log.specs.Spelling.{spelling, spellings}
use Rattle.def_log.specs.Stops.{writes_torn, stop_torn}
use Rattle.law_marks.proofs.Reading.{spelled-some}
use Rattle.ic_disk.specs.Stops.{image_at}
use Rattle.ic_disk.specs.TornDisks.{Torn}
use Rattle.ic_disk.specs.Torns.{file}
use Rattle.ic_disk.specs.declared.disk.Disk.{Ghosts}
use Rattle.ic_gate.specs.Calls.{gated_calls, force_writes}
use Rattle.ic_gate.specs.RecordCalls.{record_writes}

-- behind the four calls of one write
later : (call : ℕ) (w : GatedWrite) (ws : List GatedWrite) (file : List ℕ) (keep : ℕ) (fill : Fill) → 5 ≤ call
    → image_at call (gated_calls (w ∷ ws)) file [] keep fill ≡ image_at (call - 4) (gated_calls ws) (gate_opened file w) [] keep fill
later call w ws file keep fill le =
    let t1 : (call == 1) ≡ false = grind (arith, nat_tests) in
    let t2 : (call - 1 == 1) ≡ false = grind (arith, nat_tests) in
    let t3 : (call - 1 - 1 == 1) ≡ false = grind (arith, nat_tests) in
    let t4 : (call - 1 - 1 - 1 == 1) ≡ false = grind (arith, nat_tests) in
    let four : call - 1 - 1 - 1 - 1 ≡ call - 4 = omega arith in
    rw (t1, t2, t3, t4) (ap (λ n. image_at n (gated_calls ws) (gate_opened file w) [] keep fill) four)

-- at each of their calls it is the image that the definitions give
pub writes_image : (ws : List GatedWrite) (call : ℕ) (file : List ℕ) (keep : ℕ) (fill : Fill) → 1 ≤ call → call ≤ 4 * length ws
    → image_at call (gated_calls ws) file [] keep fill ≡ writes_torn call keep fill file ws
writes_image [] call file keep fill first last = absurd (omega (arith, first, last))
writes_image (w ∷ ws) zero file keep fill first last = absurd (omega (arith, first))
writes_image (w ∷ ws) (suc zero) file keep fill first last = refl
writes_image (w ∷ ws) (suc (suc zero)) file keep fill first last = refl
writes_image (w ∷ ws) (suc (suc (suc zero))) file keep fill first last = refl
writes_image (w ∷ ws) (suc (suc (suc (suc zero)))) file keep fill first last = refl
writes_image (w ∷ ws) (suc (suc (suc (suc (suc n))))) file keep fill first last =
    let call : ℕ = suc (suc (suc (suc (suc n)))) in
    let past : nat_le call 4 ≡ false = grind (arith, nat_tests) in
    later call w ws file keep fill (omega arith)
    ∙ writes_image ws (call - 4) (gate_opened file w) keep fill (omega arith) (omega (arith, last))
    ∙ sides past
  where
    sides : nat_le (suc (suc (suc (suc (suc n))))) 4 ≡ false → writes_torn (suc (suc (suc (suc (suc n)))) - 4) keep fill (gate_opened file w) ws ≡ writes_torn (suc (suc (suc (suc (suc n))))) keep fill file (w ∷ ws)
    sides past = rw past refl

-- a write makes four calls
four_each : (ws : List GatedWrite) → length (gated_calls ws) ≡ 4 * length ws
four_each [] = refl
four_each (w ∷ ws) = omega (arith, four_each ws)

-- the writes of a force of records are those by which the definitions add them
batch_named : (size : ℕ) (payload : List ℕ) → 0 < length payload → force_writes size payload ≡ batch_write (size - 1) payload ∷ []
batch_named size [] some = absurd (omega (arith, some))
batch_named size (x ∷ payload) some = refl

records_named : (file : List ℕ) (size used : ℕ) (r : Record) (rs : List Record) → used ≡ length (slots_in file) → record_writes size used (r ∷ rs) ≡ log_writes file (size - 1) (r ∷ rs)
records_named file size used r rs count =
    ap (λ ws. ws ++ cond (end_with_checkpoint (r ∷ rs)) (mark_writes used (size - 1)) []) (batch_named size (spellings (r ∷ rs)) (omega (arith, spelled-some r, length-append (spelling r) (spellings rs))))
    ∙ ap (λ n. batch_write (size - 1) (spellings (r ∷ rs)) ∷ cond (end_with_checkpoint (r ∷ rs)) (mark_writes n (size - 1)) []) count

module _ {D : Type 0} (b : Ghosts D) where
  -- with nothing held back the file is that of the disk below
  pub held_file : (old : Torn D) → old.held ≡ [] → b.seen old.inner ≡ file b old
  held_file old none = ap (λ ws. file b (record old { held = ws })) (sym none)

  -- a stop that is reached within gated writes leaves its image
  pub leaves_image : (ws : List GatedWrite) (stop : Stop) (old new : Torn D) → old.held ≡ [] → 1 ≤ stop.call → stop.call ≤ 4 * length ws
      → file b new ≡ image_at stop.call (gated_calls ws) (b.seen old.inner) old.held stop.keep stop.fill → file b new ≡ stop_torn stop 0 (file b old) ws
  leaves_image ws stop old new none first within image =
      let late : nat_le stop.call 0 ≡ false = grind (arith, nat_tests) in
      let at : stop.call - 0 ≡ stop.call = omega arith in
      image
      ∙ ap (λ held. image_at stop.call (gated_calls ws) (b.seen old.inner) held stop.keep stop.fill) none
      ∙ ap (λ f. image_at stop.call (gated_calls ws) f [] stop.keep stop.fill) (held_file old none)
      ∙ writes_image ws stop.call (file b old) stop.keep stop.fill first within
      ∙ ap (λ n. writes_torn n stop.keep stop.fill (file b old) ws) (sym at)
      ∙ ap (λ t. cond t (file b old) (writes_torn (stop.call - 0) stop.keep stop.fill (file b old) ws)) (sym late)

  -- and so within a force
  pub force_leaves_image : (size : ℕ) (stop : Stop) (old new : Torn D) (payload : List ℕ) → old.held ≡ [] → 1 ≤ stop.call → stop.call ≤ length (gated_calls (force_writes size payload))
      → file b new ≡ image_at stop.call (gated_calls (force_writes size payload)) (b.seen old.inner) old.held stop.keep stop.fill → file b new ≡ stop_torn stop 0 (file b old) (batch_write (size - 1) payload ∷ [])
  force_leaves_image size stop old new [] none first within image = absurd (omega (arith, first, within))
  force_leaves_image size stop old new (x ∷ payload) none first within image = leaves_image (batch_write (size - 1) (x ∷ payload) ∷ []) stop old new none first (omega (arith, within)) image

  -- and within a force of records, and a mark of their batch
  pub records_leave_image : (size used : ℕ) (stop : Stop) (old new : Torn D) (records : List Record) → old.held ≡ [] → used ≡ length (slots_in (file b old)) → 1 ≤ stop.call → stop.call ≤ length (gated_calls (record_writes size used records))
      → file b new ≡ image_at stop.call (gated_calls (record_writes size used records)) (b.seen old.inner) old.held stop.keep stop.fill → file b new ≡ stop_torn stop 0 (file b old) (log_writes (file b old) (size - 1) records)
  records_leave_image size used stop old new [] none count first within image = absurd (omega (arith, first, within))
  records_leave_image size used stop old new (r ∷ rs) none count first within image =
      leaves_image (record_writes size used (r ∷ rs)) stop old new none first (omega (arith, within, four_each (record_writes size used (r ∷ rs)))) image
      ∙ ap (stop_torn stop 0 (file b old)) (records_named (file b old) size used r rs count)
