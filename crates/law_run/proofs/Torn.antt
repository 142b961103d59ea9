-- What a stop leaves of a log reads as before the step or as behind it.
use Rattle.std.proofs.Common.{◌≡◌, ◌∙◌, ap, sym, subst, refl, inr, ℕ, ◌+◌, ◌-◌, ◌<◌, ◌≤◌, ◌^◌, nat_le, nat_lt, Bool, true, false, cond, List, [], ◌∷◌, ◌++◌, length, drop, get_or, map, Some, arith}
use Rattle.std.specs.Prelude.{Option, None, Result, Ok, Err, ◌==◌}
use Rattle.std.specs.List.{AllByRecursion}
use Rattle.std.proofs.lemmas.List.{get_or-drop, length-append, length-drop}
use Rattle.ic_base.specs.declared.limits.TheConstants.{FIRST_GATE, LOG_BYTES, SLOTS}
use Rattle.ic_base.specs.declared.record.Record.{Record}
use Rattle.ic_base.specs.declared.record.Batch.{Batch}
use Rattle.ic_base.specs.declared.events.Stop.{Stop}
use Rattle.def_log.specs.Changes.{IsForced, gate_from, is_start}
use Rattle.def_log.specs.Directory.{first_slot, first_bad_slot, slots_in, unless_bad}
use Rattle.def_log.specs.Frame.{frame_of}
use Rattle.def_log.specs.Gated.{GatedWrite, batch_write, gate_opened, mark_writes, slot_write}
use Rattle.def_log.specs.Loads.{behind_gate, payload_of}
use Rattle.def_log.specs.Log.{◌>>=◌, Placed, placed_at, placed_in, placed_with, log_of, end_with_checkpoint, ends_with_checkpoint}
use Rattle.def_log.specs.Sizes.{gate_in, span}
use Rattle.def_log.specs.Spelling.{spelling, Fits}
use Rattle.def_log.specs.Stops.{write_torn, writes_torn, stop_torn, is_open_at}
use Rattle.def_log.proofs.Forces as forces
use Rattle.def_log.proofs.Forces.{named_more, gate_parts, first_starts, gate_of_first, length_behind}
use Rattle.def_log.proofs.Gates.{opened_length, opened_gate, put_length, rest}
use Rattle.def_log.proofs.Tails.{frame_parts, log_parts}
use Rattle.def_log.proofs.TornRecords as records
use Rattle.law_marks.proofs.Marks.{marks-records}
use Rattle.law_marks.proofs.Reading.{spelled-some, read-all, placed-push}
use Rattle.law_marks.proofs.TornMarks.{IsMarkTorn, mark_leaves, no_shorter}
use Rattle.law_run.specs.Torn.{ReadsByGate, TornReadsByGate, GatesAreShut}

some-bytes : (rs : List Record) → 0 < length rs → 1 ≤ length (payload_of rs)
some-bytes [] h = absurd (omega (arith, h))
some-bytes (r ∷ rs) h = omega (arith, spelled-some r, length-append (spelling r) (payload_of rs))

-- what is read of batches by open slots
with-parts : (slots : List ℕ) (bs : List Batch) (ps : List Placed) → placed_with slots bs ≡ Ok ps → (placed_in bs ≡ Ok ps) × (first_bad_slot ends_with_checkpoint first_slot slots bs ≡ None)
with-parts slots bs ps e = at (placed_in bs) refl (first_bad_slot ends_with_checkpoint first_slot slots bs) refl e
  where
    same : (x : List Placed) → ◌≡◌ {A = Result (List Placed) ℕ} (Ok x) (Ok ps) → x ≡ ps
    same x k = cc k

    at : (r : Result (List Placed) ℕ) → placed_in bs ≡ r → (o : Option ℕ) → first_bad_slot ends_with_checkpoint first_slot slots bs ≡ o → r >>= (λ rs. unless_bad o rs) ≡ Ok ps → (placed_in bs ≡ Ok ps) × (first_bad_slot ends_with_checkpoint first_slot slots bs ≡ None)
    at (Err place) a o b k = absurd (cc k)
    at (Ok rs) a (Some place) b k = absurd (cc k)
    at (Ok rs) a None b k = (a ∙ ap (λ (x : List Placed). Ok x) (same rs k), b)

push : (slots : List ℕ) (bs : List Batch) (b : Batch) (ps : List Placed) (rs : List Record) → AllByRecursion Fits rs → b.payload ≡ payload_of rs → placed_with slots bs ≡ Ok ps → (qs : List Placed) × (placed_with slots (bs ++ b ∷ []) ≡ Ok (ps ++ qs)) × (map (λ q. q.1) qs ≡ rs)
push slots bs b ps rs fits is e =
    let q = read-all rs (length (payload_of rs)) (b.at + length (payload_of rs)) fits (omega arith) in
    let x = with-parts slots bs ps e in (
      q.places,
      ap (λ r. r >>= (λ xs. unless_bad (first_bad_slot ends_with_checkpoint first_slot slots (bs ++ b ∷ [])) xs)) (placed-push bs b ps q.places x.0 (ap (λ l. placed_at b.at l) is ∙ q.is))
          ∙ ap (λ o. unless_bad o (ps ++ q.places)) (named_more ends_with_checkpoint first_slot slots bs (b ∷ []) x.1),
      q.records,
    )

lt-is : (m n : ℕ) → nat_lt m n ≡ true → m < n
lt-is m n e = grind (arith, e)

same-read : (r : Result (List Record) ℕ) (a b : List Record) → r ≡ Ok a → r ≡ Ok b → a ≡ b
same-read r a b e f = cc (e, f)

module _ (gate : ℕ) (old : List ℕ) (added before left : List Record) (reads-old : log_of old ≡ Ok before) (at_gate : gate_in old ≡ Some gate) (some : 0 < length added) (fits : AllByRecursion Fits added) where
  abbrev p : List ℕ
  p = payload_of added

  abbrev step : GatedWrite
  step = batch_write gate p

  abbrev mid : List ℕ
  mid = gate_opened old step

  here : gate_from FIRST_GATE old ≡ Some gate
  here = gate_of_first old gate at_gate

  begun : is_start FIRST_GATE (slots_in old) ≡ true
  begun = first_starts (slots_in old)

  inside : gate < length old
  inside = forces.inside FIRST_GATE gate old here begun (omega arith)

  low : FIRST_GATE ≤ gate
  low = omega (arith, (gate_parts FIRST_GATE (frame_of old) gate at_gate).2)

  middle : length mid ≡ gate + 1 + length (behind_gate p ++ rest old (behind_gate p) gate inside)
  middle = opened_length old (behind_gate p) gate inside ∙ put_length old (behind_gate p) gate inside

  -- a mark is torn, behind the whole batch
  module _ (ends : end_with_checkpoint added ≡ true) (few : length (slots_in old) < SLOTS) (new : List ℕ) (reads : log_of new ≡ Ok left) (tears : length (slots_in mid) ≡ length (slots_in old) → gate < 2 ^ 64 → FIRST_GATE ≤ length mid → IsMarkTorn FIRST_GATE mid gate new) where
    -- where the image is no longer than a log may be
    module _ (room : gate + 6 + length p ≤ LOG_BYTES) where
      is-forced : IsForced FIRST_GATE old mid (gate + 5) p
      is-forced = forces.is_forced FIRST_GATE gate old here begun (omega arith) p (some-bytes added some, omega (arith, room)) room

      torn : IsMarkTorn FIRST_GATE mid gate new
      torn = tears (ap length is-forced.slots) (omega (arith, room)) (omega (arith, middle, low))

    marked : (length mid ≤ LOG_BYTES) → ReadsByGate gate before added new left
    marked short =
        let room : gate + 6 + length p ≤ LOG_BYTES = omega (arith, short, middle, length-append (behind_gate p) (rest old (behind_gate p) gate inside), length_behind p) in
        let t = torn room in
        let there : FIRST_GATE + (gate - FIRST_GATE) ≡ gate = omega (arith, low) in
        let byte : get_or new gate 0 ≡ 1 =
        ap (λ n. get_or new n 0) (sym there) ∙ sym (get_or-drop FIRST_GATE new (gate - FIRST_GATE) 0) ∙ ap (λ (l : List ℕ). get_or l (gate - FIRST_GATE) 0) t.1
        ∙ get_or-drop FIRST_GATE mid (gate - FIRST_GATE) 0 ∙ ap (λ n. get_or mid n 0) there ∙ opened_gate old (behind_gate p) gate inside in
        inr (ap (λ n. n == 1) byte, same-read (log_of new) left (before ++ added) reads (marks-records FIRST_GATE gate old mid new before added fits ends reads-old at_gate (is-forced room) t.0))

  -- at each call of a step
  at-call : (stop : Stop) (loads : ℕ) → log_of (stop_torn stop loads old (step ∷ (cond (end_with_checkpoint added) (mark_writes (length (slots_in old)) gate) []))) ≡ Ok left
      → ReadsByGate gate before added (stop_torn stop loads old (step ∷ (cond (end_with_checkpoint added) (mark_writes (length (slots_in old)) gate) []))) left
  at-call stop loads = at (nat_le stop.call loads) (nat_le call 4) refl refl (end_with_checkpoint added) (nat_lt (length (slots_in old)) SLOTS) refl refl
    where
      call : ℕ
      call = stop.call - loads

      image : Bool → Bool → List ℕ → List ℕ
      image loading forcing behind = cond loading old (cond forcing (write_torn (stop.call - loads) stop.keep stop.fill old step) behind)

      alone : (l f : Bool) → nat_le stop.call loads ≡ l → nat_le (stop.call - loads) 4 ≡ f → log_of (image l f mid) ≡ Ok left → ReadsByGate gate before added (image l f mid) left
      alone l f a b =
          subst (λ t. log_of (image l t mid) ≡ Ok left → ReadsByGate gate before added (image l t mid) left) b
          (subst (λ t. log_of (image t (nat_le (stop.call - loads) 4) mid) ≡ Ok left → ReadsByGate gate before added (image t (nat_le (stop.call - loads) 4) mid) left) a
          (records.reads-by-gate placed_with payload_of Fits some-bytes push old gate added before left reads-old at_gate some fits stop loads))

      at : (l f : Bool) → nat_le stop.call loads ≡ l → nat_le (stop.call - loads) 4 ≡ f → (e s : Bool) → end_with_checkpoint added ≡ e → nat_lt (length (slots_in old)) SLOTS ≡ s
          → log_of (image l f (writes_torn (stop.call - loads - 4) stop.keep stop.fill mid (cond e (cond s (slot_write (length (slots_in old)) gate ∷ []) []) []))) ≡ Ok left
          → ReadsByGate gate before added (image l f (writes_torn (stop.call - loads - 4) stop.keep stop.fill mid (cond e (cond s (slot_write (length (slots_in old)) gate ∷ []) []) []))) left
      at true f a b e s c d reads = alone true f a b reads
      at false true a b e s c d reads = alone false true a b reads
      at false false a b false s c d reads = alone false false a b reads
      at false false a b true false c d reads = alone false false a b reads
      at false false a b true true c d reads =
          let few : length (slots_in old) < SLOTS = lt-is (length (slots_in old)) SLOTS d in
          let new = writes_torn (stop.call - loads - 4) stop.keep stop.fill mid (slot_write (length (slots_in old)) gate ∷ []) in
          let l = log_parts new left reads in
          let short : length mid ≤ LOG_BYTES = omega (arith, no_shorter mid (slot_write (length (slots_in old)) gate) (omega (arith, few, middle, low)) (stop.call - loads - 4) stop.keep stop.fill, (frame_parts new l.bs l.frame).short) in
          marked c few new reads
          (λ count small long. mark_leaves FIRST_GATE (omega arith) mid gate (length (slots_in old)) count few long small (stop.call - loads - 4) stop.keep stop.fill) short

pub torn_reads : TornReadsByGate
torn_reads stop loads gate old added before left reads-old at_gate some fits reads = at-call gate old added before left reads-old at_gate some fits stop loads reads

pub gates_are_shut : GatesAreShut
gates_are_shut gate old before log at_gate = records.shut-before placed_with payload_of Fits some-bytes push gate old before log at_gate
