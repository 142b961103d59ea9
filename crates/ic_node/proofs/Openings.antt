-- What the file reads as behind a stop, and whether the gate of its batch is open.
use Rattle.std.proofs.Common.{◌≡◌, ◌≢◌, ◌∙◌, refl, sym, ap, subst, ◌⊎◌, inl, inr, ℕ, suc, ◌+◌, ◌-◌, ◌<◌, ◌≤◌, Bool, true, false, cond, List, [], ◌∷◌, ◌++◌, length, take, drop, get_or, Option, Some, None, arith}
use Rattle.std.specs.Prelude.{Result, Ok, nat_le, nat_lt, ◌==◌, option_map, unwrap_or}
use Rattle.std.proofs.lemmas.Bool.{cases_eq, le-ltb, lt-ltb}
use Rattle.std.proofs.lemmas.Bool.Decides.{nat_tests}
use Rattle.std.proofs.lemmas.List.{get_or-drop, length-append, length-take, length-drop, drop-drop}
use Rattle.ic_base.specs.declared.events.Fill.{Fill}
use Rattle.ic_base.specs.declared.limits.TheConstants.{FIRST_GATE, LOG_BYTES, SLOTS}
use Rattle.ic_base.specs.declared.record.Batch.{Batch}
use Rattle.ic_base.specs.declared.record.Record.{Record}
use Rattle.def_log.specs.Changes.{IsOfSame, IsForced, gate_from}
use Rattle.def_log.specs.Directory.{slots_in}
use Rattle.def_log.specs.Frame.{batches_from, frame_of, letters, first_difference, IsWellFormed, IsForeign}
use Rattle.def_log.specs.Gated.{GatedWrite, batch_write, gate_opened, slot_write, log_writes}
use Rattle.def_log.specs.Loads.{behind_gate}
use Rattle.def_log.specs.Log.{end_with_checkpoint, log_of}
use Rattle.def_log.specs.Sizes.{span, gate_in, size_in, gate_behind}
use Rattle.def_log.specs.Spelling.{spelling, spellings}
use Rattle.def_log.specs.Stops.{write_torn, writes_torn, is_open_at}
use Rattle.def_log.proofs.Forces as forces
use Rattle.def_log.proofs.Forces.{IsByGate, closed_gate, shut_at, first_starts, gate_of_first}
use Rattle.def_log.proofs.Gates.{IsShut, opened_length, opened_gate, put_length}
use Rattle.def_log.proofs.Keeps.{span_fits}
use Rattle.def_log.proofs.Spans.{fewer}
use Rattle.def_log.proofs.Tails.{log_parts, frame_parts}
use Rattle.law_marks.proofs.Marks.{same-records}
use Rattle.law_marks.proofs.Reading.{spelled-some}
use Rattle.law_marks.proofs.TornMarks.{mark_leaves}
use Rattle.def_log.proofs.Frames.{IsPayload}
use Rattle.def_log.proofs.TornBatches.{stop_leaves}
use Rattle.ic_gate.proofs.Naming.{gate_inside}
use Rattle.ic_gate.proofs.RecordFiles.{log_of-forced}
use Rattle.ic_gate.proofs.RecordMarks.{of_marked, reads_marked}
use Rattle.ic_gate.specs.RecordFiles.{CanStand}

-- records -----------------------------------------------------------------------------------

-- what the file reads as behind a stop, and whether the gate is open
pub record ReadsBehind (old image : List ℕ) (gate : ℕ) (fs batch : List Record) : Type 0 where
  pub read : (log_of image ≡ Ok fs) ⊎ (log_of image ≡ Ok (fs ++ batch))
  pub whose : IsOfSame old image
  pub opened : (ks : List Record) → log_of image ≡ Ok ks → is_open_at image gate ≡ nat_lt (length fs) (length ks)

some_bytes : (batch : List Record) → 0 < length batch → 0 < length (spellings batch)
some_bytes [] some = absurd (omega (arith, some))
some_bytes (r ∷ rs) some = omega (arith, length-append (spelling r) (spellings rs), spelled-some r)

module _ (old : List ℕ) (gate : ℕ) (fs batch : List Record) (at_gate : gate_in old ≡ Some gate) (reads : log_of old ≡ Ok fs) (some : 0 < length batch) (can : CanStand (gate + 1) batch) where
  bytes_some : 0 < length (spellings batch)
  bytes_some = some_bytes batch some

  room : gate + 6 + length (spellings batch) ≤ LOG_BYTES
  room = omega (arith, can.room bytes_some)

  payload : IsPayload (spellings batch)
  payload = (bytes_some, omega (arith, room))

  abbrev write : GatedWrite
  write = batch_write gate (spellings batch)

  abbrev mid : List ℕ
  mid = gate_opened old write

  here : gate_from FIRST_GATE old ≡ Some gate
  here = gate_of_first old gate at_gate

  none_more : (ks : List Record) → fs ≡ ks → nat_lt (length fs) (length ks) ≡ false
  none_more ks same = le-ltb (length fs) (length ks) (omega (arith, ap length same))

  more : (ks : List Record) → fs ++ batch ≡ ks → nat_lt (length fs) (length ks) ≡ true
  more ks same = lt-ltb (length fs) (length ks) (omega (arith, ap length same, length-append fs batch, some))

  -- one that has the whole batch, whose gate is open
  whole_behind : (image : List ℕ) → log_of image ≡ Ok (fs ++ batch) → IsOfSame old image → is_open_at image gate ≡ true → ReadsBehind old image gate fs batch
  whole_behind image read whose opened = record {
    read = inr read;
    whose = whose;
    opened = λ ks is. let same : fs ++ batch ≡ ks = let e : ◌≡◌ {A = Result (List Record) ℕ} (Ok (fs ++ batch)) (Ok ks) = sym read ∙ is in cc in opened ∙ sym (more ks same);
  }

  -- within the batch
  forced_behind : (call keep : ℕ) (fill : Fill) → ReadsBehind old (writes_torn call keep fill old (write ∷ [])) gate fs batch
  forced_behind call keep fill = by (stop_leaves FIRST_GATE gate old here (first_starts (slots_in old)) (omega arith) (spellings batch) payload room call keep fill)
    where
      image : List ℕ
      image = writes_torn call keep fill old (write ∷ [])

      by : IsByGate FIRST_GATE old gate (spellings batch) image → ReadsBehind old image gate fs batch
      by (inl x) =
          let read : log_of image ≡ Ok fs = same-records FIRST_GATE old image fs reads x.0 in
          record {
            read = inl read;
            whose = x.0.same;
            opened = λ ks is. let same : fs ≡ ks = let e : ◌≡◌ {A = Result (List Record) ℕ} (Ok fs) (Ok ks) = sym read ∙ is in cc in x.1 ∙ sym (none_more ks same);
          }
      by (inr x) = whole_behind image (log_of-forced FIRST_GATE old image (gate + 5) (spellings batch) fs batch can.fits refl x.0 reads) x.0.same x.1

  -- within its mark
  module _ (ends : end_with_checkpoint batch ≡ true) (few : length (slots_in old) < SLOTS) where
    is_forced : IsForced FIRST_GATE old mid (gate + 5) (spellings batch)
    is_forced = forces.is_forced FIRST_GATE gate old here (first_starts (slots_in old)) (omega arith) (spellings batch) payload room

    inside : gate < length old
    inside = forces.inside FIRST_GATE gate old here (first_starts (slots_in old)) (omega arith)

    low : FIRST_GATE ≤ gate
    low = (gate_inside FIRST_GATE gate old here).0

    long : FIRST_GATE ≤ length mid
    long = omega (arith, low, opened_length old (behind_gate (spellings batch)) gate inside, put_length old (behind_gate (spellings batch)) gate inside)

    marked_behind : (call keep : ℕ) (fill : Fill) → ReadsBehind old (writes_torn call keep fill mid (slot_write (length (slots_in old)) gate ∷ [])) gate fs batch
    marked_behind call keep fill =
        let image = writes_torn call keep fill mid (slot_write (length (slots_in old)) gate ∷ []) in
        let t = mark_leaves FIRST_GATE (omega arith) mid gate (length (slots_in old)) (ap length is_forced.slots) few long (omega (arith, room)) call keep fill in
        let there : FIRST_GATE + (gate - FIRST_GATE) ≡ gate = omega (arith, low) in
        let byte : get_or image gate 0 ≡ 1 =
        ap (λ n. get_or image n 0) (sym there) ∙ sym (get_or-drop FIRST_GATE image (gate - FIRST_GATE) 0) ∙ ap (λ (l : List ℕ). get_or l (gate - FIRST_GATE) 0) t.1
        ∙ get_or-drop FIRST_GATE mid (gate - FIRST_GATE) 0 ∙ ap (λ n. get_or mid n 0) there ∙ opened_gate old (behind_gate (spellings batch)) gate inside in
        let whose = of_marked FIRST_GATE mid image gate t.0 in
        whole_behind image
        (reads_marked FIRST_GATE gate (gate + 5) old mid image fs batch (spellings batch) can.fits refl ends reads here (first_starts (slots_in old)) refl is_forced t.0)
        (record { fingerprint = whose.fingerprint ∙ is_forced.same.fingerprint; owner = whose.owner ∙ is_forced.same.owner })
        (ap (λ n. n == 1) byte)

  -- at each call of a step
  pub reads_behind : (call keep : ℕ) (fill : Fill) → ReadsBehind old (writes_torn call keep fill old (log_writes old gate batch)) gate fs batch
  reads_behind call keep fill = at (nat_le call 4) (end_with_checkpoint batch) (nat_lt (length (slots_in old)) SLOTS) refl refl refl
    where
      alone : (forcing : Bool) → nat_le call 4 ≡ forcing → ReadsBehind old (cond forcing (write_torn call keep fill old write) mid) gate fs batch
      alone forcing is = subst (λ t. ReadsBehind old (cond t (write_torn call keep fill old write) mid) gate fs batch) is (forced_behind call keep fill)

      at : (forcing ends free : Bool) → nat_le call 4 ≡ forcing → end_with_checkpoint batch ≡ ends → nat_lt (length (slots_in old)) SLOTS ≡ free
          → ReadsBehind old (cond forcing (write_torn call keep fill old write) (writes_torn (call - 4) keep fill mid (cond ends (cond free (slot_write (length (slots_in old)) gate ∷ []) []) []))) gate fs batch
      at true ends free is e f = alone true is
      at false false free is e f = alone false is
      at false true false is e f = alone false is
      at false true true is e f = marked_behind e (grind (arith, f)) (call - 4) keep fill

-- headers -----------------------------------------------------------------------------------

no_difference : (xs ys : List ℕ) → length ys ≡ length xs → first_difference xs ys ≡ None → ys ≡ xs
no_difference [] [] long none = refl
no_difference [] (y ∷ ys) long none = absurd (omega (arith, long))
no_difference (x ∷ xs) [] long none = absurd (omega (arith, long))
no_difference (x ∷ xs) (y ∷ ys) long none = by (cases_eq x y) (λ same_rest. no_difference xs ys (omega (arith, long)) same_rest)
  where
    further : (o : Option ℕ) → option_map suc o ≡ None → o ≡ None
    further None e = refl
    further (Some n) e = cc

    by : (x ≡ y) ⊎ (x ≢ y) → (first_difference xs ys ≡ None → ys ≡ xs) → y ∷ ys ≡ x ∷ xs
    by (inl same) others =
        let test : (x == y) ≡ true = grind (arith, nat_tests) in
        let left : option_map suc (first_difference xs ys) ≡ None = sym (ap (λ b. cond b (option_map suc (first_difference xs ys)) (Some 0)) test) ∙ none in
        ap (λ n. n ∷ ys) (sym same) ∙ ap (λ l. x ∷ l) (others (further (first_difference xs ys) left))
    by (inr other) others =
        let test : (x == y) ≡ false = grind (arith, nat_tests) in
        let clash : ◌≡◌ {A = Option ℕ} (Some 0) None = sym (ap (λ b. cond b (option_map suc (first_difference xs ys)) (Some 0)) test) ∙ none in
        absurd (cc)

-- a log can be read up to its fingerprint
well_formed : (bytes : List ℕ) (bs : List Batch) → frame_of bytes ≡ Ok bs → IsWellFormed bytes
well_formed bytes bs is =
    let f = frame_parts bytes bs is in
    record {
      short = f.short;
      header = f.long;
      letters = no_difference letters (take 8 bytes) (omega (arith, length-take 8 bytes, f.long)) f.letters_same;
    }

-- the same log is foreign behind a stop just where it was before
pub still_foreign : (given old new kept : List ℕ) (fs : List Record) → log_of old ≡ Ok fs → IsOfSame old new → IsForeign given new kept → IsForeign given old kept
still_foreign given old new kept fs reads same foreign = (let l = log_parts old fs reads in well_formed old l.bs l.frame, foreign.1 ∙ same.fingerprint, foreign.2)

-- the gate of a log that reads is shut
pub gate_shut : (file : List ℕ) (fs : List Record) → log_of file ≡ Ok fs → is_open_at file (unwrap_or (size_in file) 0 - 1) ≡ false
gate_shut file fs reads =
    let l = log_parts file fs reads in
    let f = frame_parts file l.bs l.frame in
    let size : size_in file ≡ Some (FIRST_GATE + span l.bs + 1) = ap (λ r. option_map (λ gate. gate + 1) (gate_behind FIRST_GATE r)) l.frame in
    let at : unwrap_or (size_in file) 0 - 1 ≡ FIRST_GATE + span l.bs = let n = ap (λ o. unwrap_or o 0) size in omega (arith, n) in
    let walk : batches_from (length file) FIRST_GATE (drop FIRST_GATE file) ≡ Ok l.bs = f.batches_same in
    let shut : IsShut (drop (FIRST_GATE + span l.bs) file) = subst IsShut (drop-drop (span l.bs) FIRST_GATE file) (closed_gate (length file) FIRST_GATE (drop FIRST_GATE file) l.bs walk (omega (arith, fewer l.bs, span_fits (length file) FIRST_GATE (drop FIRST_GATE file) l.bs walk, length-drop FIRST_GATE file))) in
    subst (λ (n : ℕ). is_open_at file n ≡ false) (sym at) (shut_at file (FIRST_GATE + span l.bs) shut)
