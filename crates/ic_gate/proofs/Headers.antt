-- What stands behind a header that was passed.
use Rattle.std.proofs.Common.{◌≡◌, inr, refl, ◌∙◌, ap, sym, subst, ℕ, ◌+◌, ◌-◌, ◌<◌, ◌≤◌, Bool, true, false, cond, List, [], ◌∷◌, length, take, drop, Option, Some, None, arith, get_or}
use Rattle.ic_base.specs.declared.limits.TheConstants.{FIRST_GATE, LOG_BYTES}
use Rattle.std.specs.Prelude.{Result, Ok, Err, nat_lt, nat_le, bytes_eq, not, ◌&&◌, ◌||◌, ◌==◌}
use Rattle.std.proofs.lemmas.Bool.Decides.{nat_tests}
use Rattle.std.proofs.lemmas.List.{take_rest, length-drop}
use Rattle.ic_base.specs.declared.record.Batch.{Batch}
use Rattle.def_log.specs.Directory.{first_slot, slots_in, first_bad_slot, unless_bad, last_offset}
use Rattle.def_log.specs.Frame.{letters, any_batch, batches_from, batches_at, first_difference, with_slots, behind_letters, behind_header, frame_of, owner_in}
use Rattle.def_log.specs.Loads.{of_owner, frame_for}
use Rattle.def_log.proofs.Frames.{header_passed}
use Rattle.def_log.specs.Changes.{gate_from, counted, forced_from, is_start}
use Rattle.def_log.specs.Sizes.{span, payload_count, gate_behind}
use Rattle.def_log.proofs.Tails.{enough, frame_parts, is_passed}
use Rattle.law_marks.proofs.Owners.{owned}
use Rattle.def_log.specs.Images.{LeavesJust}
use Rattle.ic_disk.specs.declared.disk.Disk.{Ghosts}
use Rattle.ic_gate.specs.Reading.{IsAtRest, RefusesToRead, RefusesToLoad}
use Rattle.ic_gate.specs.declared.refusals.LoadWhy.{LoadWhy}
use Rattle.ic_gate.specs.declared.refusals.LoadWhy.TheVariants.{Bad, Foreign, Failed, Stopped, Memory}
use Rattle.def_log.specs.Tail.{tail_gate, tail_slot, batches_by, tail_frame_of}

-- the batches of what stands behind the header
pub walk_slice : (bytes : List ℕ) (r : Result (List Batch) ℕ) → batches_from (length (take (length bytes - FIRST_GATE) (drop FIRST_GATE bytes))) FIRST_GATE (take (length bytes - FIRST_GATE) (drop FIRST_GATE bytes)) ≡ r → batches_at FIRST_GATE bytes ≡ r
walk_slice bytes r e =
    let same : take (length bytes - FIRST_GATE) (drop FIRST_GATE bytes) ≡ drop FIRST_GATE bytes = take_rest bytes FIRST_GATE in
    enough (length bytes) (length (drop FIRST_GATE bytes)) FIRST_GATE (drop FIRST_GATE bytes) (omega (arith, length-drop FIRST_GATE bytes)) (omega arith)
    ∙ ap (λ (l : List ℕ). batches_from (length l) FIRST_GATE l) (sym same) ∙ e

-- a header that is refused refuses the frame
pub head_refused : (owner : ℕ) (bytes : List ℕ) (place : ℕ) → ((behind : Result (List Batch) ℕ) → of_owner owner bytes (behind_header behind bytes) ≡ Err place) → frame_for owner bytes ≡ Err place
unfolding frame_of
head_refused owner bytes place bad = bad (with_slots (slots_in bytes) (batches_at FIRST_GATE bytes))

module _ (owner : ℕ) (bytes : List ℕ) (short : length bytes ≤ LOG_BYTES) (long : FIRST_GATE ≤ length bytes) (same : first_difference letters (take 8 bytes) ≡ None) (own : owner_in bytes ≡ owner) where
  pub frame_is : frame_of bytes ≡ with_slots (slots_in bytes) (batches_at FIRST_GATE bytes)
  unfolding frame_of
  frame_is = header_passed (with_slots (slots_in bytes) (batches_at FIRST_GATE bytes)) bytes short long same

  pub frame_for_is : frame_for owner bytes ≡ with_slots (slots_in bytes) (batches_at FIRST_GATE bytes)
  frame_for_is = owned owner bytes (frame_of bytes) own ∙ frame_is

  pub bad_walk : (place : ℕ) → batches_at FIRST_GATE bytes ≡ Err place → frame_for owner bytes ≡ Err place
  bad_walk place e = frame_for_is ∙ ap (with_slots (slots_in bytes)) e

  pub bad_slot : (slots : List ℕ) (bs : List Batch) (place : ℕ) → slots ≡ slots_in bytes → batches_at FIRST_GATE bytes ≡ Ok bs → Some place ≡ first_bad_slot any_batch first_slot slots bs → frame_for owner bytes ≡ Err place
  bad_slot slots bs place s e bad =
      frame_for_is ∙ ap (with_slots (slots_in bytes)) e ∙ ap (λ (l : List ℕ). unless_bad (first_bad_slot any_batch first_slot l bs) bs) (sym s) ∙ ap (λ (o : Option ℕ). unless_bad o bs) (sym bad)

  pub whole : (slots : List ℕ) (bs : List Batch) → slots ≡ slots_in bytes → batches_at FIRST_GATE bytes ≡ Ok bs → None ≡ first_bad_slot any_batch first_slot slots bs → frame_of bytes ≡ Ok bs
  whole slots bs s e good =
      frame_is ∙ ap (with_slots (slots_in bytes)) e ∙ ap (λ (l : List ℕ). unless_bad (first_bad_slot any_batch first_slot l bs) bs) (sym s) ∙ ap (λ (o : Option ℕ). unless_bad o bs) (sym good)

-- a file that passes the limit
pub too_long : (owner : ℕ) (bytes : List ℕ) → LOG_BYTES < length bytes → frame_for owner bytes ≡ Err LOG_BYTES
unfolding frame_of
too_long owner bytes long =
    let past : nat_lt LOG_BYTES (length bytes) ≡ true = grind (arith, nat_tests) in
    let none : nat_le (length bytes) LOG_BYTES ≡ false = grind (arith, nat_tests) in
    ap (λ t. cond ((t && (nat_le FIRST_GATE (length bytes) && bytes_eq (take 8 bytes) letters)) && not (owner_in bytes == owner)) (Err 40) (frame_of bytes)) none
    ∙ ap (λ t. cond t (Err LOG_BYTES) (behind_letters (with_slots (slots_in bytes) (batches_at FIRST_GATE bytes)) bytes (first_difference letters (take 8 bytes)))) past

-- what was read rests on the disk
pub read_rests : {D : Type 0} (d : Ghosts D) → ((disk : D) → d.keeps disk → d.tells disk) → (old new : D) → (d.tells old → d.seen new ≡ d.seen old) → (d.keeps old → LeavesJust (d.may_leave new) (d.seen new)) → IsAtRest d old new
read_rests d tells old new same just = record { bytes = same; images = λ keeps. subst (LeavesJust (d.may_leave new)) (same (tells old keeps)) (just keeps) }

pub read_refused : {D : Type 0} (d : Ghosts D) (old new : D) (given : List ℕ) (owner : ℕ) (why : LoadWhy) → RefusesToRead d old new why → RefusesToLoad d old given owner new why
read_refused d old new given owner (Bad place) r = record {
  frame = λ t. too_long owner (d.seen old) (r.1 t) ∙ ap (λ (n : ℕ). Err n) (sym r.0);
  not_foreign = λ t kept f. absurd (omega (arith, f.0.short, r.1 t));
  bytes = r.2;
  calls = inr (r.3, r.0, r.1);
}
read_refused d old new given owner (Foreign kept) r = absurd r
read_refused d old new given owner Failed r = r
read_refused d old new given owner Stopped r = r
read_refused d old new given owner Memory r = r

-- a log that was read whole
pub load_gate : (start gate : ℕ) (seen : List ℕ) (bs : List Batch) → start ≡ FIRST_GATE → gate ≡ start + span bs → frame_of seen ≡ Ok bs → gate_from start seen ≡ Some gate
load_gate start gate seen bs first placed e =
    ap (λ n. gate_from n seen) first ∙ ap (gate_behind FIRST_GATE) (frame_parts seen bs e).batches_same ∙ ap (λ (n : ℕ). Some n) (omega (arith, first, placed))

pub load_count : (start count : ℕ) (seen : List ℕ) (bs : List Batch) → start ≡ FIRST_GATE → count ≡ payload_count bs → frame_of seen ≡ Ok bs → forced_from start seen ≡ Some count
load_count start count seen bs first is e = ap (λ n. forced_from n seen) first ∙ ap counted (frame_parts seen bs e).batches_same ∙ ap (λ (n : ℕ). Some n) (sym is)

pub first_starts : (slots : List ℕ) → is_start FIRST_GATE slots ≡ true
first_starts [] = refl
first_starts (o ∷ slots) = at (FIRST_GATE == o) (first_starts slots)
  where
    at : (t : Bool) → is_start FIRST_GATE slots ≡ true → t || is_start FIRST_GATE slots ≡ true
    at true e = refl
    at false e = e

-- a walk from the gate of a tail
pub tail_starts : (slots : List ℕ) → is_start (last_offset FIRST_GATE slots) slots ≡ true
tail_starts [] = refl
tail_starts (o ∷ slots) = last o slots
  where
    last : (o : ℕ) (slots : List ℕ) → is_start (last_offset o slots) (o ∷ slots) ≡ true
    last o [] = let same : (o == o) ≡ true = grind (arith, nat_tests) in ap (λ t. t || (o == FIRST_GATE)) same
    last o (p ∷ slots) = at (last_offset p slots == o) (last p slots)
      where
        at : (t : Bool) → is_start (last_offset p slots) (p ∷ slots) ≡ true → t || is_start (last_offset p slots) (p ∷ slots) ≡ true
        at true e = refl
        at false e = e

-- a log whose tail was read
pub tail_walk : (bytes : List ℕ) (bs : List Batch) → tail_frame_of bytes ≡ Ok bs → batches_at (tail_gate bytes) bytes ≡ Ok bs
unfolding tail_frame_of
tail_walk bytes bs e = at (tail_slot bytes) (is_passed (batches_by (tail_slot bytes) (tail_gate bytes) bytes) bytes bs e).is
  where
    at : (slot : Option ℕ) → batches_by slot (tail_gate bytes) bytes ≡ Ok bs → batches_at (tail_gate bytes) bytes ≡ Ok bs
    at None d = d
    at (Some place) d = by (nat_le FIRST_GATE (tail_gate bytes) && (get_or bytes (tail_gate bytes) 0 == 1)) d
      where
        by : (t : Bool) → cond t (batches_at (tail_gate bytes) bytes) (Err place) ≡ Ok bs → batches_at (tail_gate bytes) bytes ≡ Ok bs
        by true f = f
        by false f = absurd (cc f)

pub tail_gate_is : (start gate : ℕ) (seen : List ℕ) (bs : List Batch) → tail_gate seen ≡ start → gate ≡ start + span bs → tail_frame_of seen ≡ Ok bs → gate_from start seen ≡ Some gate
tail_gate_is start gate seen bs first placed e =
    ap (λ n. gate_from n seen) (sym first) ∙ ap (gate_behind (tail_gate seen)) (tail_walk seen bs e) ∙ ap (λ (n : ℕ). Some n) (omega (arith, first, placed))

pub tail_count_is : (start count : ℕ) (seen : List ℕ) (bs : List Batch) → tail_gate seen ≡ start → count ≡ payload_count bs → tail_frame_of seen ≡ Ok bs → forced_from start seen ≡ Some count
tail_count_is start count seen bs first is e = ap (λ n. forced_from n seen) (sym first) ∙ ap counted (tail_walk seen bs e) ∙ ap (λ (n : ℕ). Some n) (sym is)
