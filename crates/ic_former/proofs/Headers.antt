-- What stands behind a header of the former format that was passed.
use Rattle.std.proofs.Common.{◌≡◌, refl, ◌∙◌, ap, sym, ℕ, ◌-◌, ◌≤◌, false, ltb, List, length, take, drop, None, arith}
use Rattle.std.specs.Prelude.{Result, Err}
use Rattle.std.proofs.lemmas.Bool.{le-ltb}
use Rattle.std.proofs.lemmas.List.{take_rest, length-drop}
use Rattle.ic_base.specs.declared.record.Batch.{Batch}
use Rattle.def_log.specs.Frame.{batches_from, batches_at, first_difference}
use Rattle.def_log.proofs.Tails.{enough}
use Rattle.def_former.specs.declared.limits.TheConstants.{FORMER_GATE, FORMER_LOG_BYTES}
use Rattle.def_former.specs.Frame.{former_letters, behind_former_letters, behind_former_header, former_frame_of}

-- the batches of what stands behind the header
pub walk_slice : (bytes : List ℕ) (r : Result (List Batch) ℕ) → batches_from (length (take (length bytes - FORMER_GATE) (drop FORMER_GATE bytes))) FORMER_GATE (take (length bytes - FORMER_GATE) (drop FORMER_GATE bytes)) ≡ r → batches_at FORMER_GATE bytes ≡ r
walk_slice bytes r e =
    let same : take (length bytes - FORMER_GATE) (drop FORMER_GATE bytes) ≡ drop FORMER_GATE bytes = take_rest bytes FORMER_GATE in
    enough (length bytes) (length (drop FORMER_GATE bytes)) FORMER_GATE (drop FORMER_GATE bytes) (omega (arith, length-drop FORMER_GATE bytes)) (omega arith)
    ∙ ap (λ (l : List ℕ). batches_from (length l) FORMER_GATE l) (sym same) ∙ e

-- a header that is refused refuses the frame
pub head_refused : (bytes : List ℕ) (place : ℕ) → ((behind : Result (List Batch) ℕ) → behind_former_header behind bytes ≡ Err place) → former_frame_of bytes ≡ Err place
unfolding former_frame_of
head_refused bytes place bad = bad (batches_at FORMER_GATE bytes)

-- behind a header that is whole the batches are all that is asked
pub frame_is : (bytes : List ℕ) → length bytes ≤ FORMER_LOG_BYTES → FORMER_GATE ≤ length bytes → first_difference former_letters (take 8 bytes) ≡ None → former_frame_of bytes ≡ batches_at FORMER_GATE bytes
unfolding former_frame_of
frame_is bytes short long same =
    let behind : Result (List Batch) ℕ = batches_at FORMER_GATE bytes in
    let first : ltb FORMER_LOG_BYTES (length bytes) ≡ false = le-ltb _ _ short in
    let second : ltb (length bytes) FORMER_GATE ≡ false = le-ltb _ _ long in
    rw first (ap (behind_former_letters behind bytes) same ∙ rw second refl)
