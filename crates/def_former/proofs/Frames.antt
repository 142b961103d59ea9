-- The batches of a log of the former format, and how long they are.
use Rattle.std.proofs.Common.{◌≡◌, ℕ, zero, suc, ◌+◌, ◌^◌, ◌<◌, ◌≤◌, List, [], ◌∷◌, length, take, drop, Option, Some, None, refl, arith}
use Rattle.std.specs.Prelude.{Result, Ok, Err, nat_lt}
use Rattle.std.specs.List.{AllByRecursion}
use Rattle.std.specs.Int.{w32, to_be_bytes}
use Rattle.std.proofs.lemmas.List.{length-append, length-drop}
use Rattle.ic_base.specs.declared.record.Batch.{Batch}
use Rattle.def_log.specs.Frame.{batch, batches, batches_from, batches_at, first_difference}
use Rattle.def_log.specs.Laws.{IsPayload}
use Rattle.def_log.specs.Sizes.{span}
use Rattle.def_log.proofs.Keeps.{first_of_all, none_yet, is_whole, span_fits}
use Rattle.def_log.proofs.Steps.{behind, other_side, not_less}
use Rattle.def_former.specs.declared.limits.TheConstants.{FORMER_GATE, FORMER_LOG_BYTES}
use Rattle.def_former.specs.Frame.{former_letters, behind_former_letters, former_frame_of}
use Rattle.def_former.specs.Migrated.{payloads_of}

-- the parts of a whole frame of the former format
pub record IsFormerFrame (bytes : List ℕ) (bs : List Batch) : Type 0 where
  pub short : length bytes ≤ FORMER_LOG_BYTES
  pub batches_same : batches_at FORMER_GATE bytes ≡ Ok bs

letters_passed : (behind : Result (List Batch) ℕ) (bytes : List ℕ) (found : Option ℕ) (bs : List Batch) → behind_former_letters behind bytes found ≡ Ok bs → behind ≡ Ok bs
letters_passed behind bytes (Some place) bs e = absurd (cc e)
letters_passed behind bytes None bs e = (other_side (nat_lt (length bytes) FORMER_GATE) (Err (length bytes)) behind (Ok bs) (λ differs. cc) e).1

pub former_parts : (bytes : List ℕ) (bs : List Batch) → former_frame_of bytes ≡ Ok bs → IsFormerFrame bytes bs
unfolding former_frame_of
former_parts bytes bs e =
    let inner : Result (List Batch) ℕ = behind_former_letters (batches_at FORMER_GATE bytes) bytes (first_difference former_letters (take 8 bytes)) in
    let parts = other_side (nat_lt FORMER_LOG_BYTES (length bytes)) (Err FORMER_LOG_BYTES) inner (Ok bs) (λ differs. cc) e in
    record {
      short = not_less FORMER_LOG_BYTES (length bytes) parts.0;
      batches_same = letters_passed (batches_at FORMER_GATE bytes) bytes (first_difference former_letters (take 8 bytes)) bs parts.1;
    }

-- the payloads of batches that were read can be those of batches
pub payloads_fit : (n gate : ℕ) (bytes : List ℕ) (bs : List Batch) → batches_from n gate bytes ≡ Ok bs → length bytes < 2 ^ 32 → AllByRecursion IsPayload (payloads_of bs)
payloads_fit n gate bytes [] e short = tt
payloads_fit zero gate bytes (b ∷ bs) e short = absurd (none_yet gate bytes b bs e)
payloads_fit (suc n) gate bytes (b ∷ bs) e short =
    let parts = first_of_all n gate bytes b bs e in
    let whole = is_whole gate bytes b parts.0 in (
      (whole.some, omega (arith, whole.fits, short)),
      payloads_fit n (gate + 5 + length b.payload) (behind b bytes) bs parts.1 (omega (arith, short, length-drop (length b.payload) (drop 5 bytes), length-drop 5 bytes)),
    )

-- batches take up as many bytes wherever they stand
pub length-batches : (bs : List Batch) → length (batches (payloads_of bs)) ≡ span bs
length-batches [] = refl
length-batches (b ∷ bs) =
    omega (arith, length-batches bs, length-append (1 ∷ batch b.payload) (batches (payloads_of bs)), length-append (to_be_bytes w32 (length b.payload)) b.payload)

-- the batches of a log of the former format leave room for a header and a gate
pub batches_short : (bytes : List ℕ) (bs : List Batch) → IsFormerFrame bytes bs → span bs < FORMER_LOG_BYTES
batches_short bytes bs f = omega (arith, f.short, span_fits (length bytes) FORMER_GATE (drop FORMER_GATE bytes) bs f.batches_same, length-drop FORMER_GATE bytes)
