-- Walking over the batches of a file up to the closed gate.
use Rattle.std.proofs.Common.{◌≡◌, ℕ, ◌+◌, ◌-◌, ◌≤◌, List, [], ◌∷◌, ◌++◌, length, drop, Option, Some, None, refl, sym, ap, ◌∙◌, append_assoc, arith}
use Rattle.std.specs.Prelude.{Ok, Err}
use Rattle.ic_base.specs.declared.record.Batch.{Batch}
use Rattle.def_log.specs.Changes.{counted}
use Rattle.def_log.specs.Directory.{first_slot, first_bad_slot, unless_bad}
use Rattle.def_log.specs.Frame.{any_batch, batches_from, with_slots}
use Rattle.def_log.specs.Loading.{first_batch}
use Rattle.def_log.specs.Sizes.{span, payload_count, gate_behind}
use Rattle.def_log.proofs.Spans.{span-push, payload_count-push}
use Rattle.std.proofs.lemmas.List.{append-nil}
use Rattle.ic_gate.specs.Gates.{batches_with}
use Rattle.ic_gate.specs.Slots.{unnamed_behind}
use Rattle.ic_gate.proofs.ReadBatches.{IsReadTo, all_read, refused, fits, one_more, gate_there, at_first}

-- the batches before the gate have so many payload bytes, and so many slots name them
pub record IsWalkedTo (start : ℕ) (bytes slots : List ℕ) (gate forced named : ℕ) : Type 0 where
  pub batches : List Batch
  pub read : IsReadTo start bytes batches gate
  pub place : gate ≡ start + span batches
  pub count : forced ≡ payload_count batches
  pub slots_same : (bs : List Batch) → first_bad_slot any_batch first_slot slots (batches ++ bs) ≡ unnamed_behind slots named bs

pub none_walked : (start : ℕ) (bytes slots : List ℕ) → IsWalkedTo start bytes slots start 0 0
none_walked start bytes slots = record { batches = []; read = at_first start bytes; place = omega arith; count = refl; slots_same = λ bs. refl }

module _ (start : ℕ) (bytes slots : List ℕ) (gate forced named : ℕ) (walked : IsWalkedTo start bytes slots gate forced named) (inside : gate - start ≤ length bytes) where
  -- one batch more
  pub walk_on : (b : Batch) (more : ℕ) → first_batch gate (drop (gate - start) bytes) ≡ Ok (Some b) → ((bs : List Batch) → unnamed_behind slots more bs ≡ unnamed_behind slots named (b ∷ bs))
      → IsWalkedTo start bytes slots (gate + (5 + length b.payload)) (forced + length b.payload) more
  walk_on b more e on = record {
    batches = walked.batches ++ b ∷ [];
    read = let next : gate + 5 + length b.payload ≡ gate + (5 + length b.payload) = omega arith in rw (← next) (one_more start bytes walked.batches gate walked.place inside walked.read b e);
    place = omega (arith, walked.place, span-push walked.batches b);
    count = omega (arith, walked.count, payload_count-push walked.batches b);
    slots_same = λ bs. ap (first_bad_slot any_batch first_slot slots) (append_assoc walked.batches (b ∷ []) bs) ∙ walked.slots_same (b ∷ bs) ∙ sym (on bs);
  }

  pub next_inside : (b : Batch) → first_batch gate (drop (gate - start) bytes) ≡ Ok (Some b) → gate + (5 + length b.payload) ≤ start + length bytes
  next_inside b e = omega (arith, walked.place, fits start bytes walked.batches gate walked.place inside walked.read b e)

  -- what stands at the gate is refused
  pub walk_refused : (at : ℕ) → first_batch gate (drop (gate - start) bytes) ≡ Err at → batches_with slots start bytes ≡ Err at
  walk_refused at e = ap (with_slots slots) (refused start bytes walked.batches gate walked.place inside walked.read at e)

  module _ (closed : first_batch gate (drop (gate - start) bytes) ≡ Ok None) where
    walked_all : batches_from (length bytes) start bytes ≡ Ok walked.batches
    walked_all = all_read start bytes walked.batches gate walked.place inside walked.read (gate_there gate (drop (gate - start) bytes) _ closed) closed

    -- the slots are looked at behind all batches
    pub ended : batches_with slots start bytes ≡ unless_bad (unnamed_behind slots named []) walked.batches
    ended =
        ap (with_slots slots) walked_all
        ∙ ap (λ (bs : List Batch). unless_bad (first_bad_slot any_batch first_slot slots bs) walked.batches) (sym (append-nil walked.batches))
        ∙ ap (λ (o : Option ℕ). unless_bad o walked.batches) (walked.slots_same [])

    pub slot_refused : (at : ℕ) → unnamed_behind slots named [] ≡ Some at → batches_with slots start bytes ≡ Err at
    slot_refused at e = ended ∙ ap (λ (o : Option ℕ). unless_bad o walked.batches) e

    module _ (good : unnamed_behind slots named [] ≡ None) where
      whole : batches_with slots start bytes ≡ Ok walked.batches
      whole = ended ∙ ap (λ (o : Option ℕ). unless_bad o walked.batches) good

      pub gate_is : gate_behind start (batches_with slots start bytes) ≡ Some gate
      gate_is = ap (gate_behind start) whole ∙ ap (λ (n : ℕ). Some n) (sym walked.place)

      pub forced_is : counted (batches_with slots start bytes) ≡ Some forced
      forced_is = ap counted whole ∙ ap (λ (n : ℕ). Some n) (sym walked.count)
