-- Going through the slots of a log beside its batches.
use Rattle.std.proofs.Common.{◌≡◌, ◌∙◌, ap, sym, refl, ℕ, zero, suc, ◌+◌, ◌<◌, ◌≤◌, Bool, true, false, cond, List, [], ◌∷◌, length, get_or, drop, Option, Some, None, arith}
use Rattle.std.specs.Prelude.{◌==◌, ◌||◌, is_some}
use Rattle.std.proofs.lemmas.List.{length-drop, nil_from_length}
use Rattle.ic_base.specs.declared.record.Batch.{Batch}
use Rattle.ic_base.specs.declared.record.Record.{Record}
use Rattle.ic_base.specs.declared.record.Record.TheVariants.{Take, TakeWhole, Input, Value, Outcome, Released, Shown, Checkpoint, Epoch, Decided}
use Rattle.def_log.specs.Directory.{slot_place, first_bad_slot}
use Rattle.def_log.specs.Log.{is_checkpoint, end_with_checkpoint, ends_with_checkpoint}
use Rattle.def_step.specs.Replay.{image_in}
use Rattle.ic_gate.specs.Slots.{names}

-- the slots from one of them on
abbrev pub from : List ℕ → ℕ → List Batch → Option ℕ
from slots n bs = first_bad_slot ends_with_checkpoint (slot_place n) (drop n slots) bs

later : (n o : ℕ) (os : List ℕ) → drop (n + 1) os ≡ drop (suc n + 1) (o ∷ os)
later n o os = let more : suc (n + 1) ≡ suc n + 1 = omega arith in ap (λ k. drop k (o ∷ os)) more

-- a batch that it names is looked at
named_step : (slots : List ℕ) (n place : ℕ) (b : Batch) (bs : List Batch) → names slots n b.at ≡ true
    → cond (ends_with_checkpoint b) (first_bad_slot ends_with_checkpoint (place + 9) (drop (n + 1) slots) bs) (Some place) ≡ first_bad_slot ends_with_checkpoint place (drop n slots) (b ∷ bs)
named_step [] zero place b bs e = absurd (cc e)
named_step [] (suc n) place b bs e = absurd (cc e)
named_step (o ∷ os) zero place b bs e = at (b.at == o + 5) e
  where
    looked : Option ℕ
    looked = cond (ends_with_checkpoint b) (first_bad_slot ends_with_checkpoint (place + 9) os bs) (Some place)

    at : (t : Bool) → t || false ≡ true → looked ≡ cond t looked (first_bad_slot ends_with_checkpoint place (o ∷ os) bs)
    at true d = refl
    at false d = absurd (cc d)
named_step (o ∷ os) (suc n) place b bs e =
    ap (λ l. cond (ends_with_checkpoint b) (first_bad_slot ends_with_checkpoint (place + 9) l bs) (Some place)) (sym (later n o os)) ∙ named_step os n place b bs e

-- one that it doesn't is passed over
other_step : (slots : List ℕ) (n place : ℕ) (b : Batch) (bs : List Batch) → names slots n b.at ≡ false
    → first_bad_slot ends_with_checkpoint place (drop n slots) bs ≡ first_bad_slot ends_with_checkpoint place (drop n slots) (b ∷ bs)
other_step [] zero place b bs e = refl
other_step [] (suc n) place b bs e = refl
other_step (o ∷ os) zero place b bs e = at (b.at == o + 5) e
  where
    at : (t : Bool) → t || false ≡ false → first_bad_slot ends_with_checkpoint place (o ∷ os) bs ≡ cond t (cond (ends_with_checkpoint b) (first_bad_slot ends_with_checkpoint (place + 9) os bs) (Some place)) (first_bad_slot ends_with_checkpoint place (o ∷ os) bs)
    at true d = absurd (cc d)
    at false d = refl
other_step (o ∷ os) (suc n) place b bs e = other_step os n place b bs e

pub passed_over : (slots : List ℕ) (n at : ℕ) (b : Batch) (bs : List Batch) → names slots n at ≡ false → b.at ≡ at → from slots n bs ≡ from slots n (b ∷ bs)
passed_over slots n at b bs e here = other_step slots n (slot_place n) b bs (ap (names slots n) here ∙ e)

pub looked_at : (slots : List ℕ) (n at : ℕ) (b : Batch) (bs : List Batch) (ends : Bool) → names slots n at ≡ true → b.at ≡ at → ends_with_checkpoint b ≡ ends → cond ends (from slots (n + 1) bs) (Some (slot_place n)) ≡ from slots n (b ∷ bs)
looked_at slots n at b bs ends e here is =
    let place : slot_place (n + 1) ≡ slot_place n + 9 = omega arith in
    ap (λ k. cond ends (first_bad_slot ends_with_checkpoint k (drop (n + 1) slots) bs) (Some (slot_place n))) place
    ∙ ap (λ t. cond t (first_bad_slot ends_with_checkpoint (slot_place n + 9) (drop (n + 1) slots) bs) (Some (slot_place n))) (sym is)
    ∙ named_step slots n (slot_place n) b bs (ap (names slots n) here ∙ e)

-- a slot that names one is there
pub there : (slots : List ℕ) (n at : ℕ) → names slots n at ≡ true → n < length slots
there [] zero at e = absurd (cc e)
there [] (suc n) at e = absurd (cc e)
there (o ∷ os) zero at e = omega arith
there (o ∷ os) (suc n) at e = omega (arith, there os n at e)

-- behind all slots nothing is asked
pub all_named : (slots : List ℕ) (n : ℕ) (bs : List Batch) → length slots ≤ n → from slots n bs ≡ None
all_named slots n bs le = ap (λ l. first_bad_slot ends_with_checkpoint (slot_place n) l bs) (nil_from_length (drop n slots) (omega (arith, le, length-drop n slots)))

-- with no batch left the next slot is bad
pub left_over : (slots : List ℕ) (n : ℕ) → n < length slots → Some (slot_place n) ≡ from slots n []
left_over slots n lt = at (slot_place n) slots n lt
  where
    at : (place : ℕ) (slots : List ℕ) (n : ℕ) → n < length slots → Some place ≡ first_bad_slot ends_with_checkpoint place (drop n slots) []
    at place [] n lt = absurd (omega (arith, lt))
    at place (o ∷ os) zero lt = refl
    at place (o ∷ os) (suc n) lt = at place os n (omega (arith, lt))

-- the last of the records
pub image_is : (r : Record) → is_some (image_in r) ≡ is_checkpoint r
image_is (Take from k stamp) = refl
image_is (TakeWhole from k stamp handler xs) = refl
image_is (Input stamp handler xs) = refl
image_is (Value n place s x) = refl
image_is (Outcome stamp n abort) = refl
image_is (Released to k) = refl
image_is (Shown m) = refl
image_is (Checkpoint image) = refl
image_is (Epoch epoch) = refl
image_is (Decided stamp c n ws) = refl

pub last_is : (rs : List Record) (i : ℕ) (r : Record) → i + 1 ≡ length rs → r ≡ get_or rs i r → is_some (image_in r) ≡ end_with_checkpoint rs
last_is [] i r last is = absurd (omega (arith, last))
last_is (q ∷ []) zero r last is = ap (λ (x : Record). is_some (image_in x)) is ∙ image_is q
last_is (q ∷ []) (suc i) r last is = absurd (omega (arith, last))
last_is (q ∷ p ∷ rs) zero r last is = absurd (omega (arith, last))
last_is (q ∷ p ∷ rs) (suc i) r last is = last_is (p ∷ rs) i r (omega (arith, last)) is
