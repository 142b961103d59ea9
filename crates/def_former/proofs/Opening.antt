-- A new log is refused until its first letter stands.
use Rattle.std.proofs.Common.{◌≡◌, ◌⊎◌, inl, inr, ℕ, ◌<◌, Bool, true, false, ltb, cond, List, [], ◌∷◌, length, take, Option, Some, None, refl, sym, ap, ◌∙◌, arith}
use Rattle.std.specs.Prelude.{Result, Ok, Err, nat_le, nat_lt, ◌==◌, ◌&&◌, not, bytes_eq}
use Rattle.std.proofs.lemmas.Bool.{lt-ltb}
use Rattle.std.proofs.lemmas.Bool.Decides.{nat_tests}
use Rattle.std.proofs.lemmas.Slice.Eq.{bytes_eq-Decides}
use Rattle.ic_base.specs.declared.limits.TheConstants.{FIRST_GATE, LOG_BYTES}
use Rattle.ic_base.specs.declared.record.Batch.{Batch}
use Rattle.def_log.specs.Directory.{slots_in}
use Rattle.def_log.specs.Frame.{letters, batches_at, first_difference, with_slots, behind_letters, behind_header, frame_of, fingerprint_in, owner_in}
use Rattle.def_log.specs.Loads.{Foreign, framed, is_well_formed, frame_for, tail_frame_for}
use Rattle.def_log.specs.Log.{◌>>=◌, placed_with, records_in}
use Rattle.def_log.specs.Tail.{tail_slot, tail_gate, batches_by, tail_frame_of}
use Rattle.def_former.specs.Opening.{IsRefused, IsWholeOrRefused, UnopenedIsRefused, OpeningLeavesWholeOrRefused}

-- a header is refused for its letters or its length
abbrev IsNoHeader : List ℕ → Type 0
IsNoHeader image = (first_difference letters (take 8 image) ≡ Some 0) ⊎ (length image < FIRST_GATE)

-- whatever stands behind it
abbrev IsRefusedAt : List ℕ → ℕ → Type 0
IsRefusedAt image place = (behind : Result (List Batch) ℕ) → behind_header behind image ≡ Err place

too_long : (image : List ℕ) → nat_lt LOG_BYTES (length image) ≡ true → IsRefusedAt image LOG_BYTES
too_long image long behind = rw long refl

wrong_letters : (image : List ℕ) (place : ℕ) → nat_lt LOG_BYTES (length image) ≡ false → first_difference letters (take 8 image) ≡ Some place → IsRefusedAt image place
wrong_letters image place short differs behind = rw short (ap (behind_letters behind image) differs)

cut : (image : List ℕ) → nat_lt LOG_BYTES (length image) ≡ false → first_difference letters (take 8 image) ≡ None → length image < FIRST_GATE → IsRefusedAt image (length image)
cut image short same less behind =
    let test : ltb (length image) FIRST_GATE ≡ true = lt-ltb _ _ less in
    rw short (ap (behind_letters behind image) same ∙ rw test refl)

refused_at : (image : List ℕ) → IsNoHeader image → (place : ℕ) × IsRefusedAt image place
refused_at image lacks = at (nat_lt LOG_BYTES (length image)) refl lacks
  where
    shorter : nat_lt LOG_BYTES (length image) ≡ false → length image < FIRST_GATE → (o : Option ℕ) → first_difference letters (take 8 image) ≡ o → (place : ℕ) × IsRefusedAt image place
    shorter short less (Some place) e = (place, wrong_letters image place short e)
    shorter short less None e = (length image, cut image short e less)

    at : (t : Bool) → nat_lt LOG_BYTES (length image) ≡ t → IsNoHeader image → (place : ℕ) × IsRefusedAt image place
    at true long lacks = (LOG_BYTES, too_long image long)
    at false short lacks = elim lacks [ inl differs ↦ (0, wrong_letters image 0 short differs) | inr less ↦ shorter short less (first_difference letters (take 8 image)) refl ]

and_false : (a : Bool) → (a && false) ≡ false
and_false true = refl
and_false false = refl

not_true : (t : Bool) → (t ≡ true → ⊥) → t ≡ false
not_true true differs = absurd (differs refl)
not_true false differs = refl

not_some : ◌≡◌ {A = Option ℕ} (Some 0) None → ⊥
not_some e = cc

-- letters that differ are others
not_equal : (image : List ℕ) → first_difference letters (take 8 image) ≡ Some 0 → bytes_eq (take 8 image) letters ≡ false
not_equal image e = not_true (bytes_eq (take 8 image) letters) (λ is. not_some (sym e ∙ ap (first_difference letters) ((bytes_eq-Decides (take 8 image) letters).0 is)))

not_well_formed : (image : List ℕ) → IsNoHeader image → is_well_formed image ≡ false
not_well_formed image lacks = elim lacks [
  | inl differs ↦ rw (not_equal image differs) (ap (λ t. nat_le (length image) LOG_BYTES && t) (and_false (nat_le FIRST_GATE (length image))) ∙ and_false (nat_le (length image) LOG_BYTES))
  | inr less ↦ (let test : nat_le FIRST_GATE (length image) ≡ false = grind (arith, nat_tests) in rw test (and_false (nat_le (length image) LOG_BYTES)))
]

refused : (image : List ℕ) → IsNoHeader image → IsRefused image
unfolding frame_of tail_frame_of
refused image lacks =
    let r = refused_at image lacks in
    let place : ℕ = r.0 in
    let frame : frame_of image ≡ Err place = r.1 (with_slots (slots_in image) (batches_at FIRST_GATE image)) in
    let tail : tail_frame_of image ≡ Err place = r.1 (batches_by (tail_slot image) (tail_gate image) image) in
    let other : is_well_formed image ≡ false = not_well_formed image lacks in
    record {
      place = place;
      log = ap (λ (f : Result (List Batch) ℕ). f >>= (λ bs. placed_with (slots_in image) bs) >>= (λ ps. Ok (records_in ps))) frame;
      load = λ given owner.
          ap (λ t. cond (t && not (bytes_eq (fingerprint_in image) given)) (Foreign (fingerprint_in image)) (framed (frame_for owner image))) other
          ∙ ap (λ t. framed (cond (t && not (owner_in image == owner)) (Err 40) (frame_of image))) other ∙ ap framed frame;
      load_tail = λ given owner.
          ap (λ t. cond (t && not (bytes_eq (fingerprint_in image) given)) (Foreign (fingerprint_in image)) (framed (tail_frame_for owner image))) other
          ∙ ap (λ t. framed (cond (t && not (owner_in image == owner)) (Err 40) (tail_frame_of image))) other ∙ ap framed tail;
    }

pub unopened_refused : UnopenedIsRefused
unopened_refused image is = refused image (elim is [ inl short ↦ inr (omega (arith, short)) | inr zero_first ↦ inl (at image zero_first) ])
  where
    at : (image : List ℕ) → take 1 image ≡ 0 ∷ [] → first_difference letters (take 8 image) ≡ Some 0
    at [] e = absurd (cc e)
    at (b ∷ image) e = let is : b ≡ 0 = cc e in ap (λ (n : ℕ). first_difference letters (n ∷ take 7 image)) is

pub opening_leaves : OpeningLeavesWholeOrRefused
opening_leaves file [] first torn = absurd (omega (arith, torn.no_shorter))
opening_leaves [] (b ∷ image) first torn = absurd (cc first)
opening_leaves (a ∷ file) (b ∷ image) first torn = at (73 == b) refl
  where
    same : image ≡ file
    same = torn.behind

    letter : a ≡ 73
    letter = cc first

    at : (t : Bool) → (73 == b) ≡ t → IsWholeOrRefused (a ∷ file) (b ∷ image)
    at true is = let equal : b ≡ a = grind (arith, nat_tests) in inl (ap (λ (n : ℕ). n ∷ image) equal ∙ ap (λ (l : List ℕ). a ∷ l) same)
    at false is = inr (refused (b ∷ image) (inl (rw is refl)))
