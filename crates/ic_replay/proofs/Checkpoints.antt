-- The last checkpoint among records.
use Rattle.std.proofs.Common.{◌≡◌, ◌∙◌, ◌-◌, ◌<◌, ◌≤◌, ℕ, suc, Bool, true, false, cond, List, [], ◌∷◌, length, drop, Option, Some, None, ap, sym, refl, arith, length-drop}
use Rattle.std.specs.Prelude.{is_some, slice_get, ◌≢◌}
use Rattle.ic_base.specs.declared.record.Record.{Record}
use Rattle.ic_base.specs.declared.record.Record.TheVariants.{Take, TakeWhole, Input, Value, Outcome, Released, Shown, Checkpoint, Epoch, Decided}
use Rattle.def_step.specs.Replay.{image_in, has_image, last_image, behind_checkpoint, image_or, passed_over}

none_and : (o : Option (List ℕ)) (b : Bool) → cond (is_some o) true b ≡ false → (o ≡ None) × (b ≡ false)
none_and None b h = (refl, h)
none_and (Some image) b h = absurd (cc)

-- where none has an image, there is no last one, and nothing is passed over
pub none_last : (rs : List Record) → has_image rs ≡ false → (last_image rs ≡ None) × (behind_checkpoint rs ≡ rs)
none_last [] h = (refl, refl)
none_last (r ∷ rs) h =
    let here = none_and (image_in r) (has_image rs) h in
    let later = none_last rs here.1 in (
      ap (λ (o : Option (List ℕ)). image_or o (image_in r)) later.0 ∙ here.0,
      rw (here.1, here.0) refl,
    )

-- the last checkpoint among records, where it stands
pub record Found (rs : List Record) : Type 0 where
  pub place : ℕ
  pub image : List ℕ
  pub within : place < length rs
  pub there : slice_get rs place ≡ Some (Checkpoint image)
  pub last : last_image rs ≡ Some image
  pub behind : behind_checkpoint rs ≡ drop (suc place) rs

image_there : (r : Record) → is_some (image_in r) ≡ true → (image : List ℕ) × (r ≡ Checkpoint image)
image_there (Take from k stamp) h = absurd (cc)
image_there (TakeWhole from k stamp handler args) h = absurd (cc)
image_there (Input stamp handler args) h = absurd (cc)
image_there (Value n place session value) h = absurd (cc)
image_there (Outcome stamp n abort) h = absurd (cc)
image_there (Released to k) h = absurd (cc)
image_there (Shown m) h = absurd (cc)
image_there (Checkpoint image) h = (image, refl)
image_there (Epoch epoch) h = absurd (cc)
image_there (Decided stamp c n writes) h = absurd (cc)

or_later : (b : Bool) → cond b true false ≡ true → b ≡ true
or_later true h = refl
or_later false h = absurd (cc)

found_in : (r : Record) (rs : List Record) (h : Bool) → has_image rs ≡ h → (has_image rs ≡ true → Found rs) → has_image (r ∷ rs) ≡ true → Found (r ∷ rs)
found_in r rs true is later all =
    let l = later is in
    record {
      place = suc l.place;
      image = l.image;
      within = let within = l.within in omega (arith, within);
      there = l.there;
      last = ap (λ (o : Option (List ℕ)). image_or o (image_in r)) l.last;
      behind = rw is l.behind;
    }
found_in r rs false is later all =
    let here = image_there r (or_later (is_some (image_in r)) (ap (λ (b : Bool). cond (is_some (image_in r)) true b) (sym is) ∙ all)) in
    let none = none_last rs is in
    record {
      place = 0;
      image = here.0;
      within = omega arith;
      there = ap (λ (x : Record). Some x) here.1;
      last = ap (λ (o : Option (List ℕ)). image_or o (image_in r)) none.0 ∙ ap image_in here.1;
      behind = rw (is, ap image_in here.1) refl;
    }

found : (rs : List Record) → has_image rs ≡ true → Found rs
found [] h = absurd (cc)
found (r ∷ rs) h = found_in r rs (has_image rs) refl (found rs) h

-- where as many stand behind it as there are, there is none
pub none_where_all : (rs : List Record) → length (behind_checkpoint rs) ≡ length rs → (last_image rs ≡ None) × (behind_checkpoint rs ≡ rs)
none_where_all rs all = by_image (has_image rs) refl
  where
    by_image : (h : Bool) → has_image rs ≡ h → (last_image rs ≡ None) × (behind_checkpoint rs ≡ rs)
    by_image false is = none_last rs is
    by_image true is =
        let f = found rs is in
        let within = f.within in
        absurd (omega (arith, all, within, ap (length {A = Record}) f.behind, length-drop (suc f.place) rs))

-- else there is one, and so many stand behind it
pub found_before : (rs : List Record) → length (behind_checkpoint rs) ≢ length rs → Found rs
found_before rs some = by_image (has_image rs) refl
  where
    by_image : (h : Bool) → has_image rs ≡ h → Found rs
    by_image true is = found rs is
    by_image false is = absurd (some (ap (length {A = Record}) (none_last rs is).1))

pub place_is : (rs : List Record) (f : Found rs) (i : ℕ) → i ≡ length rs - 1 - length (behind_checkpoint rs) → f.place ≡ i
place_is rs f i is = let within = f.within in omega (arith, is, within, ap (length {A = Record}) f.behind, length-drop (suc f.place) rs)

-- how many records a recovery passes over
pub passed_is : (rs : List Record) (first : ℕ) → behind_checkpoint rs ≡ drop first rs → first ≤ length rs → passed_over rs ≡ first
passed_is rs first behind within = omega (arith, ap (length {A = Record}) behind, length-drop first rs)
