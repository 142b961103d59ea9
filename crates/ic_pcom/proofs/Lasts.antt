-- The last of some records.
use Rattle.std.proofs.Common.{◌≡◌, sym, ap, refl, subst, ℕ, zero, suc, ◌+◌, ◌-◌, ◌<◌, List, [], ◌∷◌, length, arith, Option, Some}
use Rattle.std.specs.Prelude.{get_or}
use Rattle.std.specs.List.{AllByRecursion}
use Rattle.ic_base.specs.declared.record.Record.{Record}
use Rattle.ic_pcom.specs.Carrying.{last_in}

pub last-get : (xs : List Record) (i : ℕ) (x : Record) → i + 1 ≡ length xs → x ≡ get_or xs i x → last_in xs ≡ Some x
last-get [] i x long is = absurd (omega (arith, long))
last-get (y ∷ []) zero x long is = ap Some (sym is)
last-get (y ∷ []) (suc i) x long is = absurd (omega (arith, long))
last-get (y ∷ z ∷ zs) zero x long is = absurd (omega (arith, long))
last-get (y ∷ z ∷ zs) (suc i) x long is = last-get (z ∷ zs) i x (omega (arith, long)) is

-- the last by its place
pub last-at : (xs : List Record) (x : Record) → 0 < length xs → x ≡ get_or xs (length xs - 1) x → last_in xs ≡ Some x
last-at xs x some is = last-get xs (length xs - 1) x (omega (arith, some)) is

pub some_is : (x y : Record) → ◌≡◌ {A = Option Record} (Some x) (Some y) → x ≡ y
some_is x y e = cc

pub none_in : (xs : List Record) → length xs ≡ 0 → xs ≡ []
none_in [] none = refl
none_in (x ∷ xs) none = absurd (omega (arith, none))

-- what holds of each record holds of the last
pub last_all : (P : Record → Type 0) (rs : List Record) (r : Record) → AllByRecursion P rs → last_in rs ≡ Some r → P r
last_all P [] r all is = cc
last_all P (x ∷ []) r all is = subst P (some_is x r is) all.0
last_all P (x ∷ y ∷ rs) r all is = last_all P (y ∷ rs) r all.1 is
