-- The values of a list, one after another.
use Rattle.std.proofs.Common.{◌≡◌, sym, subst, ℕ, zero, suc, ◌+◌, List, [], ◌∷◌, take, arith, Some}
use Rattle.std.specs.Prelude.{slice_get, ℤ}
use Rattle.std.specs.List.{AllByRecursion}
use Rattle.std.proofs.lemmas.Option.{same_Some}

pub all-more : (P : ℤ → Type 0) (zs : List ℤ) (i : ℕ) (z : ℤ) → slice_get zs i ≡ Some z → P z → AllByRecursion P (take i zs) → AllByRecursion P (take (i + 1) zs)
all-more P zs i z at p all = let one : suc i ≡ i + 1 = omega arith in subst (λ n. AllByRecursion P (take n zs)) one (by zs i at all)
  where
    by : (zs : List ℤ) (i : ℕ) → slice_get zs i ≡ Some z → AllByRecursion P (take i zs) → AllByRecursion P (take (suc i) zs)
    by [] i at all = absurd (cc at)
    by (y ∷ ys) zero at all = (subst P (sym (same_Some y z at)) p, tt)
    by (y ∷ ys) (suc i) at all = (all.0, by ys i at all.1)
