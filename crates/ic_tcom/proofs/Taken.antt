-- The decisions of a log taken in, one after another.
use Rattle.std.proofs.Common.{◌≡◌, ◌<◌, ◌≤◌, ◌++◌, ◌∷◌, [], ℕ, zero, suc, length, drop, take, max, ap, refl, List, None, Some, arith}
use Rattle.def_state.specs.Names.{Numbers, number_of, put_number}
use Rattle.def_step.specs.Tcom.{Verdict}
use Rattle.ic_tcom.specs.Last.{AreLast, stamp_at, with_last}
use Rattle.ic_tcom.proofs.Decisions.{last_on, last_put, last_below, last_known}
use Rattle.ic_tcom.proofs.OneEach.{number_itself, number_rises}

pub drop_past : {X : Type 0} (i : ℕ) (xs : List X) → length xs ≤ i → drop i xs ≡ []
drop_past zero [] past = refl
drop_past (suc i) [] past = refl
drop_past zero (x ∷ xs) past = absurd (omega (arith, past))
drop_past (suc i) (x ∷ xs) past = drop_past i xs (omega (arith, past))

pub take_past : {X : Type 0} (i : ℕ) (xs : List X) → length xs ≤ i → take i xs ≡ xs
take_past zero [] past = refl
take_past (suc i) [] past = refl
take_past zero (x ∷ xs) past = absurd (omega (arith, past))
take_past (suc i) (x ∷ xs) past = ap (λ ys. x ∷ ys) (take_past i xs (omega (arith, past)))

module _ (all : List Verdict) (xs : Numbers) (held : List Verdict) (v : Verdict) (from : ℕ) (is : from ≡ max (number_of 1 xs v.peer) v.n) (h : AreLast all xs held) where
  on : AreLast all (put_number v.peer from xs) held
  on = last_on all xs (put_number v.peer from xs) held (λ d. number_rises v.peer d from xs (omega (arith, is))) h

  at : from ≤ v.n → v.n ≡ number_of 1 (put_number v.peer from xs) v.peer
  at up = omega (arith, number_itself v.peer from xs, is, up)

  pub taken_below : v.n < from → AreLast (all ++ v ∷ []) (put_number v.peer from xs) held
  taken_below below = last_below all (put_number v.peer from xs) held v on (omega (arith, number_itself v.peer from xs, below))

  pub taken_known : (s : ℕ) → from ≤ v.n → stamp_at held v.peer v.n ≡ Some s → AreLast (all ++ v ∷ []) (put_number v.peer from xs) held
  taken_known s up known = last_known all (put_number v.peer from xs) held v on s (at up) known

  pub taken : from ≤ v.n → stamp_at held v.peer v.n ≡ None → AreLast (all ++ v ∷ []) (put_number v.peer from xs) (with_last v held)
  taken up none = last_put all (put_number v.peer from xs) held v on (at up) none
