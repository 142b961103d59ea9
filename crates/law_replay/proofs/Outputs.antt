-- The numbers of outputs.
use Rattle.std.proofs.Common.{◌≡◌, ap, subst, ℕ, suc, ◌+◌, ◌<◌, ◌≤◌, List, [], ◌∷◌, ◌++◌, length, arith, ◌⊎◌, inl, inr}
use Rattle.std.specs.Prelude.{Contains}
use Rattle.ic_base.specs.declared.messages.Out.{Out}
use Rattle.ic_base.specs.declared.messages.Output.{Output}
use Rattle.def_state.specs.Hist.{number_outputs}
use Rattle.law_replay.proofs.Lists.{empty, head-or-tail, in-head, in-tail}

-- no output has a number above those made
pub outputs-below : (m : ℕ) (os : List Out) (o : Output) → Contains (number_outputs m os) o → o.m < m + length os
outputs-below m [] o h = empty o h
outputs-below m (x ∷ xs) o h = by (head-or-tail (record { m = m; to = x.to; args = x.args }) o (number_outputs (m + 1) xs) h) (outputs-below (m + 1) xs o)
  where
    one : Output
    one = record { m = m; to = x.to; args = x.args }

    by : (one ≡ o) ⊎ Contains (number_outputs (m + 1) xs) o → (Contains (number_outputs (m + 1) xs) o → o.m < (m + 1) + length xs) → o.m < m + suc (length xs)
    by (inl e) more = omega (arith, ap (λ (y : Output). y.m) e)
    by (inr k) more = omega (arith, more k)

pub number-more : (m : ℕ) (xs ys : List Out) (o : Output) → Contains (number_outputs m xs) o → Contains (number_outputs m (xs ++ ys)) o
number-more m [] ys o h = empty o h
number-more m (x ∷ xs) ys o h = at (head-or-tail (record { m = m; to = x.to; args = x.args }) o (number_outputs (m + 1) xs) h) (number-more (m + 1) xs ys o)
  where
    one : Output
    one = record { m = m; to = x.to; args = x.args }

    at : (one ≡ o) ⊎ Contains (number_outputs (m + 1) xs) o → (Contains (number_outputs (m + 1) xs) o → Contains (number_outputs (m + 1) (xs ++ ys)) o) → Contains (one ∷ number_outputs (m + 1) (xs ++ ys)) o
    at (inl e) more = subst (Contains (one ∷ number_outputs (m + 1) (xs ++ ys))) e (in-head one (number_outputs (m + 1) (xs ++ ys)))
    at (inr k) more = in-tail one o (number_outputs (m + 1) (xs ++ ys)) (more k)

-- and none below the first
pub outputs-above : (m : ℕ) (os : List Out) (o : Output) → Contains (number_outputs m os) o → m ≤ o.m
outputs-above m [] o h = empty o h
outputs-above m (x ∷ xs) o h = by (head-or-tail (record { m = m; to = x.to; args = x.args }) o (number_outputs (m + 1) xs) h) (outputs-above (m + 1) xs o)
  where
    one : Output
    one = record { m = m; to = x.to; args = x.args }

    by : (one ≡ o) ⊎ Contains (number_outputs (m + 1) xs) o → (Contains (number_outputs (m + 1) xs) o → m + 1 ≤ o.m) → m ≤ o.m
    by (inl e) more = omega (arith, ap (λ (y : Output). y.m) e)
    by (inr k) more = omega (arith, more k)
