-- The lowest component of a list that passes a test, and the one that waits at the least stamp, found one by one.
use Rattle.std.proofs.Common.{◌≡◌, ◌∙◌, sym, ap, refl, ℕ, zero, suc, ◌+◌, ◌-◌, ◌<◌, ◌≤◌, Bool, true, false, cond, List, [], ◌∷◌, length, drop, arith, Option, Some, None}
use Rattle.std.specs.Prelude.{slice_get}
use Rattle.def_step.specs.World.{Node}
use Rattle.def_step.specs.Settle.{first_from, Waits, sooner, soonest_from, waits_at}
use Rattle.ic_world.specs.Reading.{at_node}
use Rattle.ic_world.proofs.Firsts.{drop-at, drop-all}

none-within : (ns : List Node) (i : ℕ) → i < length ns → slice_get ns i ≡ None → ⊥
none-within [] i l e = omega arith
none-within (n ∷ ns) zero l e = cc
none-within (n ∷ ns) (suc i) l e = none-within ns i (omega arith) e

-- those up to i don't pass
abbrev pub FirstBehind : (Node → Bool) → List Node → ℕ → Type 0
FirstBehind test ns i = first_from 0 test ns ≡ first_from i test (drop i ns)

pub first-more : (test : Node → Bool) (ns : List Node) (i : ℕ) (n : Node) → FirstBehind test ns i → slice_get ns i ≡ Some n → test n ≡ false → FirstBehind test ns (i + 1)
first-more test ns i n so at not = so ∙ ap (first_from i test) (drop-at ns i n at) ∙ ap (λ b. cond b (Some (record { 0 = i })) (first_from (i + 1) test (drop (i + 1) ns))) not

pub first-found : (test : Node → Bool) (ns : List Node) (i : ℕ) (n : Node) → FirstBehind test ns i → slice_get ns i ≡ Some n → test n ≡ true → Some (record { 0 = i }) ≡ first_from 0 test ns
first-found test ns i n so at passes = sym (so ∙ ap (first_from i test) (drop-at ns i n at) ∙ ap (λ b. cond b (Some (record { 0 = i })) (first_from (i + 1) test (drop (i + 1) ns))) passes)

pub first-none : (test : Node → Bool) (ns : List Node) (i : ℕ) → FirstBehind test ns i → length ns ≤ i → None ≡ first_from 0 test ns
first-none test ns i so l = sym (so ∙ ap (first_from i test) (drop-all ns i l))

-- the same, as a reader tells of the component
pub found-here : (test : Node → Bool) (ns : List Node) (i : ℕ) → FirstBehind test ns i → at_node false test (slice_get ns i) ≡ true → Some (record { 0 = i }) ≡ first_from 0 test ns
found-here test ns i so passes = by (slice_get ns i) refl passes
  where
    by : (o : Option Node) → slice_get ns i ≡ o → at_node false test o ≡ true → Some (record { 0 = i }) ≡ first_from 0 test ns
    by None at t = absurd (cc)
    by (Some n) at t = first-found test ns i n so at t

pub more-here : (test : Node → Bool) (ns : List Node) (i : ℕ) → FirstBehind test ns i → i < length ns → at_node false test (slice_get ns i) ≡ false → FirstBehind test ns (i + 1)
more-here test ns i so within not = by (slice_get ns i) refl not
  where
    by : (o : Option Node) → slice_get ns i ≡ o → at_node false test o ≡ false → FirstBehind test ns (i + 1)
    by None at t = absurd (none-within ns i within at)
    by (Some n) at t = first-more test ns i n so at t

-- one more of those behind
pub soonest-more : (ns : List Node) (i : ℕ) (later : Option Waits) → i < length ns → later ≡ soonest_from (i + 1) (drop (i + 1) ns) → sooner (at_node None waits_at (slice_get ns i)) i later ≡ soonest_from i (drop i ns)
soonest-more ns i later within so = by (slice_get ns i) refl
  where
    by : (o : Option Node) → slice_get ns i ≡ o → sooner (at_node None waits_at o) i later ≡ soonest_from i (drop i ns)
    by (Some n) at = ap (sooner (waits_at n) i) so ∙ sym (ap (soonest_from i) (drop-at ns i n at))
    by None at = absurd (none-within ns i within at)

pub soonest-step : (ns : List Node) (i : ℕ) (later : Option Waits) (o : Option ℕ) → 0 < i → i ≤ length ns → later ≡ soonest_from i (drop i ns) → o ≡ at_node None waits_at (slice_get ns (i - 1)) → sooner o (i - 1) later ≡ soonest_from (i - 1) (drop (i - 1) ns)
soonest-step ns i later o some within so is =
    let next : i ≡ i - 1 + 1 = omega (arith, some) in
    ap (λ z. sooner z (i - 1) later) is ∙ soonest-more ns (i - 1) later (omega (arith, some, within)) (so ∙ ap (λ n. soonest_from n (drop n ns)) next)
