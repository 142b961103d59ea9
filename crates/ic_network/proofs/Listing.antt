-- The numbers that wait, as a list.
use Rattle.std.proofs.Common.{◌≡◌, ◌∙◌, sym, ap, refl, ℕ, zero, suc, ◌+◌, ◌-◌, ◌<◌, ◌==◌, Bool, true, false, cond, List, [], ◌∷◌, ◌++◌, length, set, arith, Some, None}
use Rattle.std.specs.Prelude.{◌&&◌, not, find}
use Rattle.std.proofs.lemmas.Bool.{eqb-true, eqb-false, eq-eqb, ne_eqb}
use Rattle.def_step.specs.World.{no_longer}
use Rattle.def_step.specs.Settle.{first_number}
use Rattle.ic_network.specs.Lanes.{numbers_from, is_waiting, without_wait, if_some, IsFirst}
use Rattle.ic_network.proofs.Firsts.{first-same}

and-true : (b : Bool) → (b && true) ≡ b
and-true true = refl
and-true false = refl

-- the first that passes
found : (test : ℕ → Bool) (n : ℕ) (waits : List Bool) (k : ℕ) → k < length waits → is_waiting waits k ≡ true → test (n + k) ≡ true → ((j : ℕ) → j < k → (is_waiting waits j && test (n + j)) ≡ false) → find test (numbers_from n waits) ≡ Some (n + k)
found test n [] k l w p before = absurd (omega arith)
found test n (x ∷ ws) zero l w p before =
    let place : n + 0 ≡ n = omega arith in
    ap (λ b. find test (cond b (n ∷ numbers_from (n + 1) ws) (numbers_from (n + 1) ws))) w
    ∙ ap (λ b. cond b (Some n) (find test (numbers_from (n + 1) ws))) (ap test (sym place) ∙ p)
    ∙ ap (λ i. Some i) (sym place)
found test n (x ∷ ws) (suc k) l w p before =
    let place : n + 1 + k ≡ n + suc k = omega arith in
    let zeroth : n + 0 ≡ n = omega arith in
    let here : (x && test n) ≡ false = ap (λ i. x && test i) (sym zeroth) ∙ before 0 (omega arith) in
    passed x here
    ∙ found test (n + 1) ws k (omega arith) w (ap test place ∙ p) (λ j under. let moved : n + 1 + j ≡ n + suc j = omega arith in ap (λ i. is_waiting ws j && test i) moved ∙ before (suc j) (omega arith))
    ∙ ap (λ i. Some i) place
  where
    passed : (b : Bool) → (b && test n) ≡ false → find test (cond b (n ∷ numbers_from (n + 1) ws) (numbers_from (n + 1) ws)) ≡ find test (numbers_from (n + 1) ws)
    passed true e = ap (λ b. cond b (Some n) (find test (numbers_from (n + 1) ws))) e
    passed false e = refl

none-found : (test : ℕ → Bool) (n : ℕ) (waits : List Bool) → ((j : ℕ) → j < length waits → (is_waiting waits j && test (n + j)) ≡ false) → find test (numbers_from n waits) ≡ None
none-found test n [] none = refl
none-found test n (x ∷ ws) none =
    let zeroth : n + 0 ≡ n = omega arith in
    let here : (x && test n) ≡ false = ap (λ i. x && test i) (sym zeroth) ∙ none 0 (omega arith) in
    passed x here
    ∙ none-found test (n + 1) ws (λ j under. let moved : n + 1 + j ≡ n + suc j = omega arith in ap (λ i. is_waiting ws j && test i) moved ∙ none (suc j) (omega arith))
  where
    passed : (b : Bool) → (b && test n) ≡ false → find test (cond b (n ∷ numbers_from (n + 1) ws) (numbers_from (n + 1) ws)) ≡ find test (numbers_from (n + 1) ws)
    passed true e = ap (λ b. cond b (Some n) (find test (numbers_from (n + 1) ws))) e
    passed false e = refl

-- the number that is kept as the first one is the first of the list
pub listed : (test here : ℕ → Bool) (waits : List Bool) (number : ℕ) → ((k : ℕ) → here k ≡ test (1 + k)) → IsFirst (λ k. is_waiting waits k && here k) 0 (length waits) number → if_some number ≡ find test (numbers_from 1 waits)
listed test here waits number same h = by (number == 0) refl
  where
    parts : (a b : Bool) → (a && b) ≡ true → (a ≡ true) × (b ≡ true)
    parts true b e = (refl, e)
    parts false b e = absurd (cc)

    by : (b : Bool) → (number == 0) ≡ b → cond b None (Some number) ≡ find test (numbers_from 1 waits)
    by true e =
        let none = eqb-true number 0 e in
        sym (none-found test 1 waits (λ j l. ap (λ b. is_waiting waits j && b) (sym (same j)) ∙ h.before j (omega arith) l (λ p. absurd (omega arith))))
    by false e =
        let some = eqb-false number 0 e in
        let s = h.some (omega arith) in
        let both = parts (is_waiting waits (number - 1)) (here (number - 1)) s.2 in
        let place : 1 + (number - 1) ≡ number = omega arith in
        sym (
        found test 1 waits (number - 1) (omega arith) both.0 (sym (same (number - 1)) ∙ both.1)
        (λ j l. ap (λ b. is_waiting waits j && b) (sym (same j)) ∙ h.before j (omega arith) (omega arith) (λ p. omega arith))
        ∙ ap (λ i. Some i) place
        )

first-found : (xs : List ℕ) → find (λ i. true) xs ≡ first_number xs
first-found [] = refl
first-found (x ∷ xs) = refl

pub listed-first : (waits : List Bool) (number : ℕ) → IsFirst (is_waiting waits) 0 (length waits) number → if_some number ≡ first_number (numbers_from 1 waits)
listed-first waits number h =
    listed (λ i. true) (λ k. true) waits number (λ k. refl) (first-same (is_waiting waits) (λ k. is_waiting waits k && true) 0 (length waits) number (λ k l. and-true (is_waiting waits k)) h)
    ∙ first-found (numbers_from 1 waits)

-- two tests that agree
pub found-same : (p q : ℕ → Bool) (n : ℕ) (waits : List Bool) → ((k : ℕ) → k < length waits → p (n + k) ≡ q (n + k)) → find p (numbers_from n waits) ≡ find q (numbers_from n waits)
found-same p q n [] same = refl
found-same p q n (x ∷ ws) same =
    let zeroth : n + 0 ≡ n = omega arith in
    let here : p n ≡ q n = ap p (sym zeroth) ∙ same 0 (omega arith) ∙ ap q zeroth in
    let rest = found-same p q (n + 1) ws (λ k l. let moved : n + 1 + k ≡ n + suc k = omega arith in ap p moved ∙ same (suc k) (omega arith) ∙ ap q (sym moved)) in
    by x here rest
  where
    by : (b : Bool) → p n ≡ q n → find p (numbers_from (n + 1) ws) ≡ find q (numbers_from (n + 1) ws) → find p (cond b (n ∷ numbers_from (n + 1) ws) (numbers_from (n + 1) ws)) ≡ find q (cond b (n ∷ numbers_from (n + 1) ws) (numbers_from (n + 1) ws))
    by true here rest = ap (λ b. cond b (Some n) (find p (numbers_from (n + 1) ws))) here ∙ ap (λ o. cond (q n) (Some n) o) rest
    by false here rest = rest

-- a number that isn't there leaves the list
absent : (m n : ℕ) (waits : List Bool) → m < n → no_longer m (numbers_from n waits) ≡ numbers_from n waits
absent m n [] l = refl
absent m n (x ∷ ws) l = by x (absent m (n + 1) ws (omega arith))
  where
    by : (b : Bool) → no_longer m (numbers_from (n + 1) ws) ≡ numbers_from (n + 1) ws → no_longer m (cond b (n ∷ numbers_from (n + 1) ws) (numbers_from (n + 1) ws)) ≡ cond b (n ∷ numbers_from (n + 1) ws) (numbers_from (n + 1) ws)
    by true rest = ap (λ b. cond (not b) (n ∷ no_longer m (numbers_from (n + 1) ws)) (no_longer m (numbers_from (n + 1) ws))) (ne_eqb m n (λ e. omega arith)) ∙ ap (λ l. n ∷ l) rest
    by false rest = rest

off : (n i : ℕ) (waits : List Bool) → no_longer (n + i) (numbers_from n waits) ≡ numbers_from n (set waits i false)
off n i [] = refl
off n zero (x ∷ ws) =
    let zeroth : n + 0 ≡ n = omega arith in
    ap (λ m. no_longer m (numbers_from n (x ∷ ws))) zeroth ∙ by x (absent n (n + 1) ws (omega arith))
  where
    by : (b : Bool) → no_longer n (numbers_from (n + 1) ws) ≡ numbers_from (n + 1) ws → no_longer n (cond b (n ∷ numbers_from (n + 1) ws) (numbers_from (n + 1) ws)) ≡ numbers_from (n + 1) ws
    by true rest = ap (λ b. cond (not b) (n ∷ no_longer n (numbers_from (n + 1) ws)) (no_longer n (numbers_from (n + 1) ws))) (eq-eqb n n refl) ∙ rest
    by false rest = rest
off n (suc i) (x ∷ ws) =
    let moved : n + suc i ≡ n + 1 + i = omega arith in
    ap (λ m. no_longer m (numbers_from n (x ∷ ws))) moved ∙ by x (off (n + 1) i ws)
  where
    by : (b : Bool) → no_longer (n + 1 + i) (numbers_from (n + 1) ws) ≡ numbers_from (n + 1) (set ws i false) → no_longer (n + 1 + i) (cond b (n ∷ numbers_from (n + 1) ws) (numbers_from (n + 1) ws)) ≡ cond b (n ∷ numbers_from (n + 1) (set ws i false)) (numbers_from (n + 1) (set ws i false))
    by true rest = ap (λ b. cond (not b) (n ∷ no_longer (n + 1 + i) (numbers_from (n + 1) ws)) (no_longer (n + 1 + i) (numbers_from (n + 1) ws))) (ne_eqb (n + 1 + i) n (λ e. omega arith)) ∙ ap (λ l. n ∷ l) rest
    by false rest = rest

pub listed-off : (number : ℕ) (waits : List Bool) → numbers_from 1 (without_wait number waits) ≡ no_longer number (numbers_from 1 waits)
listed-off number waits = by (number == 0) refl
  where
    by : (b : Bool) → (number == 0) ≡ b → numbers_from 1 (cond b waits (set waits (number - 1) false)) ≡ no_longer number (numbers_from 1 waits)
    by true e = let none = eqb-true number 0 e in sym (absent number 1 waits (omega arith))
    by false e =
        let some = eqb-false number 0 e in
        let place : 1 + (number - 1) ≡ number = omega arith in
        sym (ap (λ m. no_longer m (numbers_from 1 waits)) (sym place) ∙ off 1 (number - 1) waits)

pub listed-push : (n : ℕ) (waits : List Bool) → numbers_from n (waits ++ true ∷ []) ≡ numbers_from n waits ++ (n + length waits) ∷ []
listed-push n [] = let zeroth : n ≡ n + 0 = omega arith in ap (λ i. i ∷ []) zeroth
listed-push n (x ∷ ws) =
    let moved : n + 1 + length ws ≡ n + suc (length ws) = omega arith in
    by x (listed-push (n + 1) ws ∙ ap (λ i. numbers_from (n + 1) ws ++ i ∷ []) moved)
  where
    by : (b : Bool) → numbers_from (n + 1) (ws ++ true ∷ []) ≡ numbers_from (n + 1) ws ++ (n + suc (length ws)) ∷ [] → cond b (n ∷ numbers_from (n + 1) (ws ++ true ∷ [])) (numbers_from (n + 1) (ws ++ true ∷ [])) ≡ cond b (n ∷ numbers_from (n + 1) ws) (numbers_from (n + 1) ws) ++ (n + suc (length ws)) ∷ []
    by true rest = ap (λ l. n ∷ l) rest
    by false rest = rest
