-- Moments in a row, and those of transitions alone.
use Rattle.std.proofs.Common.{◌≡◌, ◌∙◌, sym, ap, refl, ℕ, suc, ◌+◌, List, [], ◌∷◌, ◌++◌, map, length, append_assoc, arith, Option, Some, None}
use Rattle.std.proofs.lemmas.Option.{same_Some}
use Rattle.ic_base.specs.declared.messages.ComId.{ComId}
use Rattle.def_run.specs.SystemStates.{Transition, traces_of}
use Rattle.ic_failover.specs.Carrying.{telling_for}
use Rattle.ic_failover.specs.Moments.{Moment, Did, step_of, with_step, done_in, pieces_at, moment_pieces}
use Rattle.ic_failover.specs.declared.texts.FailoverTexts.{FailoverTexts}
use Rattle.ic_run.proofs.Lasting.{same-head, same-tail}
use Rattle.ic_run.specs.Running.{all_pieces}

with-then : (o : Option Transition) (us ws : List Transition) → with_step o (us ++ ws) ≡ with_step o us ++ ws
with-then None us ws = refl
with-then (Some v) us ws = refl

pub done-append : (c : ComId) (us ws : List Moment) → done_in c (us ++ ws) ≡ done_in c us ++ done_in c ws
done-append c [] ws = refl
done-append c (m ∷ us) ws = ap (with_step (step_of c m)) (done-append c us ws) ∙ with-then (step_of c m) (done_in c us) (done_in c ws)

pub done-did : (c : ComId) (vs : List Transition) → done_in c (map Did vs) ≡ vs
done-did c [] = refl
done-did c (v ∷ vs) = ap (λ l. v ∷ l) (done-did c vs)

pub did-length : (vs : List Transition) → length (map Did vs) ≡ length vs
did-length [] = refl
did-length (v ∷ vs) = ap suc (did-length vs)

-- a moment with its transition, among those behind it
pub done-here : (c : ComId) (m : Moment) (v : Transition) (ws : List Moment) → step_of c m ≡ Some v → done_in c (m ∷ ws) ≡ v ∷ done_in c ws
done-here c m v ws is = ap (λ o. with_step o (done_in c ws)) is

-- what is told of moments, and of others behind them
pub pieces-behind : (r : FailoverTexts) (n : ℕ) (us ws : List Moment) → moment_pieces r n (us ++ ws) ≡ moment_pieces r n us ++ moment_pieces r (n + length us) ws
pieces-behind r n [] ws = let same : n ≡ n + 0 = omega arith in ap (λ m. moment_pieces r m ws) same
pieces-behind r n (u ∷ us) ws =
    let same : suc n + length us ≡ n + suc (length us) = omega arith in
    let here : List (List ℕ) = pieces_at r n u in
    ap (λ (ps : List (List ℕ)). here ++ ps) (pieces-behind r (suc n) us ws ∙ ap (λ m. moment_pieces r (suc n) us ++ moment_pieces r m ws) same)
    ∙ sym (append_assoc here (moment_pieces r (suc n) us) (moment_pieces r (n + suc (length us)) ws))

pub pieces-did : (r : FailoverTexts) (n : ℕ) (vs : List Transition) → moment_pieces r n (map Did vs) ≡ all_pieces (telling_for r) n (traces_of vs)
pieces-did r n [] = refl
pieces-did r n (v ∷ vs) = ap (λ (ps : List (List ℕ)). telling_for r n v.trace ++ ps) (pieces-did r (suc n) vs)

pub none-there : {A : Type 0} (us ws : List A) (m : A) → [] ≡ us ++ m ∷ ws → ⊥
none-there [] ws m e = cc e
none-there (u ∷ us) ws m e = cc e

-- one of them, where all are transitions
pub record SplitAt (vs : List Transition) (us ws : List Moment) (v : Transition) : Type 0 where
  pub front : List Transition
  pub back : List Transition
  pub are : vs ≡ front ++ v ∷ back
  pub before : us ≡ map Did front
  pub behind : ws ≡ map Did back

pub split-did : (c : ComId) (vs : List Transition) (us ws : List Moment) (m : Moment) (v : Transition) → map Did vs ≡ us ++ m ∷ ws → step_of c m ≡ Some v → SplitAt vs us ws v
split-did c [] us ws m v e is = absurd (none-there us ws m e)
split-did c (x ∷ xs) [] ws m v e is = record {
  front = [];
  back = xs;
  are = ap (λ z. z ∷ xs) (same_Some x v (ap (step_of c) (same-head (Did x) m (map Did xs) ws e) ∙ is));
  before = refl;
  behind = sym (same-tail (Did x) m (map Did xs) ws e);
}
split-did c (x ∷ xs) (u ∷ us) ws m v e is =
    let r : SplitAt xs us ws v = split-did c xs us ws m v (same-tail (Did x) u (map Did xs) (us ++ m ∷ ws) e) is in
    record {
      front = x ∷ r.front;
      back = r.back;
      are = ap (λ l. x ∷ l) r.are;
      before = ap (λ z. z ∷ us) (sym (same-head (Did x) u (map Did xs) (us ++ m ∷ ws) e)) ∙ ap (λ l. Did x ∷ l) r.before;
      behind = r.behind;
    }

-- a list of one, cut at one of its members
pub only-there : {A : Type 0} (x m : A) (us ws : List A) → x ∷ [] ≡ us ++ m ∷ ws → (us ≡ []) × (m ≡ x) × (ws ≡ [])
only-there x m [] ws e = (refl, sym (same-head x m [] ws e), sym (same-tail x m [] ws e))
only-there x m (u ∷ us) ws e = absurd (none-there us ws m (same-tail x u [] (us ++ m ∷ ws) e))
