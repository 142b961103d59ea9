-- Moments in a row, and those of transitions alone.
use Rattle.std.proofs.Common.{◌≡◌, ◌∙◌, sym, ap, refl, ℕ, suc, ◌+◌, List, [], ◌∷◌, ◌++◌, map, length, append_assoc, arith}
use Rattle.ic_base.specs.declared.events.Trace.{Trace}
use Rattle.ic_base.specs.declared.report.ReportLevel.{ReportLevel}
use Rattle.ic_base.specs.declared.scenario.Program.{Program}
use Rattle.def_run.specs.SystemStates.{Transition, traces_of}
use Rattle.def_client.specs.Clients.{Item, item_of, item_lines, note_lines}
use Rattle.def_client.specs.declared.asked.Asked.{Asked}
use Rattle.ic_report.specs.Outputs.{if_any}
use Rattle.ic_run.specs.Running.{all_pieces}
use Rattle.ic_run.proofs.Lasting.{same-head, same-tail}
use Rattle.ic_clients.specs.Moments.{Moment, Did, Noted, item_pieces, note_pieces, pieces_at, moment_pieces, moments_before, done_in}

pub done-append : (us ws : List Moment) → done_in (us ++ ws) ≡ done_in us ++ done_in ws
done-append [] ws = refl
done-append (Did v ∷ us) ws = ap (λ l. v ∷ l) (done-append us ws)
done-append (Noted i a ∷ us) ws = done-append us ws

pub done-did : (vs : List Transition) → done_in (map Did vs) ≡ vs
done-did [] = refl
done-did (v ∷ vs) = ap (λ l. v ∷ l) (done-did vs)

pub did-length : (vs : List Transition) → length (map Did vs) ≡ length vs
did-length [] = refl
did-length (v ∷ vs) = ap suc (did-length vs)

pub did-more : (vs : List Transition) (v : Transition) → map Did (vs ++ v ∷ []) ≡ map Did vs ++ Did v ∷ []
did-more [] v = refl
did-more (u ∷ us) v = ap (λ l. Did u ∷ l) (did-more us v)

pub traces-append : (us ws : List Transition) → traces_of (us ++ ws) ≡ traces_of us ++ traces_of ws
traces-append [] ws = refl
traces-append (u ∷ us) ws = ap (λ (l : List Trace). u.trace ∷ l) (traces-append us ws)

-- what is told of moments, and of others behind them
pub pieces-behind : (program : Program) (level : ReportLevel) (n : ℕ) (us ws : List Moment) → moment_pieces program level n (us ++ ws) ≡ moment_pieces program level n us ++ moment_pieces program level (n + length us) ws
pieces-behind program level n [] ws = let same : n ≡ n + 0 = omega arith in ap (λ m. moment_pieces program level m ws) same
pieces-behind program level n (u ∷ us) ws =
    let same : suc n + length us ≡ n + suc (length us) = omega arith in
    let here : List (List ℕ) = pieces_at program level n u in
    ap (λ (ps : List (List ℕ)). here ++ ps) (pieces-behind program level (suc n) us ws ∙ ap (λ m. moment_pieces program level (suc n) us ++ moment_pieces program level m ws) same)
    ∙ sym (append_assoc here (moment_pieces program level (suc n) us) (moment_pieces program level (n + suc (length us)) ws))

pub pieces-did : (program : Program) (level : ReportLevel) (n : ℕ) (vs : List Transition) → moment_pieces program level n (map Did vs) ≡ all_pieces (item_pieces program level) n (traces_of vs)
pieces-did program level n [] = refl
pieces-did program level n (v ∷ vs) = ap (λ (ps : List (List ℕ)). item_pieces program level n v.trace ++ ps) (pieces-did program level (suc n) vs)

-- one of them, where all are transitions
pub none-there : (us ws : List Moment) (m : Moment) → [] ≡ us ++ m ∷ ws → ⊥
none-there [] ws m e = cc e
none-there (u ∷ us) ws m e = cc e

did-head : (x v : Transition) (xs ws : List Moment) → Did x ∷ xs ≡ Did v ∷ ws → x ≡ v
did-head x v xs ws e = ap first e
  where
    first : List Moment → Transition
    first [] = x
    first (Did y ∷ ms) = y
    first (Noted i a ∷ ms) = x

same-rest : (x y : Moment) (xs ys : List Moment) → x ∷ xs ≡ y ∷ ys → xs ≡ ys
same-rest x y xs ys e = cc e

same-first : (x y : Moment) (xs ys : List Moment) → x ∷ xs ≡ y ∷ ys → x ≡ y
same-first x y xs ys e = cc e

pub record SplitAt (vs : List Transition) (us ws : List Moment) (v : Transition) : Type 0 where
  pub front : List Transition
  pub back : List Transition
  pub are : vs ≡ front ++ v ∷ back
  pub before : us ≡ map Did front
  pub behind : ws ≡ map Did back

pub split-did : (vs : List Transition) (us ws : List Moment) (v : Transition) → map Did vs ≡ us ++ Did v ∷ ws → SplitAt vs us ws v
split-did [] us ws v e = absurd (none-there us ws (Did v) e)
split-did (x ∷ xs) [] ws v e = record {
  front = [];
  back = xs;
  are = ap (λ z. z ∷ xs) (did-head x v (map Did xs) ws e);
  before = refl;
  behind = sym (same-rest (Did x) (Did v) (map Did xs) ws e);
}
split-did (x ∷ xs) (u ∷ us) ws v e =
    let r : SplitAt xs us ws v = split-did xs us ws v (same-rest (Did x) u (map Did xs) (us ++ Did v ∷ ws) e) in
    record {
      front = x ∷ r.front;
      back = r.back;
      are = ap (λ l. x ∷ l) r.are;
      before = ap (λ z. z ∷ us) (sym (same-first (Did x) u (map Did xs) (us ++ Did v ∷ ws) e)) ∙ ap (λ l. Did x ∷ l) r.before;
      behind = r.behind;
    }

-- where something is told with no step, nothing is done
pub noted-none : (m : Moment) (us ws : List Moment) (v : Transition) → done_in (m ∷ []) ≡ [] → m ∷ [] ≡ us ++ Did v ∷ ws → ⊥
noted-none m [] ws v none e = by (done_in (m ∷ [])) (ap done_in e) none
  where
    by : (l : List Transition) → l ≡ v ∷ done_in ws → l ≡ [] → ⊥
    by [] e f = cc e
    by (x ∷ xs) e f = cc f
noted-none m (u ∷ us) ws v none e = none-there us ws (Did v) (same-rest m u [] (us ++ Did v ∷ ws) e)

-- the lines of an event, or of an answer, by its number
pub told-items : (program : Program) (level : ReportLevel) (t : Trace) (n number : ℕ) (lines : List ℕ) → n ≡ number → lines ≡ item_lines program level n (item_of t.event) t → if_any lines ≡ item_pieces program level number t
told-items program level t n number lines same is = ap if_any (is ∙ ap (λ m. item_lines program level m (item_of t.event) t) same)

pub told-notes : (program : Program) (level : ReportLevel) (i : Item) (a : Asked) (n number : ℕ) (lines : List ℕ) → n ≡ number → lines ≡ note_lines program level n i a → if_any lines ≡ note_pieces program level number i a
told-notes program level i a n number lines same is = ap if_any (is ∙ ap (λ m. note_lines program level m i a) same)

-- moments, cut at an event that was done -----------------------------------------------------------------

pub record CutAt (ms : List Moment) (us : List Transition) (v : Transition) (ws : List Transition) : Type 0 where
  pub front : List Moment
  pub back : List Moment
  pub are : ms ≡ front ++ Did v ∷ back
  pub before : done_in front ≡ us
  pub behind : done_in back ≡ ws
  pub lines : front ≡ moments_before ms us

none-done : (us ws : List Transition) (v : Transition) → [] ≡ us ++ v ∷ ws → ⊥
none-done [] ws v e = cc e
none-done (u ∷ us) ws v e = cc e

pub cut-done : (ms : List Moment) (us ws : List Transition) (v : Transition) → done_in ms ≡ us ++ v ∷ ws → CutAt ms us v ws
cut-done [] us ws v e = absurd (none-done us ws v e)
cut-done (Noted i a ∷ ms) us ws v e =
    let c : CutAt ms us v ws = cut-done ms us ws v e in
    record { front = Noted i a ∷ c.front; back = c.back; are = ap (λ l. Noted i a ∷ l) c.are; before = c.before; behind = c.behind; lines = ap (λ l. Noted i a ∷ l) c.lines }
cut-done (Did w ∷ ms) [] ws v e = record { front = []; back = ms; are = ap (λ z. Did z ∷ ms) (same-head w v (done_in ms) ws e); before = refl; behind = same-tail w v (done_in ms) ws e; lines = refl }
cut-done (Did w ∷ ms) (u ∷ us) ws v e =
    let c : CutAt ms us v ws = cut-done ms us ws v (same-tail w u (done_in ms) (us ++ v ∷ ws) e) in
    record {
      front = Did w ∷ c.front;
      back = c.back;
      are = ap (λ l. Did w ∷ l) c.are;
      before = ap (λ z. z ∷ done_in c.front) (same-head w u (done_in ms) (us ++ v ∷ ws) e) ∙ ap (λ l. u ∷ l) c.before;
      behind = c.behind;
      lines = ap (λ l. Did w ∷ l) c.lines;
    }

-- all of them come before the next event behind all that was done
pub all-before : (ms : List Moment) → ms ≡ moments_before ms (done_in ms)
all-before [] = refl
all-before (Noted i a ∷ ms) = ap (λ l. Noted i a ∷ l) (all-before ms)
all-before (Did v ∷ ms) = ap (λ l. Did v ∷ l) (all-before ms)
