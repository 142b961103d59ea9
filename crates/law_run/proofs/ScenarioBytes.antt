-- The numbers of the program of each text that is a scenario have their bytes.
use Rattle.std.proofs.Common.{◌≡◌, refl, ◌∙◌, subst, ℕ, ◌≤◌, nat_le, true, ◌&&◌, ℤ, List, [], ◌∷◌, ◌++◌, map, length, slice_get, Option, Some, None, option_and_then, arith}
use Rattle.std.specs.List.{AllByRecursion, list_all}
use Rattle.std.proofs.lemmas.List.Elements.{recursion_from_All}
use Rattle.ic_base.specs.declared.limits.TheConstants.{VALUES}
use Rattle.ic_base.specs.declared.scenario.Component.{Component}
use Rattle.ic_base.specs.declared.scenario.Handler.{Handler}
use Rattle.ic_base.specs.declared.scenario.Stmt.{Stmt}
use Rattle.def_play.specs.Playing.{stmts_of}
use Rattle.def_syntax.specs.Bounds.{Count, nothing_counted, counted, Fits as Within, AllFit, IsLimited, KeepsLimits}
use Rattle.def_syntax.specs.Lines.{Line, Head, Var, Key, On, Set, Send, Out, If, Txn, Get, Put, Need, Else, End, joined, stmt_lines, body_lines, handler_lines, component_lines, program_lines}
use Rattle.def_syntax.proofs.Limits.{keeps_limits}
use Rattle.def_syntax.proofs.StatementLines.{var_line, key_line, set_lines, send_lines, out_lines, if_lines, txn_lines, put_lines, need_lines}
use Rattle.law_replay.proofs.ByKind.{Kinds, each_of}
use Rattle.law_replay.proofs.Lists.{both-true}
use Rattle.law_settle.proofs.Walks.{all-front, all-behind, all-at}
use Rattle.law_run.specs.ProgramBytes.{IsWord, operand_fits, expr_fits, fits_stmt, stmts_fit, ComponentFits}
use Rattle.law_run.specs.ScenarioBytes.{ScenariosHaveBytes}
use Rattle.law_run.proofs.Lines.{NumbersFit, numbers-fit}
use Rattle.law_run.proofs.Plays.{fits-Set, fits-Send, fits-Out, fits-If, fits-Txn, fits-Get, fits-Put, fits-Need}

-- lines -------------------------------------------------------------------------------------------

-- its numbers fit, and an `out` has no more values than it may
abbrev LineFits : Line → Type 0
LineFits (Out x xs) = nat_le (length xs) VALUES && list_all operand_fits xs ≡ true
LineFits l = NumbersFit l

line-fits : (c : Count) (l : Line) → Within c l → NumbersFit l → LineFits l
line-fits c (Head n kind immediate) w h = h
line-fits c (Var n z) w h = h
line-fits c (Key n z) w h = h
line-fits c (On n params) w h = h
line-fits c (Set v e) w h = h
line-fits c (Send p m xs) w h = h
line-fits c (Out x xs) w h = both-true (nat_le (length xs) VALUES) (list_all operand_fits xs) (few (length xs) w.1) h
  where
    few : (n : ℕ) → n ≤ VALUES → nat_le n VALUES ≡ true
    few n f = grind arith
line-fits c (If e) w h = h
line-fits c (Txn t) w h = h
line-fits c (Get n k) w h = h
line-fits c (Put k e) w h = h
line-fits c (Need line e) w h = h
line-fits c Else w h = h
line-fits c End w h = h

abbrev LinesFit : List Line → Type 0
LinesFit ls = AllByRecursion LineFits ls

lines-fit : (c : Count) (ls : List Line) → AllFit c ls → AllByRecursion NumbersFit ls → LinesFit ls
lines-fit c [] w h = tt
lines-fit c (l ∷ ls) w h = (line-fits c l w.0 h.0, lines-fit (counted l c) ls w.1 h.1)

-- each of lists of lines that stand behind one another
each-joined : {A : Type 0} (f : A → List Line) (xs : List A) → LinesFit (joined (map f xs)) → AllByRecursion (λ x. LinesFit (f x)) xs
each-joined f [] h = tt
each-joined f (x ∷ xs) h = (all-front LineFits (f x) (joined (map f xs)) h, each-joined f xs (all-behind LineFits (f x) (joined (map f xs)) h))

-- statements --------------------------------------------------------------------------------------

abbrev Says : Stmt → Type 0
Says s = LinesFit (stmt_lines s) → fits_stmt s ≡ true

all-say : (ss : List Stmt) → AllByRecursion Says ss → LinesFit (body_lines ss) → stmts_fit ss ≡ true
all-say [] h k = refl
all-say (s ∷ ss) h k = both-true (fits_stmt s) (stmts_fit ss) (h.0 (all-front LineFits (stmt_lines s) (body_lines ss) k)) (all-say ss h.1 (all-behind LineFits (stmt_lines s) (body_lines ss) k))

-- two bodies, with `else` and `end`
both-say : (a b : List Stmt) → AllByRecursion Says a → AllByRecursion Says b → LinesFit (body_lines a ++ Else ∷ (body_lines b ++ End ∷ [])) → stmts_fit a && stmts_fit b ≡ true
both-say a b x y k =
    both-true (stmts_fit a) (stmts_fit b) (all-say a x (all-front LineFits (body_lines a) (Else ∷ (body_lines b ++ End ∷ [])) k))
    (all-say b y (all-front LineFits (body_lines b) (End ∷ []) (all-behind LineFits (body_lines a) (Else ∷ (body_lines b ++ End ∷ [])) k).1))

kinds : Kinds Says
kinds = record {
  set = λ i e h. fits-Set i e ∙ (subst LinesFit (set_lines i e) h).0;
  send = λ to n es h. fits-Send to n es ∙ (subst LinesFit (send_lines to n es) h).0;
  out = λ to es h. fits-Out to es ∙ (subst LinesFit (out_lines to es) h).0;
  choice = λ e a b x y h.
      let k = subst LinesFit (if_lines e a b (body_lines a.stmts.items) (body_lines b.stmts.items) refl refl) h in
      fits-If e a b ∙ both-true (expr_fits e) (stmts_fit a.stmts.items && stmts_fit b.stmts.items) k.0 (both-say a.stmts.items b.stmts.items x y k.1);
  part = λ t a b x y h.
      let k = subst LinesFit (txn_lines t a b (body_lines a.stmts.items) (body_lines b.stmts.items) refl refl) h in fits-Txn t a b ∙ both-say a.stmts.items b.stmts.items x y k.1;
  get = λ i key h. fits-Get i key;
  put = λ key e h. fits-Put key e ∙ (subst LinesFit (put_lines key e) h).0;
  need = λ line e h. fits-Need line e ∙ (subst LinesFit (need_lines line e) h).0;
}

-- components --------------------------------------------------------------------------------------

vars-fit : (xs : List (List ℕ × ℤ)) → LinesFit (map var_line xs) → AllByRecursion (λ x. IsWord x.1) xs
vars-fit [] h = tt
vars-fit (x ∷ xs) h = (h.0, vars-fit xs h.1)

keys-fit : (xs : List (List ℕ × ℤ)) → LinesFit (map key_line xs) → AllByRecursion (λ x. IsWord x.1) xs
keys-fit [] h = tt
keys-fit (x ∷ xs) h = (h.0, keys-fit xs h.1)

-- what its lines say of a component
record Said (d : Component) : Type 0 where
  vars : AllByRecursion (λ x. IsWord x.1) d.vars
  keys : AllByRecursion (λ x. IsWord x.1) d.keys
  handlers : AllByRecursion (λ h. LinesFit (handler_lines h)) d.handlers

component-said : (d : Component) → LinesFit (component_lines d) → Said d
component-said d h =
    let vs = map var_line d.vars in
    let ks = map key_line d.keys in
    let hs = joined (map handler_lines d.handlers) in
    let a = all-front LineFits ((vs ++ ks) ++ hs) (End ∷ []) h.1 in
    let b = all-front LineFits (vs ++ ks) hs a in
    record { vars = vars-fit d.vars (all-front LineFits vs ks b); keys = keys-fit d.keys (all-behind LineFits vs ks b); handlers = each-joined handler_lines d.handlers (all-behind LineFits (vs ++ ks) hs a) }

component-fits : (d : Component) → IsLimited d → Said d → ComponentFits d
component-fits d l s = record { vars = l.vars; keys = l.keys; handlers = l.handlers; params = l.params; first_vars = s.vars; first_keys = s.keys }

components-fit : (ds : List Component) → AllByRecursion IsLimited ds → AllByRecursion (λ d. LinesFit (component_lines d)) ds → AllByRecursion ComponentFits ds
components-fit [] l h = tt
components-fit (d ∷ ds) l h = (component-fits d l.0 (component-said d h.0), components-fit ds l.1 h.1)

pub scenarios_have_bytes : ScenariosHaveBytes
scenarios_have_bytes text program is = record {
  components = limits.components;
  each = components-fit program.components (recursion_from_All IsLimited program.components limits.each) each;
  handlers = λ c handler. at c.0 (slice_get program.components c.0) refl handler;
}
  where
    limits : KeepsLimits program
    limits = keeps_limits text program is

    each : AllByRecursion (λ d. LinesFit (component_lines d)) program.components
    each = each-joined component_lines program.components (lines-fit nothing_counted (program_lines program) limits.lines (numbers-fit text program is))

    by : (d : Component) (n i : ℕ) → slice_get program.components n ≡ Some d → (o : Option Handler) → slice_get d.handlers i ≡ o → stmts_fit (stmts_of o) ≡ true
    by d n i is None f = refl
    by d n i is (Some h) f =
        let own = all-at (λ h. LinesFit (handler_lines h)) d.handlers i h (component-said d (all-at (λ d. LinesFit (component_lines d)) program.components n d each is)).handlers f in
        all-say h.body.stmts.items (each_of Says kinds h.body.stmts.items) (all-front LineFits (body_lines h.body.stmts.items) (End ∷ []) own.1)

    at : (n : ℕ) (o : Option Component) → slice_get program.components n ≡ o → (i : ℕ) → stmts_fit (stmts_of (option_and_then (λ (x : Component). slice_get x.handlers i) o)) ≡ true
    at n None f i = refl
    at n (Some d) f i = by d n i f (slice_get d.handlers i) refl
