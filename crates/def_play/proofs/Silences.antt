-- Which statements are silent, and that they stay so.
use Rattle.std.proofs.Common.{◌≡◌, ◌∙◌, sym, ap, refl, ℤ, Bool, true, false, List, [], ◌∷◌, map}
use Rattle.std.specs.Prelude.{◌&&◌}
use Rattle.std.specs.List.{list_all}
use Rattle.ic_base.specs.declared.messages.ComId.{ComId}
use Rattle.ic_base.specs.declared.scenario.Operand.{Operand}
use Rattle.ic_base.specs.declared.scenario.Expr.{Expr}
use Rattle.ic_base.specs.declared.scenario.Body.{Body}
use Rattle.ic_base.specs.declared.scenario.Stmt.{Stmt}
use Rattle.ic_base.specs.declared.scenario.Stmt.TheOpen.{Set, Send, Out, If, Txn, Get, Put, Need}
use Rattle.ic_base.specs.declared.scenario.Stmt as stmt
use Rattle.ic_base.specs.declared.scenario.Stmt.TheVariants.{rolls-Set, rolls-Send, rolls-Out, rolls-If, rolls-Txn, rolls-Get, rolls-Put, rolls-Need}
use Rattle.ic_base.specs.declared.scenario.Stmt.TheFolds.{fold-Body, fold-roll-Stmt, fold_out-Body}
use Rattle.def_play.specs.Playing.{Change, choose, turn, in_turn, and_then, expr_value, holds}
use Rattle.def_play.specs.Silent.{silent_stmt, silent_body, is_silent, are_silent, StaysSilent, StaySilent}
use Rattle.def_play.proofs.Folds.{turn-Set, turn-If, all_turns}

pub is_silent-Set : (i : _) (e : Expr) → is_silent (stmt.Set i e) ≡ true
is_silent-Set i e = ap is_silent (sym (rolls-Set i e)) ∙ fold-roll-Stmt Bool Bool silent_stmt silent_body (Set i e)

-- the test of a body is that of its statements
all_of_map : (ss : List Stmt) → list_all (λ x. x) (map is_silent ss) ≡ are_silent ss
all_of_map [] = refl
all_of_map (s ∷ ss) = ap (λ b. is_silent s && b) (all_of_map ss)

silent-body : (b : Body) → fold-Body Bool Bool silent_stmt silent_body b ≡ are_silent b.stmts.items
silent-body b = fold_out-Body Bool Bool silent_stmt silent_body b ∙ all_of_map b.stmts.items

pub is_silent-If : (e : Expr) (a b : Body) → is_silent (stmt.If e a b) ≡ (are_silent a.stmts.items && are_silent b.stmts.items)
is_silent-If e a b =
    ap is_silent (sym (rolls-If e a b)) ∙ fold-roll-Stmt Bool Bool silent_stmt silent_body (If e a b)
    ∙ ap (λ x. x && fold-Body Bool Bool silent_stmt silent_body b) (silent-body a)
    ∙ ap (λ x. are_silent a.stmts.items && x) (silent-body b)

pub is_silent-Send : (to : ComId) (h : _) (es : List Operand) → is_silent (stmt.Send to h es) ≡ false
is_silent-Send to h es = ap is_silent (sym (rolls-Send to h es)) ∙ fold-roll-Stmt Bool Bool silent_stmt silent_body (Send to h es)

pub is_silent-Out : (to : ComId) (es : List Operand) → is_silent (stmt.Out to es) ≡ false
is_silent-Out to es = ap is_silent (sym (rolls-Out to es)) ∙ fold-roll-Stmt Bool Bool silent_stmt silent_body (Out to es)

pub is_silent-Txn : (t : ComId) (a b : Body) → is_silent (stmt.Txn t a b) ≡ false
is_silent-Txn t a b = ap is_silent (sym (rolls-Txn t a b)) ∙ fold-roll-Stmt Bool Bool silent_stmt silent_body (Txn t _ _)

pub is_silent-Get : (i key : _) → is_silent (stmt.Get i key) ≡ false
is_silent-Get i key = ap is_silent (sym (rolls-Get i key)) ∙ fold-roll-Stmt Bool Bool silent_stmt silent_body (Get i key)

pub is_silent-Put : (key : _) (e : Expr) → is_silent (stmt.Put key e) ≡ false
is_silent-Put key e = ap is_silent (sym (rolls-Put key e)) ∙ fold-roll-Stmt Bool Bool silent_stmt silent_body (Put key e)

pub is_silent-Need : (line : _) (e : Expr) → is_silent (stmt.Need line e) ≡ false
is_silent-Need line e = ap is_silent (sym (rolls-Need line e)) ∙ fold-roll-Stmt Bool Bool silent_stmt silent_body (Need line e)

-- a `set` goes on
pub set_stays : (args now : List ℤ) (i : _) (e : Expr) → StaysSilent (turn args now (stmt.Set i e))
set_stays args now i e p s = (_, ap (λ f. f p s) (turn-Set args now i e))

chosen_stays : (b : Bool) (f g : Change) → StaysSilent f → StaysSilent g → StaysSilent (choose b f g)
chosen_stays true f g x y = x
chosen_stays false f g x y = y

-- an `if` goes on where its bodies do
pub if_stays : (args now : List ℤ) (e : Expr) (a b : Body) → StaySilent a.stmts.items → StaySilent b.stmts.items → StaysSilent (turn args now (stmt.If e a b))
if_stays args now e a b x y p s =
    let goes = chosen_stays (holds (expr_value args s e)) (all_turns args now a.stmts.items) (all_turns args now b.stmts.items) (x args now) (y args now) p s in
    (goes.0, ap (λ f. f p s) (turn-If args now e a b) ∙ goes.1)

-- one statement, and those behind it
pub more_stay : (s : Stmt) (ss : List Stmt) → ((args now : List ℤ) → StaysSilent (turn args now s)) → StaySilent ss → StaySilent (s ∷ ss)
more_stay s ss first rest args now p c =
    let one = first args now p c in
    let others = rest args now p (record c { vars = one.0 }) in
    (others.0, ap (λ t. and_then t (in_turn (map (turn args now) ss) p)) one.1 ∙ others.1)

pub none_stay : StaySilent []
none_stay args now p c = (c.vars, refl)
