-- Scenarios that reach the limits.
use Rattle.std.proofs.Common.{◌≡◌, ◌∙◌, refl, sym, ap, subst, ap₂, map, ℕ, ℤ, zero, suc, pos, inl, inr, List, [], ◌∷◌, ◌++◌, flat_map, length, false, codes, Any, lit<, le_refl}
use Rattle.std.specs.Prelude.{Ok}
use Rattle.ic_base.specs.declared.messages.ComId.{ComId}
use Rattle.ic_base.specs.declared.messages.Kind.TheVariants.{Pcom, Tcom, Xcom}
use Rattle.ic_base.specs.declared.scenario.Operand.{Operand}
use Rattle.ic_base.specs.declared.scenario.Operand.TheVariants.{Number, Param}
use Rattle.ic_base.specs.declared.scenario.Expr.{Expr}
use Rattle.ic_base.specs.declared.scenario.Expr.TheVariants.{One}
use Rattle.ic_base.specs.declared.scenario.Stmt.{Stmt}
use Rattle.ic_base.specs.declared.scenario.Stmt.TheVariants as stmt
use Rattle.ic_base.specs.declared.scenario.Body.{Body}
use Rattle.ic_base.specs.declared.scenario.Handler.{Handler}
use Rattle.ic_base.specs.declared.scenario.Component.{Component}
use Rattle.ic_base.specs.declared.scenario.Program.{Program}
use Rattle.def_syntax.specs.Text.{lines_of, pieces, token_with}
use Rattle.def_syntax.specs.SyntaxLines.{item_with, line_item}
use Rattle.def_syntax.specs.Blocks.{in_block}
use Rattle.def_syntax.specs.Scope.{move_of, is_twice, passes, noted, scope_with}
use Rattle.def_syntax.specs.Names.{resolved}
use Rattle.def_syntax.specs.Lines.{Line, Head, On, Set, Send, Out, If, Txn, Put, Else, End, body_lines, component_lines, joined, program_lines}
use Rattle.def_syntax.specs.Bounds.{Count, nothing_counted}
use Rattle.def_syntax.specs.Scenario.{scenario_of, checked, all_named, named, seen_behind}
use Rattle.def_syntax.proofs.Scenarios.{letters, repeated, longest_name, eight_values, deepest, most_statements, most_components, most_variables, most_handlers}
use Rattle.ic_syntax.specs.Laws.{HoldsBehind, IsReached, SomeComponent, SomeHandler, SomeLine, IsIf, IsTxn, IsSend, IsOut}
use Rattle.def_syntax.proofs.StatementLines.{Lines, set_lines, put_lines, send_lines, out_lines, if_lines, txn_lines, alone, var_line, body}
use Rattle.ic_syntax.proofs.Keyed.{keyed, keyed_scenario, length-cells}

-- a handler, an Xcom and a Pcom
abbrev on : List ℕ → ℕ → Body → Handler
on name params b = record { name = name; params = params; body = b }

abbrev empty : Body
empty = body [] (lit< tt)

abbrev xcom : List ℕ → Component
xcom n = record { name = n; kind = Xcom; immediate = false; vars = []; keys = []; handlers = [] }

abbrev pcom : List ℕ → List (List ℕ × ℤ) → List Handler → Component
pcom n vars handlers = record { name = n; kind = Pcom; immediate = false; vars = vars; keys = []; handlers = handlers }

-- the number 1
abbrev one : Expr
one = One (Number (pos 1))

-- a Pcom `p` with a handler `go`, and other components
abbrev going : List (List ℕ × ℤ) → Handler → List Component → Program
going vars h others = record { components = pcom (codes "p") vars (h ∷ []) ∷ others }

-- its lines around those of the statements
abbrev around : List (List ℕ × ℤ) → Handler → List Component → Lines → Lines
around vars h others ls = joined ((Head (codes "p") Pcom false ∷ (map var_line vars ++ [] ++ joined ((On h.name h.params ∷ (ls ++ End ∷ [])) ∷ []) ++ End ∷ [])) ∷ map component_lines others)

going_lines : (vars : List (List ℕ × ℤ)) (h : Handler) (others : List Component) (ls : Lines) → body_lines h.body.stmts.items ≡ ls → program_lines (going vars h others) ≡ around vars h others ls
going_lines vars h others ls e = ap (around vars h others) e

-- a text that stands for these lines stands for the program with them, of which this holds
of_lines : {holds : Program → Type 0} {ls : Lines} (text : List ℕ) (p : Program) → scenario_of text ≡ Ok ls → program_lines p ≡ ls → holds p → IsReached holds
of_lines text p s e h = (text, p, s ∙ ap (λ ls. Ok ls) (sym e), h)

-- the same of some line
at_line : {holds : Count → Line → Type 0} {ls : Lines} (text : List ℕ) (p : Program) → scenario_of text ≡ Ok ls → program_lines p ≡ ls → HoldsBehind holds nothing_counted ls → IsReached (SomeLine holds)
at_line {holds = holds} text p s e h = of_lines text p s e (subst (λ (ls : Lines). HoldsBehind holds nothing_counted ls) (sym e) h)

-- this holds of the only element
abbrev only : {X : Type 0} (P : X → Type 0) (x : X) → P x → Any P (x ∷ [])
only P x h = (0, x, lit< tt, refl, h)

-- 32 components, 64 handlers, 32 variables, a name of 32 characters, 1,024 keys
pub components : IsReached (λ p. length p.components ≡ 32)
components = (_, record { components = flat_map (λ c. xcom (c ∷ codes "1") ∷ xcom (c ∷ codes "2") ∷ []) letters }, most_components, refl)

pub handlers : IsReached (SomeComponent (λ c. length c.handlers ≡ 64))
handlers =
    let c = pcom (codes "p") [] (flat_map (λ c. on (c ∷ codes "1") 0 empty ∷ on (c ∷ codes "2") 0 empty ∷ on (c ∷ codes "3") 0 empty ∷ on (c ∷ codes "4") 0 empty ∷ []) letters) in
    (_, record { components = c ∷ [] }, most_handlers, only _ c refl)

pub vars : IsReached (SomeComponent (λ c. length c.vars ≡ 32))
vars =
    let c = pcom (codes "p") (flat_map (λ c. (c ∷ codes "1", pos 0) ∷ (c ∷ codes "2", pos 0) ∷ []) letters) [] in
    (_, record { components = c ∷ [] }, most_variables, only _ c refl)

pub name : IsReached (SomeComponent (λ c. length c.name ≡ 32))
name = (_, record { components = xcom (codes "abcdefghijklmnopqrstuvwxyz012345") ∷ [] }, longest_name, only _ _ refl)

pub keys : IsReached (SomeComponent (λ c. length c.keys ≡ 1024))
keys = (_, record { components = keyed 1024 ∷ [] }, keyed_scenario 1024 (le_refl 1024), only _ (keyed 1024) (length-cells 0 1024))

-- so many statements
abbrev many : ℕ → List Stmt
many n = repeated n (stmt.Set 0 one ∷ [])

many_lines : (n : ℕ) → body_lines (many n) ≡ repeated n (Set 0 one ∷ [])
many_lines zero = refl
many_lines (suc n) = ap₂ (λ (ls ms : Lines). ls ++ ms) (set_lines 0 one) (many_lines n)

abbrev busy : Handler
busy = on (codes "go") 0 (body (many 256) (lit< tt))

abbrev cell : List (List ℕ × ℤ)
cell = (codes "x", pos 0) ∷ []

pub statements : IsReached (SomeHandler (λ h. length h.body.stmts.items ≡ 256))
statements = of_lines _ (going cell busy []) most_statements (going_lines cell busy [] _ (many_lines 256)) (only _ (pcom (codes "p") cell (busy ∷ [])) (only _ busy refl))

-- so many `if`, one inside the other, with this body inside them all
abbrev nested : ℕ → Body → Body
nested zero b = b
nested (suc n) b = body (stmt.If one (nested n b) empty ∷ []) (lit< tt)

abbrev nested_around : ℕ → Lines → Lines
nested_around zero ls = ls
nested_around (suc n) ls = If one ∷ (nested_around n ls ++ Else ∷ End ∷ [])

nested_lines : (n : ℕ) (b : Body) (ls : Lines) → body_lines b.stmts.items ≡ ls → body_lines (nested n b).stmts.items ≡ nested_around n ls
nested_lines zero b ls e = e
nested_lines (suc n) b ls e = alone (stmt.If one (nested n b) empty) _ (if_lines one (nested n b) empty (nested_around n ls) [] (nested_lines n b ls e) refl)

abbrev chooser : Handler
chooser = on (codes "go") 0 (nested 16 empty)

pub choices : IsReached (SomeLine (IsIf 16))
choices =
    at_line _ (going [] chooser []) deepest (going_lines [] chooser [] _ (nested_lines 16 empty [] refl))
    (inr (inr (inr (inr (inr (inr (inr (inr (inr (inr (inr (inr (inr (inr (inr (inr (inr (inl refl))))))))))))))))))

-- a transaction inside fifteen `if`, with the Tcom behind
abbrev store : Component
store = record { name = codes "t"; kind = Tcom; immediate = false; vars = []; keys = (codes "k", pos 1) ∷ []; handlers = [] }

abbrev part : Body
part = body (stmt.Put 0 one ∷ []) (lit< tt)

abbrev second : ComId
second = record { 0 = 1 }

abbrev payment : Body
payment = body (stmt.Txn second part empty ∷ []) (lit< tt)

abbrev payer : Handler
payer = on (codes "go") 0 (nested 15 payment)

payment_lines : body_lines payment.stmts.items ≡ Txn second ∷ Put 0 one ∷ Else ∷ End ∷ []
payment_lines = alone (stmt.Txn second part empty) _ (txn_lines second part empty (Put 0 one ∷ []) [] (alone (stmt.Put 0 one) _ (put_lines 0 one)) refl)

deepest_txn : scenario_of (codes "pcom p\n on go\n" ++ repeated 15 (codes "if 1\n") ++ codes "txn t\nput k 1\nelse\nend\n" ++ repeated 15 (codes "end\n") ++ codes " end\nend\ntcom t\nkey k 1\nend")
    ≡ Ok (around [] payer (store ∷ []) (nested_around 15 (Txn second ∷ Put 0 one ∷ Else ∷ End ∷ [])))
unfolding scenario_of checked all_named named seen_behind resolved scope_with noted passes is_twice move_of in_block line_item item_with token_with pieces lines_of
deepest_txn = refl

pub transactions : IsReached (SomeLine (IsTxn 16))
transactions =
    at_line _ (going [] payer (store ∷ [])) deepest_txn (going_lines [] payer (store ∷ []) _ (nested_lines 15 payment _ payment_lines))
    (inr (inr (inr (inr (inr (inr (inr (inr (inr (inr (inr (inr (inr (inr (inr (inr (inr (inl refl))))))))))))))))))

-- eight parameters, and eight values in an `out` and in a `send`
abbrev values : List Operand
values = Param 0 ∷ Param 1 ∷ Param 2 ∷ Param 3 ∷ Param 4 ∷ Param 5 ∷ Param 6 ∷ Number (pos 8) ∷ []

abbrev teller : Handler
teller = on (codes "go") 8 (body (stmt.Out second values ∷ []) (lit< tt))

abbrev desk : List Component
desk = xcom (codes "x") ∷ []

teller_lines : program_lines (going [] teller desk) ≡ around [] teller desk (Out second values ∷ [])
teller_lines = going_lines [] teller desk _ (alone (stmt.Out second values) _ (out_lines second values))

pub params : IsReached (SomeHandler (λ h. h.params ≡ 8))
params = of_lines _ (going [] teller desk) eight_values teller_lines (0, pcom (codes "p") [] (teller ∷ []), lit< tt, refl, only _ teller refl)

pub shown : IsReached (SomeLine (IsOut 8))
shown = at_line _ (going [] teller desk) eight_values teller_lines (inr (inr (inl refl)))

abbrev sender : Handler
sender = on (codes "go") 8 (body (stmt.Send second 0 values ∷ []) (lit< tt))

abbrev hearer : List Component
hearer = pcom (codes "q") [] (on (codes "hear") 8 empty ∷ []) ∷ []

eight_sent : scenario_of (codes "pcom p\n on go a b c d e f g h\n send q hear a b c d e f g 8\n end\nend\npcom q\n on hear a b c d e f g h\n end\nend") ≡ Ok (around [] sender hearer (Send second 0 values ∷ []))
unfolding scenario_of checked all_named named seen_behind resolved scope_with noted passes is_twice move_of in_block line_item item_with token_with pieces lines_of
eight_sent = refl

pub sent : IsReached (SomeLine (IsSend 8))
sent = at_line _ (going [] sender hearer) eight_sent (going_lines [] sender hearer _ (alone (stmt.Send second 0 values) _ (send_lines second 0 values))) (inr (inr (inl refl)))
