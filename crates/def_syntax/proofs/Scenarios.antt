-- The definitions on whole scenarios, accepted and refused.
use Rattle.std.specs.Prelude.{◌≡◌, ℕ, zero, suc, pos, negsuc, List, [], ◌∷◌, ◌++◌, flat_map, true, false, Ok, Err, codes, refl}
use Rattle.ic_base.specs.declared.messages.Kind.TheVariants.{Pcom, Tcom, Xcom}
use Rattle.ic_base.specs.declared.scenario.Op.TheVariants.{Add, Sub, AtLeast}
use Rattle.ic_base.specs.declared.scenario.Operand.TheVariants as operands
use Rattle.ic_base.specs.declared.scenario.Expr.TheVariants.{One, Two}
use Rattle.ic_base.specs.declared.refusals.Cause.TheVariants.{Structure, Twice, Unknown, Arity}
use Rattle.def_syntax.specs.Text.{lines_of, pieces, token_with}
use Rattle.def_syntax.specs.SyntaxLines.{item_with, line_item}
use Rattle.def_syntax.specs.Blocks.{in_block}
use Rattle.def_syntax.specs.Scope.{move_of, is_twice, passes, noted, scope_with}
use Rattle.def_syntax.specs.Names.{resolved}
use Rattle.def_syntax.specs.Lines.{program_lines, Line, Head, Var, Key, On, Set, Out, If, Txn, Get, Put, Need, Else, End}
use Rattle.std.proofs.Common.{◌∙◌, ap, sym}
use Rattle.ic_base.specs.declared.scenario.Program.{Program}
use Rattle.def_syntax.specs.Scenario.{IsScenario, scenario_of, checked, all_named, named, seen_behind}

abbrev pub tally_text : List ℕ
tally_text = codes "pcom tally\n  var total 0\n  on add n\n    set total total + n\n  end\nend\n"

abbrev pub tally_lines : List Line
tally_lines = Head (codes "tally") Pcom false ∷ Var (codes "total") (pos 0) ∷ On (codes "add") 1 ∷ Set 0 (Two (operands.Var 0) Add (operands.Param 0)) ∷ End ∷ End ∷ []

pub tally : scenario_of tally_text ≡ Ok tally_lines
unfolding scenario_of checked all_named named seen_behind resolved scope_with noted passes is_twice move_of in_block line_item item_with token_with pieces lines_of
tally = refl

-- `totl` is declared nowhere
pub unknown_name : scenario_of (codes "pcom tally\n  var total 0\n  on add n\n    set total totl + n\n  end\nend\n") ≡ Err (4, Unknown)
unfolding scenario_of checked all_named named seen_behind resolved scope_with noted passes is_twice move_of in_block line_item item_with token_with pieces lines_of
unknown_name = refl

-- a parameter has the name of a variable, in front of a line with a word that is no token
pub name_twice : scenario_of (codes "pcom tally\n  var n 0\n  on add n\n    set n N\n  end\nend\n") ≡ Err (3, Twice)
unfolding scenario_of checked all_named named seen_behind resolved scope_with noted passes is_twice move_of in_block line_item item_with token_with pieces lines_of
name_twice = refl

-- the text ends inside the component
pub open_end : scenario_of (codes "pcom tally\n\n") ≡ Err (3, Structure)
unfolding scenario_of checked all_named named seen_behind resolved scope_with noted passes is_twice move_of in_block line_item item_with token_with pieces lines_of
open_end = refl

-- a part without a statement
pub else_line : scenario_of (codes "pcom p\n on go\n txn bank\n else\n end\n end\nend\ntcom bank\nend\n") ≡ Err (4, Structure)
unfolding scenario_of checked all_named named seen_behind resolved scope_with noted passes is_twice move_of in_block line_item item_with token_with pieces lines_of
else_line = refl

-- a message of a Pcom to itself
pub to_itself : scenario_of (codes "pcom p\n on go\n send p go\n end\nend\n") ≡ Err (3, Structure)
unfolding scenario_of checked all_named named seen_behind resolved scope_with noted passes is_twice move_of in_block line_item item_with token_with pieces lines_of
to_itself = refl

-- a message with too many operands; the receiver stands behind
pub arity : scenario_of (codes "pcom p\n on go\n send q hit 1\n end\nend\npcom q\n on hit\n end\nend\n") ≡ Err (3, Arity)
unfolding scenario_of checked all_named named seen_behind resolved scope_with noted passes is_twice move_of in_block line_item item_with token_with pieces lines_of
arity = refl

-- a local is not seen behind the `if` in which it stands
pub local_gone : scenario_of (codes "pcom p\n var x 0\n on go\n txn bank\n get a k\n if a\n get b k\n end\n set x b\n else\n end\n end\nend\ntcom bank\n key k 1\nend\n") ≡ Err (9, Unknown)
unfolding scenario_of checked all_named named seen_behind resolved scope_with noted passes is_twice move_of in_block line_item item_with token_with pieces lines_of
local_gone = refl

-- a variable behind a handler
pub variable_late : scenario_of (codes "pcom p\n on go\n end\n var x 0\nend\n") ≡ Err (4, Structure)
unfolding scenario_of checked all_named named seen_behind resolved scope_with noted passes is_twice move_of in_block line_item item_with token_with pieces lines_of
variable_late = refl

-- a reserved name
pub fixed_name : scenario_of (codes "pcom stop\nend\n") ≡ Err (1, Structure)
unfolding scenario_of checked all_named named seen_behind resolved scope_with noted passes is_twice move_of in_block line_item item_with token_with pieces lines_of
fixed_name = refl

-- a transaction: a Tcom with two keys, and a Pcom whose part moves an amount from one to the other
abbrev pub payer_lines : List Line
payer_lines =
    Head (codes "bank") Tcom false ∷ Key (codes "a") (pos 100) ∷ Key (codes "b") (pos 0) ∷ End
    ∷ Head (codes "payer") Pcom false ∷ Var (codes "ok") (pos 0) ∷ Var (codes "bad") (pos 0) ∷ On (codes "pay") 1
    ∷ Txn (record { 0 = 0 }) ∷ Get 0 0 ∷ Need 11 (Two (operands.Local 0) AtLeast (operands.Param 0)) ∷ Put 0 (Two (operands.Local 0) Sub (operands.Param 0)) ∷ Get 1 1
    ∷ Put 1 (Two (operands.Local 1) Add (operands.Param 0)) ∷ Set 0 (Two (operands.Var 0) Add (operands.Number (pos 1)))
    ∷ Else ∷ Set 1 (Two (operands.Var 1) Add (operands.Number (pos 1))) ∷ End ∷ End ∷ End ∷ []

pub payer : scenario_of (codes "tcom bank\n  key a 100\n  key b 0\nend\npcom payer\n  var ok 0\n  var bad 0\n  on pay n\n    txn bank\n      get x a\n      need x >= n\n      put a x - n\n      get y b\n      put b y + n\n      set ok ok + 1\n    else\n      set bad bad + 1\n    end\n  end\nend\n") ≡ Ok payer_lines
unfolding scenario_of checked all_named named seen_behind resolved scope_with noted passes is_twice move_of in_block line_item item_with token_with pieces lines_of
payer = refl

-- an `if` without `else` has the lines of one with an empty part
pub desk : scenario_of (codes "xcom desk\npcom shop immediate\n  on order n m # a comment\n    if n\n      out desk n -1\n    end\n  end\nend\n") ≡ Ok (Head (codes "desk") Xcom false ∷ End ∷ Head (codes "shop") Pcom true ∷ On (codes "order") 2 ∷ If (One (operands.Param 0)) ∷ Out (record { 0 = 0 }) (operands.Param 0 ∷ operands.Number (negsuc 0) ∷ []) ∷ Else ∷ End ∷ End ∷ End ∷ [])
unfolding scenario_of checked all_named named seen_behind resolved scope_with noted passes is_twice move_of in_block line_item item_with token_with pieces lines_of
desk = refl

pub empty : scenario_of [] ≡ Ok []
unfolding scenario_of checked all_named named seen_behind resolved scope_with noted passes is_twice move_of in_block line_item item_with token_with pieces lines_of
empty = refl

-- a program with these lines is what the text stands for
pub tally-program : (p : Program) → program_lines p ≡ tally_lines → IsScenario tally_text p
tally-program p e = tally ∙ ap Ok (sym e)

-- names of 32 letters, eight parameters and eight arguments
pub longest_name : scenario_of (codes "xcom abcdefghijklmnopqrstuvwxyz012345") ≡ Ok (Head (codes "abcdefghijklmnopqrstuvwxyz012345") Xcom false ∷ End ∷ [])
unfolding scenario_of checked all_named named seen_behind resolved scope_with noted passes is_twice move_of in_block line_item item_with token_with pieces lines_of
longest_name = refl

pub eight_values : scenario_of (codes "pcom p\n on go a b c d e f g h\n out x a b c d e f g 8\n end\nend\nxcom x") ≡ Ok (Head (codes "p") Pcom false ∷ On (codes "go") 8 ∷ Out (record { 0 = 1 }) (operands.Param 0 ∷ operands.Param 1 ∷ operands.Param 2 ∷ operands.Param 3 ∷ operands.Param 4 ∷ operands.Param 5 ∷ operands.Param 6 ∷ operands.Number (pos 8) ∷ []) ∷ End ∷ End ∷ Head (codes "x") Xcom false ∷ End ∷ [])
unfolding scenario_of checked all_named named seen_behind resolved scope_with noted passes is_twice move_of in_block line_item item_with token_with pieces lines_of
eight_values = refl

-- a list as often as asked for
abbrev pub repeated : {X : Type 0} → ℕ → List X → List X
repeated zero xs = []
repeated (suc n) xs = xs ++ repeated n xs

-- sixteen `if`, one inside the other
pub deepest : scenario_of (codes "pcom p\n on go\n" ++ repeated 16 (codes "if 1\n") ++ repeated 16 (codes "end\n") ++ codes " end\nend") ≡ Ok (Head (codes "p") Pcom false ∷ On (codes "go") 0 ∷ (repeated 16 (If (One (operands.Number (pos 1))) ∷ []) ++ repeated 16 (Else ∷ End ∷ []) ++ End ∷ End ∷ []))
unfolding scenario_of checked all_named named seen_behind resolved scope_with noted passes is_twice move_of in_block line_item item_with token_with pieces lines_of
deepest = refl

-- 256 statements
pub most_statements : scenario_of (codes "pcom p\n var x 0\n on go\n" ++ repeated 256 (codes "set x 1\n") ++ codes " end\nend") ≡ Ok (Head (codes "p") Pcom false ∷ Var (codes "x") (pos 0) ∷ On (codes "go") 0 ∷ (repeated 256 (Set 0 (One (operands.Number (pos 1))) ∷ []) ++ End ∷ End ∷ []))
unfolding scenario_of checked all_named named seen_behind resolved scope_with noted passes is_twice move_of in_block line_item item_with token_with pieces lines_of
most_statements = refl

-- 32 components, 32 variables, and 64 handlers
abbrev pub letters : List ℕ
letters = codes "abcdefghijklmnop"

pub most_components : scenario_of (flat_map (λ c. codes "xcom " ++ c ∷ (codes "1\nxcom " ++ c ∷ codes "2\n")) letters) ≡ Ok (flat_map (λ c. Head (c ∷ codes "1") Xcom false ∷ End ∷ Head (c ∷ codes "2") Xcom false ∷ End ∷ []) letters)
unfolding scenario_of checked all_named named seen_behind resolved scope_with noted passes is_twice move_of in_block line_item item_with token_with pieces lines_of
most_components = refl

pub most_variables : scenario_of (codes "pcom p\n" ++ flat_map (λ c. codes "var " ++ c ∷ (codes "1 0\nvar " ++ c ∷ codes "2 0\n")) letters ++ codes "end") ≡ Ok (Head (codes "p") Pcom false ∷ (flat_map (λ c. Var (c ∷ codes "1") (pos 0) ∷ Var (c ∷ codes "2") (pos 0) ∷ []) letters ++ End ∷ []))
unfolding scenario_of checked all_named named seen_behind resolved scope_with noted passes is_twice move_of in_block line_item item_with token_with pieces lines_of
most_variables = refl

pub most_handlers : scenario_of (codes "pcom p\n" ++ flat_map (λ c. codes "on " ++ c ∷ (codes "1\nend\non " ++ c ∷ (codes "2\nend\non " ++ c ∷ (codes "3\nend\non " ++ c ∷ codes "4\nend\n")))) letters ++ codes "end") ≡ Ok (Head (codes "p") Pcom false ∷ (flat_map (λ c. On (c ∷ codes "1") 0 ∷ End ∷ On (c ∷ codes "2") 0 ∷ End ∷ On (c ∷ codes "3") 0 ∷ End ∷ On (c ∷ codes "4") 0 ∷ End ∷ []) letters ++ End ∷ []))
unfolding scenario_of checked all_named named seen_behind resolved scope_with noted passes is_twice move_of in_block line_item item_with token_with pieces lines_of
most_handlers = refl
