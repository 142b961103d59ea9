-- What the names of a line stand for, once all components are declared.
use Rattle.std.specs.Prelude.{ℕ, suc, List, [], ◌∷◌, length, Bool, true, false, Option, Some, None, option_map, option_and_then, Result, Ok, Err, ◌==◌, if◌then◌else◌, bytes_eq, position}
use Rattle.ic_base.specs.declared.messages.ComId.{ComId}
use Rattle.ic_base.specs.declared.messages.Kind.{Kind}
use Rattle.ic_base.specs.declared.messages.Kind.TheVariants.{Pcom, Tcom, Xcom}
use Rattle.ic_base.specs.declared.scenario.Operand.{Operand}
use Rattle.ic_base.specs.declared.scenario.Operand.TheVariants as operands
use Rattle.ic_base.specs.declared.scenario.Expr.{Expr}
use Rattle.ic_base.specs.declared.scenario.Expr.TheVariants.{One, Two}
use Rattle.ic_base.specs.declared.refusals.Cause.{Cause}
use Rattle.ic_base.specs.declared.refusals.Cause.TheVariants.{Unknown, Arity}
use Rattle.def_syntax.specs.Text.{look_up, or_else}
use Rattle.def_syntax.specs.SyntaxLines.{RawOperand, Digits, Named, RawExpr, Single, Double, SyntaxLine, XcomItem, TcomItem, PcomItem, KeyItem, VarItem, OnItem, SetItem, SendItem, OutItem, IfItem, TxnItem, GetItem, PutItem, NeedItem, ElseItem, EndItem, both}
use Rattle.def_syntax.specs.Blocks.{Then}
use Rattle.def_syntax.specs.Scope.{Declared, Frame, Scope, latest, locals_of, names}
use Rattle.def_syntax.specs.Lines.{Line, Head, Var, Key, On, Set, Send, Out, If, Txn, Get, Put, Need, Else, End}

abbrev pub is_kind : Kind → Kind → Bool
is_kind Pcom Pcom = true
is_kind Tcom Tcom = true
is_kind Xcom Xcom = true
is_kind _ _ = false

-- the place of a name
abbrev pub place_of : List ℕ → List (List ℕ) → Option ℕ
place_of name ns = position (λ n. bytes_eq name n) ns

-- the component of this kind and name, and its number, where they are numbered from this one on
abbrev pub found_from : ℕ → Kind → List ℕ → List Declared → Option (ℕ × Declared)
found_from i kind name [] = None
found_from i kind name (c ∷ cs) = if bytes_eq name c.name then (if is_kind kind c.kind then Some (i, c) else None) else found_from (suc i) kind name cs

abbrev pub found : Kind → List ℕ → List Declared → Option (ℕ × Declared)
found kind name cs = found_from 0 kind name cs

-- what a name stands for in an operand
abbrev pub meaning : Scope → List ℕ → Option Operand
meaning seen n =
    or_else (option_map operands.Var (place_of n (latest seen).vars)) (or_else (option_map operands.Param (place_of n seen.params)) (option_map operands.Local (look_up n (locals_of seen))))

abbrev pub operand_of : Scope → RawOperand → Option Operand
operand_of seen (Digits z) = Some (operands.Number z)
operand_of seen (Named n) = meaning seen n

abbrev pub operands_of : Scope → List RawOperand → Option (List Operand)
operands_of seen [] = Some []
operands_of seen (x ∷ xs) = both (λ o os. o ∷ os) (operand_of seen x) (operands_of seen xs)

abbrev pub expr_of : Scope → RawExpr → Option Expr
expr_of seen (Single x) = option_map One (operand_of seen x)
expr_of seen (Double x op y) = both (λ a b. Two a op b) (operand_of seen x) (operand_of seen y)

abbrev pub com_id : ℕ → ComId
com_id i = record { 0 = i }

-- one line, or Unknown where a name stands for nothing
abbrev pub one_line : Option Line → Result (List Line) Cause
one_line None = Err Unknown
one_line (Some l) = Ok (l ∷ [])

-- the place of a key of the transaction's Tcom
abbrev pub key_of : List Declared → Scope → List ℕ → Option ℕ
key_of all seen k = option_and_then (λ (x : ℕ × Declared). place_of k x.1.keys) (found Tcom seen.tcom all)

-- a message to a handler of a component, with as many operands as it has parameters
abbrev pub sent : ℕ → Option ℕ → Option ℕ → Option (List Operand) → Result (List Line) Cause
sent to (Some h) (Some count) (Some xs) = if length xs == count then Ok (Send (com_id to) h xs ∷ []) else Err Arity
sent to h count xs = Err Unknown

abbrev pub sent_to : Scope → List ℕ → List RawOperand → Option (ℕ × Declared) → Result (List Line) Cause
sent_to seen h xs None = Err Unknown
sent_to seen h xs (Some c) = sent c.0 (place_of h (names c.1.handlers)) (look_up h c.1.handlers) (operands_of seen xs)

-- an `end`, and in front of it the empty `else` part of an `if` without one
abbrev pub ended : List Frame → List Line
ended [] = End ∷ []
ended (f ∷ fs) = elim f.block [ Then part ↦ Else ∷ End ∷ [] | _ ↦ End ∷ [] ]

-- what a line stands for behind the lines so far, or Unknown or Arity
unfoldable pub resolved : List Declared → Scope → ℕ → SyntaxLine → Result (List Line) Cause
resolved all seen line (XcomItem n) = Ok (Head n Xcom false ∷ End ∷ [])
resolved all seen line (TcomItem n) = Ok (Head n Tcom false ∷ [])
resolved all seen line (PcomItem n immediate) = Ok (Head n Pcom immediate ∷ [])
resolved all seen line (KeyItem n z) = Ok (Key n z ∷ [])
resolved all seen line (VarItem n z) = Ok (Var n z ∷ [])
resolved all seen line (OnItem n ps) = Ok (On n (length ps) ∷ [])
resolved all seen line (SetItem v e) = one_line (both Set (place_of v (latest seen).vars) (expr_of seen e))
resolved all seen line (SendItem p h xs) = sent_to seen h xs (found Pcom p all)
resolved all seen line (OutItem x xs) = one_line (both (λ (c : ℕ × Declared) os. Out (com_id c.0) os) (found Xcom x all) (operands_of seen xs))
resolved all seen line (IfItem e) = one_line (option_map If (expr_of seen e))
resolved all seen line (TxnItem t) = one_line (option_map (λ (c : ℕ × Declared). Txn (com_id c.0)) (found Tcom t all))
resolved all seen line (GetItem n k) = one_line (option_map (Get seen.gets) (key_of all seen k))
resolved all seen line (PutItem k e) = one_line (both Put (key_of all seen k) (expr_of seen e))
resolved all seen line (NeedItem e) = one_line (option_map (Need line) (expr_of seen e))
resolved all seen line ElseItem = Ok (Else ∷ [])
resolved all seen line EndItem = Ok (ended seen.frames)
