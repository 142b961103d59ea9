-- What one line of a scenario says, with the names that it uses.
use Rattle.std.specs.Prelude.{ℕ, ℤ, List, [], ◌∷◌, Bool, true, false, Option, Some, None, option_map, ok_or, Result, Ok}
use Rattle.ic_base.specs.declared.scenario.Op.{Op}
use Rattle.ic_base.specs.declared.refusals.Cause.{Cause}
use Rattle.ic_base.specs.declared.refusals.Cause.TheVariants.{Structure}
use Rattle.def_syntax.specs.Text.{Fixed, XcomWord, TcomWord, PcomWord, ImmediateWord, VarWord, KeyWord, OnWord, SetWord, SendWord, OutWord, IfWord, ElseWord, TxnWord, GetWord, PutWord, NeedWord, EndWord, Token, Number, Name, Fixed_word, Operator, tokens_of, ◌>>=◌}

-- an operand as it is written
pub data RawOperand : Type 0 where
  Digits : ℤ → RawOperand
  Named : List ℕ → RawOperand

-- an expression as it is written
pub data RawExpr : Type 0 where
  Single : RawOperand → RawExpr
  Double : RawOperand → Op → RawOperand → RawExpr

pub data SyntaxLine : Type 0 where
  XcomItem : List ℕ → SyntaxLine
  TcomItem : List ℕ → SyntaxLine
  PcomItem : List ℕ → Bool → SyntaxLine
  KeyItem : List ℕ → ℤ → SyntaxLine
  VarItem : List ℕ → ℤ → SyntaxLine
  OnItem : List ℕ → List (List ℕ) → SyntaxLine
  SetItem : List ℕ → RawExpr → SyntaxLine
  SendItem : List ℕ → List ℕ → List RawOperand → SyntaxLine
  OutItem : List ℕ → List RawOperand → SyntaxLine
  IfItem : RawExpr → SyntaxLine
  TxnItem : List ℕ → SyntaxLine
  GetItem : List ℕ → List ℕ → SyntaxLine
  PutItem : List ℕ → RawExpr → SyntaxLine
  NeedItem : RawExpr → SyntaxLine
  ElseItem : SyntaxLine
  EndItem : SyntaxLine

abbrev pub raw_operand_of : Token → Option RawOperand
raw_operand_of (Number z) = Some (Digits z)
raw_operand_of (Name n) = Some (Named n)
raw_operand_of _ = None

abbrev pub both : {X Y Z : Type 0} → (X → Y → Z) → Option X → Option Y → Option Z
both f (Some x) (Some y) = Some (f x y)
both f x y = None

abbrev pub raw_operands_of : List Token → Option (List RawOperand)
raw_operands_of [] = Some []
raw_operands_of (t ∷ ts) = both (λ x xs. x ∷ xs) (raw_operand_of t) (raw_operands_of ts)

abbrev pub name_in : Token → Option (List ℕ)
name_in (Name n) = Some n
name_in _ = None

abbrev pub names_of : List Token → Option (List (List ℕ))
names_of [] = Some []
names_of (t ∷ ts) = both (λ x xs. x ∷ xs) (name_in t) (names_of ts)

abbrev pub operator_in : Token → Option Op
operator_in (Operator op) = Some op
operator_in _ = None

-- an operand, or an operator between two
abbrev pub raw_expr_of : List Token → Option RawExpr
raw_expr_of (t ∷ []) = option_map Single (raw_operand_of t)
raw_expr_of (t ∷ o ∷ u ∷ []) = both {Y = Op × RawOperand} (λ x y. Double x y.0 y.1) (raw_operand_of t) (both (λ op y. (op, y)) (operator_in o) (raw_operand_of u))
raw_expr_of _ = None

-- a name and nothing behind it
abbrev pub one_name : List Token → Option (List ℕ)
one_name (t ∷ []) = name_in t
one_name _ = None

-- a name, and what stands behind it
abbrev pub name_then : {X : Type 0} → (List Token → Option X) → List Token → Option (List ℕ × X)
name_then rest [] = None
name_then rest (t ∷ ts) = both (λ n x. (n, x)) (name_in t) (rest ts)

abbrev pub one_number : List Token → Option ℤ
one_number (Number z ∷ []) = Some z
one_number _ = None

-- nothing, or `immediate`
abbrev pub is_immediate : List Token → Option Bool
is_immediate [] = Some false
is_immediate (Fixed_word ImmediateWord ∷ []) = Some true
is_immediate _ = None

abbrev pub nothing_behind : SyntaxLine → List Token → Option SyntaxLine
nothing_behind item [] = Some item
nothing_behind item _ = None

-- what a line says that begins with this word
unfoldable pub item_with : Fixed → List Token → Option SyntaxLine
item_with XcomWord ts = option_map XcomItem (one_name ts)
item_with TcomWord ts = option_map TcomItem (one_name ts)
item_with PcomWord ts = option_map (λ x. PcomItem x.0 x.1) (name_then is_immediate ts)
item_with ImmediateWord ts = None
item_with VarWord ts = option_map (λ x. VarItem x.0 x.1) (name_then one_number ts)
item_with KeyWord ts = option_map (λ x. KeyItem x.0 x.1) (name_then one_number ts)
item_with OnWord ts = option_map (λ x. OnItem x.0 x.1) (name_then names_of ts)
item_with SetWord ts = option_map (λ x. SetItem x.0 x.1) (name_then raw_expr_of ts)
item_with SendWord ts = option_map (λ x. SendItem x.0 x.1.0 x.1.1) (name_then (name_then raw_operands_of) ts)
item_with OutWord ts = option_map (λ x. OutItem x.0 x.1) (name_then raw_operands_of ts)
item_with IfWord ts = option_map IfItem (raw_expr_of ts)
item_with ElseWord ts = nothing_behind ElseItem ts
item_with TxnWord ts = option_map TxnItem (one_name ts)
item_with GetWord ts = option_map (λ x. GetItem x.0 x.1) (name_then one_name ts)
item_with PutWord ts = option_map (λ x. PutItem x.0 x.1) (name_then raw_expr_of ts)
item_with NeedWord ts = option_map NeedItem (raw_expr_of ts)
item_with EndWord ts = nothing_behind EndItem ts

-- what the tokens of a line say, if they say anything
abbrev pub item_of : List Token → Option SyntaxLine
item_of (Fixed_word w ∷ ts) = item_with w ts
item_of _ = None

abbrev pub said : List Token → Result (Option SyntaxLine) Cause
said [] = Ok None
said (t ∷ ts) = do
  item ← ok_or (item_of (t ∷ ts)) Structure
  Ok (Some item)

-- what a line says: nothing where it has no token, else an item, or the first cause for which the line alone is refused
unfoldable pub line_item : List ℕ → Result (Option SyntaxLine) Cause
line_item line = do
  ts ← tokens_of line
  said ts
