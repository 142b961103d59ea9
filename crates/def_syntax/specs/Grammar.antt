-- The grammar of scenarios by relations: which lines of a program the lines of a text stand for. A relation goes from one place of
-- the text to a place behind it; at a place some items of the text, and the lines of the program that they stand for, are to come.
-- Each rule gives its conditions, then what stands behind its line, and last what stands at the line.
use Rattle.std.specs.Prelude.{◌≡◌, ◌<◌, ◌≤◌, ◌+◌, ℕ, ℤ, suc, List, [], ◌∷◌, ◌++◌, map, length, reverse, Bool, true, false, Option, Some, None, option_map, option_and_then, Ok, bytes_eq}
use Rattle.ic_base.specs.declared.limits.TheConstants.{COMPONENTS, HANDLERS, KEYS, NESTING, STATEMENTS, TEXT_BYTES, VALUES, VARIABLES}
use Rattle.std.specs.List.{list_any}
use Rattle.ic_base.specs.declared.messages.Kind.TheVariants.{Pcom, Tcom, Xcom}
use Rattle.ic_base.specs.declared.scenario.Operand.{Operand}
use Rattle.ic_base.specs.declared.scenario.Operand.TheVariants as operands
use Rattle.ic_base.specs.declared.scenario.Expr.{Expr}
use Rattle.ic_base.specs.declared.scenario.Expr.TheVariants.{One, Two}
use Rattle.ic_base.specs.declared.scenario.Program.{Program}
use Rattle.def_syntax.specs.Text.{lines_of, look_up, or_else}
use Rattle.def_syntax.specs.SyntaxLines.{RawOperand, Digits, Named, RawExpr, Single, Double, SyntaxLine, XcomItem, TcomItem, PcomItem, KeyItem, VarItem, OnItem, SetItem, SendItem, OutItem, IfItem, TxnItem, GetItem, PutItem, NeedItem, ElseItem, EndItem, both, line_item}
use Rattle.def_syntax.specs.Scope.{Declared, component, is_in, has_twice, is_reserved, names}
use Rattle.def_syntax.specs.Names.{place_of, found, com_id}
use Rattle.def_syntax.specs.Lines.{Line, Head, Var, Key, On, Set, Send, Out, If, Txn, Get, Put, Need, Else, End, program_lines}

-- an item, with the number of the line that says it
abbrev pub NumberedLine : Type 0
NumberedLine = ℕ × SyntaxLine

-- what the lines from this number on say, one behind the other; a line without a token says nothing
pub data Says : ℕ → List (List ℕ) → List NumberedLine → Type 0 where
  no_line : {n : ℕ} → Says n [] []
  blank_line : {n : ℕ} {l : List ℕ} {ls : List (List ℕ)} {is : List NumberedLine} → line_item l ≡ Ok None → Says (n + 1) ls is → Says n (l ∷ ls) is
  item_line : {n : ℕ} {l : List ℕ} {i : SyntaxLine} {ls : List (List ℕ)} {is : List NumberedLine} → line_item l ≡ Ok (Some i) → Says (n + 1) ls is → Says n (l ∷ ls) ((n, i) ∷ is)

-- locals with their numbers
abbrev pub Locals : Type 0
Locals = List (List ℕ × ℕ)

-- what stands around a handler: all components of the text, the name and the variables of its own one, and its parameters
pub record Around : Type 0 where
  pub all : List Declared
  pub me : List ℕ
  pub vars : List (List ℕ)
  pub params : List (List ℕ)

-- outside the parts of transactions, or in the part of one with the Tcom of this name
pub data TxnContext : Type 0 where
  Plain : TxnContext
  PartOf : List ℕ → TxnContext

-- a block of statements: its context, in how many others it stands, and the locals from around it and of its own that are seen
pub record Here : Type 0 where
  pub context : TxnContext
  pub depth : ℕ
  pub outer : Locals
  pub own : Locals

abbrev pub locals_in : Here → Locals
locals_in h = h.own ++ h.outer

-- the block of a handler, and a block inside a block
abbrev pub top : Here
top = record { context = Plain; depth = 0; outer = []; own = [] }

abbrev pub inside : TxnContext → Here → Here
inside context h = record { context = context; depth = suc h.depth; outer = locals_in h; own = [] }

-- what a name stands for in an operand
abbrev pub meaning_in : Around → Locals → List ℕ → Option Operand
meaning_in a locals n = or_else (option_map operands.Var (place_of n a.vars)) (or_else (option_map operands.Param (place_of n a.params)) (option_map operands.Local (look_up n locals)))

abbrev pub operand_in : Around → Locals → RawOperand → Option Operand
operand_in a locals (Digits z) = Some (operands.Number z)
operand_in a locals (Named n) = meaning_in a locals n

abbrev pub operands_in : Around → Locals → List RawOperand → Option (List Operand)
operands_in a locals [] = Some []
operands_in a locals (x ∷ xs) = both (λ o os. o ∷ os) (operand_in a locals x) (operands_in a locals xs)

abbrev pub expr_in : Around → Locals → RawExpr → Option Expr
expr_in a locals (Single x) = option_map One (operand_in a locals x)
expr_in a locals (Double x op y) = both (λ v w. Two v op w) (operand_in a locals x) (operand_in a locals y)

-- the place of a key of the Tcom of this name
abbrev pub key_in : Around → List ℕ → List ℕ → Option ℕ
key_in a t k = option_and_then (λ (c : ℕ × Declared). place_of k c.1.keys) (found Tcom t a.all)

-- a place in a handler: how many statements and locals stand in front of it, and what is to come
pub record Ahead : Type 0 where
  pub statements : ℕ
  pub gets : ℕ
  pub items : List NumberedLine
  pub lines : List Line

abbrev pub ahead : ℕ → ℕ → List NumberedLine → List Line → Ahead
ahead s g is ls = record { statements = s; gets = g; items = is; lines = ls }

-- a part begins with a `get` or a `put`
abbrev pub begins_part : List NumberedLine → Bool
begins_part ((n, GetItem x k) ∷ is) = true
begins_part ((n, PutItem k e) ∷ is) = true
begins_part _ = false

-- statements, none or more
pub data Statements (a : Around) : Here → Ahead → Ahead → Type 0 where
  no_statement : {h : Here} {p : Ahead} → Statements a h p p
  -- set VAR expr
  set : {h : Here} {s g n i : ℕ} {v : List ℕ} {e : RawExpr} {x : Expr} {is : List NumberedLine} {ls : List Line} {q : Ahead}
      → s < STATEMENTS → place_of v a.vars ≡ Some i → expr_in a (locals_in h) e ≡ Some x
      → Statements a h (ahead (suc s) g is ls) q → Statements a h (ahead s g ((n, SetItem v e) ∷ is) (Set i x ∷ ls)) q
  -- send PCOM HANDLER operand*: outside parts, to another Pcom, with as many operands as the handler has parameters
  send : {h : Here} {s g n i : ℕ} {p m : List ℕ} {xs : List RawOperand} {c : ℕ × Declared} {os : List Operand} {is : List NumberedLine} {ls : List Line} {q : Ahead}
      → h.context ≡ Plain → s < STATEMENTS → length xs ≤ VALUES → bytes_eq p a.me ≡ false
      → found Pcom p a.all ≡ Some c → place_of m (names c.1.handlers) ≡ Some i → operands_in a (locals_in h) xs ≡ Some os → look_up m c.1.handlers ≡ Some (length os)
      → Statements a h (ahead (suc s) g is ls) q → Statements a h (ahead s g ((n, SendItem p m xs) ∷ is) (Send (com_id c.0) i os ∷ ls)) q
  -- out XCOM operand*: outside parts
  out : {h : Here} {s g n : ℕ} {x : List ℕ} {xs : List RawOperand} {c : ℕ × Declared} {os : List Operand} {is : List NumberedLine} {ls : List Line} {q : Ahead}
      → h.context ≡ Plain → s < STATEMENTS → length xs ≤ VALUES → found Xcom x a.all ≡ Some c → operands_in a (locals_in h) xs ≡ Some os
      → Statements a h (ahead (suc s) g is ls) q → Statements a h (ahead s g ((n, OutItem x xs) ∷ is) (Out (com_id c.0) os ∷ ls)) q
  -- if expr / statements / else / statements / end
  choice : {h : Here} {s g n : ℕ} {e : RawExpr} {x : Expr} {is : List NumberedLine} {ls : List Line}
      {s1 g1 n1 : ℕ} {is1 : List NumberedLine} {ls1 : List Line} {s2 g2 n2 : ℕ} {is2 : List NumberedLine} {ls2 : List Line} {q : Ahead}
      → s < STATEMENTS → h.depth < NESTING → expr_in a (locals_in h) e ≡ Some x
      → Statements a (inside h.context h) (ahead (suc s) g is ls) (ahead s1 g1 ((n1, ElseItem) ∷ is1) (Else ∷ ls1))
      → Statements a (inside h.context h) (ahead s1 g1 is1 ls1) (ahead s2 g2 ((n2, EndItem) ∷ is2) (End ∷ ls2))
      → Statements a h (ahead s2 g2 is2 ls2) q → Statements a h (ahead s g ((n, IfItem e) ∷ is) (If x ∷ ls)) q
  -- if expr / statements / end: it stands for an `if` with an empty `else` part
  lone_choice : {h : Here} {s g n : ℕ} {e : RawExpr} {x : Expr} {is : List NumberedLine} {ls : List Line}
      {s1 g1 n1 : ℕ} {is1 : List NumberedLine} {ls1 : List Line} {q : Ahead}
      → s < STATEMENTS → h.depth < NESTING → expr_in a (locals_in h) e ≡ Some x
      → Statements a (inside h.context h) (ahead (suc s) g is ls) (ahead s1 g1 ((n1, EndItem) ∷ is1) (Else ∷ End ∷ ls1))
      → Statements a h (ahead s1 g1 is1 ls1) q → Statements a h (ahead s g ((n, IfItem e) ∷ is) (If x ∷ ls)) q
  -- txn TCOM / statements of the part / else / statements / end: outside parts
  txn : {h : Here} {s g n : ℕ} {t : List ℕ} {c : ℕ × Declared} {is : List NumberedLine} {ls : List Line}
      {s1 g1 n1 : ℕ} {is1 : List NumberedLine} {ls1 : List Line} {s2 g2 n2 : ℕ} {is2 : List NumberedLine} {ls2 : List Line} {q : Ahead}
      → h.context ≡ Plain → s < STATEMENTS → h.depth < NESTING → found Tcom t a.all ≡ Some c → begins_part is ≡ true
      → Statements a (inside (PartOf t) h) (ahead (suc s) g is ls) (ahead s1 g1 ((n1, ElseItem) ∷ is1) (Else ∷ ls1))
      → Statements a (inside Plain h) (ahead s1 g1 is1 ls1) (ahead s2 g2 ((n2, EndItem) ∷ is2) (End ∷ ls2))
      → Statements a h (ahead s2 g2 is2 ls2) q → Statements a h (ahead s g ((n, TxnItem t) ∷ is) (Txn (com_id c.0) ∷ ls)) q
  -- get NAME KEY: in a part; its local, the next of the handler, is seen in the rest of the block
  get : {h : Here} {s g n i : ℕ} {t x k : List ℕ} {is : List NumberedLine} {ls : List Line} {q : Ahead}
      → h.context ≡ PartOf t → s < STATEMENTS → is_reserved x ≡ false → is_in x (a.vars ++ a.params ++ names (locals_in h)) ≡ false → key_in a t k ≡ Some i
      → Statements a (record h { own = h.own ++ (x, g) ∷ [] }) (ahead (suc s) (suc g) is ls) q → Statements a h (ahead s g ((n, GetItem x k) ∷ is) (Get g i ∷ ls)) q
  -- put KEY expr: in a part
  put : {h : Here} {s g n i : ℕ} {t k : List ℕ} {e : RawExpr} {x : Expr} {is : List NumberedLine} {ls : List Line} {q : Ahead}
      → h.context ≡ PartOf t → s < STATEMENTS → key_in a t k ≡ Some i → expr_in a (locals_in h) e ≡ Some x
      → Statements a h (ahead (suc s) g is ls) q → Statements a h (ahead s g ((n, PutItem k e) ∷ is) (Put i x ∷ ls)) q
  -- need expr: in a part
  need : {h : Here} {s g n : ℕ} {t : List ℕ} {e : RawExpr} {x : Expr} {is : List NumberedLine} {ls : List Line} {q : Ahead}
      → h.context ≡ PartOf t → s < STATEMENTS → expr_in a (locals_in h) e ≡ Some x
      → Statements a h (ahead (suc s) g is ls) q → Statements a h (ahead s g ((n, NeedItem e) ∷ is) (Need n x ∷ ls)) q

-- a place outside the handlers
abbrev pub Open : Type 0
Open = List NumberedLine × List Line

-- the keys of a Tcom, and the variables of a Pcom: from those in front of a place to all of them
pub data Keys : List (List ℕ) → Open → List (List ℕ) → Open → Type 0 where
  no_key : {ks : List (List ℕ)} {p : Open} → Keys ks p ks p
  -- key NAME NUMBER
  key : {ks all : List (List ℕ)} {n : ℕ} {k : List ℕ} {z : ℤ} {is : List NumberedLine} {ls : List Line} {q : Open}
      → is_reserved k ≡ false → is_in k ks ≡ false → length ks < KEYS
      → Keys (ks ++ k ∷ []) (is, ls) all q → Keys ks ((n, KeyItem k z) ∷ is, Key k z ∷ ls) all q

pub data Vars : List (List ℕ) → Open → List (List ℕ) → Open → Type 0 where
  no_var : {vs : List (List ℕ)} {p : Open} → Vars vs p vs p
  -- var NAME NUMBER
  var : {vs all : List (List ℕ)} {n : ℕ} {v : List ℕ} {z : ℤ} {is : List NumberedLine} {ls : List Line} {q : Open}
      → is_reserved v ≡ false → is_in v vs ≡ false → length vs < VARIABLES
      → Vars (vs ++ v ∷ []) (is, ls) all q → Vars vs ((n, VarItem v z) ∷ is, Var v z ∷ ls) all q

-- the handlers of the Pcom with this name and these variables, among all these components, with their numbers of parameters
pub data Handlers (all : List Declared) (me : List ℕ) (vars : List (List ℕ)) : List (List ℕ × ℕ) → Open → List (List ℕ × ℕ) → Open → Type 0 where
  no_handler : {hs : List (List ℕ × ℕ)} {p : Open} → Handlers all me vars hs p hs p
  -- on NAME NAME* / statements / end
  handler : {hs every : List (List ℕ × ℕ)} {n : ℕ} {m : List ℕ} {ps : List (List ℕ)} {is : List NumberedLine} {ls : List Line}
      {s g n1 : ℕ} {is1 : List NumberedLine} {ls1 : List Line} {q : Open}
      → list_any is_reserved (m ∷ ps) ≡ false → is_in m (names hs) ≡ false → has_twice ps ≡ false → list_any (λ p. is_in p vars) ps ≡ false → length hs < HANDLERS → length ps ≤ VALUES
      → Statements (record { all = all; me = me; vars = vars; params = ps }) top (ahead 0 0 is ls) (ahead s g ((n1, EndItem) ∷ is1) (End ∷ ls1))
      → Handlers all me vars (hs ++ (m, length ps) ∷ []) (is1, ls1) every q → Handlers all me vars hs ((n, OnItem m ps) ∷ is, On m (length ps) ∷ ls) every q

-- no component of these has this name, which may be declared, and there are fewer than the most
pub record MayCome (n : List ℕ) (cs : List Declared) : Type 0 where
  pub free : is_reserved n ≡ false
  pub new : is_in n (map (λ (c : Declared). c.name) cs) ≡ false
  pub few : length cs < COMPONENTS

-- components, none or more, behind these, the latest of which stands first; at the end of the text there are all of them
pub data Components (all : List Declared) : List Declared → Open → Type 0 where
  no_component : {cs : List Declared} → all ≡ reverse cs → Components all cs ([], [])
  -- xcom NAME
  xcom : {cs : List Declared} {i : ℕ} {n : List ℕ} {is : List NumberedLine} {ls : List Line}
      → MayCome n cs → Components all (component n Xcom ∷ cs) (is, ls) → Components all cs ((i, XcomItem n) ∷ is, Head n Xcom false ∷ End ∷ ls)
  -- tcom NAME / keys / end
  tcom : {cs : List Declared} {i j : ℕ} {n : List ℕ} {ks : List (List ℕ)} {is is1 : List NumberedLine} {ls ls1 : List Line}
      → MayCome n cs → Keys [] (is, ls) ks ((j, EndItem) ∷ is1, End ∷ ls1)
      → Components all (record (component n Tcom) { keys = ks } ∷ cs) (is1, ls1) → Components all cs ((i, TcomItem n) ∷ is, Head n Tcom false ∷ ls)
  -- pcom NAME [immediate] / variables / handlers / end
  pcom : {cs : List Declared} {i j : ℕ} {n : List ℕ} {immediate : Bool} {vs : List (List ℕ)} {hs : List (List ℕ × ℕ)} {is is1 : List NumberedLine} {ls ls1 : List Line} {p : Open}
      → MayCome n cs → Vars [] (is, ls) vs p → Handlers all n vs [] p hs ((j, EndItem) ∷ is1, End ∷ ls1)
      → Components all (record (component n Pcom) { vars = vs; handlers = hs } ∷ cs) (is1, ls1) → Components all cs ((i, PcomItem n immediate) ∷ is, Head n Pcom immediate ∷ ls)

-- the text isn't too long, and the program's lines are what the items of its lines stand for
pub record Derives (text : List ℕ) (lines : List Line) : Type 0 where
  pub short : length text ≤ TEXT_BYTES
  pub all : List Declared
  pub items : List NumberedLine
  pub said : Says 1 (lines_of text) items
  pub components : Components all [] (items, lines)

-- the grammar gives the text this program
abbrev pub IsWritten : List ℕ → Program → Type 0
IsWritten text p = Derives text (program_lines p)
