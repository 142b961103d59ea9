-- What the lines so far have declared and opened, and the first cause for which the next line is refused.
use Rattle.std.specs.Prelude.{ℕ, suc, ◌+◌, List, [], ◌∷◌, ◌++◌, length, map, flat_map, Bool, false, ◌||◌, Option, None, ok_or, Result, Ok, Err, nat_lt, nat_le, if◌then◌else◌, codes, bytes_eq}
use Rattle.ic_base.specs.declared.limits.TheConstants.{COMPONENTS, HANDLERS, KEYS, NESTING, STATEMENTS, VALUES, VARIABLES}
use Rattle.std.specs.List.{list_any}
use Rattle.ic_base.specs.declared.messages.Kind.{Kind}
use Rattle.ic_base.specs.declared.messages.Kind.TheVariants.{Pcom, Tcom, Xcom}
use Rattle.ic_base.specs.declared.refusals.Cause.{Cause}
use Rattle.ic_base.specs.declared.refusals.Cause.TheVariants.{Structure, Twice, Limit}
use Rattle.def_syntax.specs.Text.{◌>>=◌}
use Rattle.def_syntax.specs.SyntaxLines.{SyntaxLine, XcomItem, TcomItem, PcomItem, KeyItem, VarItem, OnItem, SetItem, SendItem, OutItem, IfItem, TxnItem, GetItem, PutItem, NeedItem, ElseItem, EndItem}
use Rattle.def_syntax.specs.Blocks.{Block, BlockAction, Stay, Begin, Turn, Finish, outside, in_block}

-- a component as it is declared: its names in order, and of each handler the number of parameters
pub record Declared : Type 0 where
  pub name : List ℕ
  pub kind : Kind
  pub vars : List (List ℕ)
  pub keys : List (List ℕ)
  pub handlers : List (List ℕ × ℕ)

-- an open block, with the locals that stand in it and their numbers
pub record Frame : Type 0 where
  pub block : Block
  pub locals : List (List ℕ × ℕ)

pub record Scope : Type 0 where
  -- the components, the latest first
  pub components : List Declared
  -- the open blocks, the innermost first
  pub frames : List Frame
  -- the parameters of the latest handler, and how many statements and locals it has so far
  pub params : List (List ℕ)
  pub statements : ℕ
  pub gets : ℕ
  -- the Tcom of the latest transaction
  pub tcom : List ℕ

abbrev pub empty_scope : Scope
empty_scope = record { components = []; frames = []; params = []; statements = 0; gets = 0; tcom = [] }

abbrev pub is_in : List ℕ → List (List ℕ) → Bool
is_in name names = list_any (λ n. bytes_eq name n) names

-- some name stands there twice
abbrev pub has_twice : List (List ℕ) → Bool
has_twice [] = false
has_twice (n ∷ ns) = is_in n ns || has_twice ns

abbrev pub nobody : Declared
nobody = record { name = []; kind = Xcom; vars = []; keys = []; handlers = [] }

-- the component that was declared last
abbrev pub latest : Scope → Declared
latest seen = elim seen.components [ [] ↦ nobody | c ∷ cs ↦ c ]

-- the locals that are seen here
abbrev pub locals_of : Scope → List (List ℕ × ℕ)
locals_of seen = flat_map (λ (f : Frame). f.locals) seen.frames

abbrev pub names : {X : Type 0} → List (List ℕ × X) → List (List ℕ)
names xs = map (λ x. x.0) xs

-- the names that a line declares
abbrev pub declares : SyntaxLine → List (List ℕ)
declares (XcomItem n) = n ∷ []
declares (TcomItem n) = n ∷ []
declares (PcomItem n immediate) = n ∷ []
declares (KeyItem n z) = n ∷ []
declares (VarItem n z) = n ∷ []
declares (OnItem n ps) = n ∷ ps
declares (GetItem n k) = n ∷ []
declares _ = []

abbrev pub is_reserved : List ℕ → Bool
is_reserved n = bytes_eq n (codes "stop") || bytes_eq n (codes "old")

-- a variable behind a handler, or a message of a Pcom to itself
abbrev pub is_out_of_place : Scope → SyntaxLine → Bool
is_out_of_place seen (VarItem n z) = nat_lt 0 (length (latest seen).handlers)
is_out_of_place seen (SendItem p h xs) = bytes_eq p (latest seen).name
is_out_of_place seen _ = false

abbrev pub move_in : List Frame → SyntaxLine → Option BlockAction
move_in [] item = outside item
move_in (f ∷ fs) item = in_block f.block item

-- what a line does to the block in which it stands, where the grammar lets it stand there
unfoldable pub move_of : Scope → SyntaxLine → Option BlockAction
move_of seen item = if list_any is_reserved (declares item) || is_out_of_place seen item then None else move_in seen.frames item

-- a name that must be new isn't
unfoldable pub is_twice : Scope → SyntaxLine → Bool
is_twice seen (XcomItem n) = is_in n (map (λ (c : Declared). c.name) seen.components)
is_twice seen (TcomItem n) = is_in n (map (λ (c : Declared). c.name) seen.components)
is_twice seen (PcomItem n immediate) = is_in n (map (λ (c : Declared). c.name) seen.components)
is_twice seen (KeyItem n z) = is_in n (latest seen).keys
is_twice seen (VarItem n z) = is_in n (latest seen).vars
is_twice seen (OnItem n ps) = is_in n (names (latest seen).handlers) || has_twice ps || list_any (λ p. is_in p (latest seen).vars) ps
is_twice seen (GetItem n k) = is_in n ((latest seen).vars ++ seen.params ++ names (locals_of seen))
is_twice seen _ = false

-- a handler has the most statements, or the most blocks of `if` and `txn` are open inside it
abbrev pub is_long : Scope → Bool
is_long seen = nat_le STATEMENTS seen.statements

abbrev pub is_deep : Scope → Bool
is_deep seen = nat_lt (NESTING + 1) (length seen.frames)

abbrev pub has_components : Scope → Bool
has_components seen = nat_le COMPONENTS (length seen.components)

-- the line passes a limit
unfoldable pub passes : Scope → SyntaxLine → Bool
passes seen (XcomItem n) = has_components seen
passes seen (TcomItem n) = has_components seen
passes seen (PcomItem n immediate) = has_components seen
passes seen (KeyItem n z) = nat_le KEYS (length (latest seen).keys)
passes seen (VarItem n z) = nat_le VARIABLES (length (latest seen).vars)
passes seen (OnItem n ps) = nat_le HANDLERS (length (latest seen).handlers) || nat_lt VALUES (length ps)
passes seen (SetItem v e) = is_long seen
passes seen (SendItem p h xs) = is_long seen || nat_lt VALUES (length xs)
passes seen (OutItem x xs) = is_long seen || nat_lt VALUES (length xs)
passes seen (IfItem e) = is_long seen || is_deep seen
passes seen (TxnItem t) = is_long seen || is_deep seen
passes seen (GetItem n k) = is_long seen
passes seen (PutItem k e) = is_long seen
passes seen (NeedItem e) = is_long seen
passes seen ElseItem = false
passes seen EndItem = false

abbrev pub frame : Block → Frame
frame b = record { block = b; locals = [] }

-- the open blocks behind a line
abbrev pub moved : BlockAction → List Frame → List Frame
moved Stay fs = fs
moved (Begin b) fs = frame b ∷ fs
moved (Turn b) [] = frame b ∷ []
moved (Turn b) (f ∷ fs) = frame b ∷ fs
moved Finish [] = []
moved Finish (f ∷ fs) = fs

-- the innermost block has one local more
abbrev pub with_local : List ℕ → ℕ → List Frame → List Frame
with_local n i [] = []
with_local n i (f ∷ fs) = record f { locals = f.locals ++ (n, i) ∷ [] } ∷ fs

abbrev pub with_latest : (Declared → Declared) → List Declared → List Declared
with_latest f [] = []
with_latest f (c ∷ cs) = f c ∷ cs

abbrev pub component : List ℕ → Kind → Declared
component n kind = record { name = n; kind = kind; vars = []; keys = []; handlers = [] }

-- what a line declares and counts
unfoldable pub noted : SyntaxLine → Scope → Scope
noted (XcomItem n) seen = record seen { components = component n Xcom ∷ seen.components }
noted (TcomItem n) seen = record seen { components = component n Tcom ∷ seen.components }
noted (PcomItem n immediate) seen = record seen { components = component n Pcom ∷ seen.components }
noted (KeyItem n z) seen = record seen { components = with_latest (λ c. record c { keys = c.keys ++ n ∷ [] }) seen.components }
noted (VarItem n z) seen = record seen { components = with_latest (λ c. record c { vars = c.vars ++ n ∷ [] }) seen.components }
noted (OnItem n ps) seen = record seen { components = with_latest (λ c. record c { handlers = c.handlers ++ (n, length ps) ∷ [] }) seen.components; params = ps; statements = 0; gets = 0 }
noted (SetItem v e) seen = record seen { statements = suc seen.statements }
noted (SendItem p h xs) seen = record seen { statements = suc seen.statements }
noted (OutItem x xs) seen = record seen { statements = suc seen.statements }
noted (IfItem e) seen = record seen { statements = suc seen.statements }
noted (TxnItem t) seen = record seen { statements = suc seen.statements; tcom = t }
noted (GetItem n k) seen = record seen { statements = suc seen.statements; gets = suc seen.gets; frames = with_local n seen.gets seen.frames }
noted (PutItem k e) seen = record seen { statements = suc seen.statements }
noted (NeedItem e) seen = record seen { statements = suc seen.statements }
noted ElseItem seen = seen
noted EndItem seen = seen

-- what is seen behind a line that moves so
abbrev pub behind : BlockAction → SyntaxLine → Scope → Scope
behind move item seen = noted item (record seen { frames = moved move seen.frames })

abbrev pub new_names : Scope → SyntaxLine → Result Scope Cause
new_names seen item = if is_twice seen item then Err Twice else Ok seen

abbrev pub within_limits : Scope → SyntaxLine → Result Scope Cause
within_limits seen item = if passes seen item then Err Limit else Ok seen

-- what is seen behind a line, or the first cause for which it is refused behind the lines so far
unfoldable pub scope_with : Scope → SyntaxLine → Result Scope Cause
scope_with seen item = do
  move ← ok_or (move_of seen item) Structure
  new ← new_names seen item
  within ← within_limits seen item
  Ok (behind move item seen)
