-- Programs whose statements stand where the grammar lets them: requests and tests in the part of a transaction, of keys of its Tcom,
-- messages, outputs and transactions outside.
use Rattle.std.specs.Prelude.{◌≡◌, ◌≤◌, ℕ, ◌+◌, ◌==◌, Bool, true, false, ◌&&◌, List, [], ◌∷◌, map, length, slice_get, Option, Some, None, is_some, is_none}
use Rattle.ic_base.specs.declared.limits.TheConstants.{STATEMENTS}
use Rattle.ic_base.specs.declared.messages.ComId.{ComId}
use Rattle.ic_base.specs.declared.scenario.Handler.{Handler}
use Rattle.ic_base.specs.declared.scenario.Program.{Program}
use Rattle.ic_base.specs.declared.scenario.Stmt.{Stmt}
use Rattle.ic_base.specs.declared.scenario.Stmt.TheOpen.{Stmt-F, Body-F, Set, Send, Out, If, Txn, Get, Put, Need}
use Rattle.ic_base.specs.declared.scenario.Stmt.TheFolds.{fold-Stmt}
use Rattle.ic_base.specs.Programs.{declares, is_a_tcom, is_an_xcom, is_other_pcom, has_key}
use Rattle.def_play.specs.Playing.{stmts_of, handler_of}

-- outside the parts of transactions, or in the part of one on this Tcom
abbrev pub Place : Type 0
Place = Option ComId

-- A statement or a body: whether a request stands first, how many statements there are, and whether each may stand at a place.
pub record Shape : Type 0 where
  pub request : Bool
  pub size : ℕ
  pub stands : Place → Bool

abbrev pub one : Bool → (Place → Bool) → Shape
one request stands = record { request = request; size = 1; stands = stands }

-- in the part of a transaction, on a Tcom that passes the test
abbrev pub in_part : (ComId → Bool) → Place → Bool
in_part test None = false
in_part test (Some t) = test t

-- the handler has so many parameters
abbrev pub has_params : ℕ → Option Handler → Bool
has_params n None = false
has_params n (Some h) = h.params == n

-- the component has this handler, with so many parameters
abbrev pub takes_values : Program → ComId → ℕ → ℕ → Bool
takes_values program c h n = declares (λ d. has_params n (slice_get d.handlers h)) (slice_get program.components c.0)

abbrev pub all_shapes : List Shape → Shape
all_shapes [] = record { request = false; size = 0; stands = λ p. true }
all_shapes (x ∷ xs) = record { request = x.request; size = x.size + (all_shapes xs).size; stands = λ p. x.stands p && (all_shapes xs).stands p }

-- one statement of c, with the shape of each body in its place; a part begins with a request
abbrev pub shape_stmt : Program → ComId → Stmt-F Shape Shape → Shape
shape_stmt program c (Set i e) = one false (λ p. true)
shape_stmt program c (Send to h es) = one false (λ p. is_none p && (is_other_pcom program c to && takes_values program to h (length es)))
shape_stmt program c (Out to es) = one false (λ p. is_none p && is_an_xcom program to)
shape_stmt program c (If e a b) = record { request = false; size = 1 + (a.size + b.size); stands = λ p. a.stands p && b.stands p }
shape_stmt program c (Txn t a b) = record { request = false; size = 1 + (a.size + b.size); stands = λ p. is_none p && (is_a_tcom program t && (a.request && (a.stands (Some t) && b.stands None))) }
shape_stmt program c (Get i key) = one true (in_part (λ t. has_key program t key))
shape_stmt program c (Put key e) = one true (in_part (λ t. has_key program t key))
shape_stmt program c (Need line e) = one false is_some

abbrev pub shape_body : Body-F Shape Shape → Shape
shape_body b = all_shapes b.stmts.items

abbrev pub shape : Program → ComId → Stmt → Shape
shape program c = fold-Stmt Shape Shape (shape_stmt program c) shape_body

abbrev pub shapes : Program → ComId → List Stmt → Shape
shapes program c ss = all_shapes (map (shape program c) ss)

-- each handler has few enough statements, each of which may stand where it does
pub record ArePlaced (program : Program) (c : ComId) (ss : List Stmt) : Type 0 where
  pub stand : (shapes program c ss).stands None ≡ true
  pub few : (shapes program c ss).size ≤ STATEMENTS

abbrev pub IsPlaced : Program → Type 0
IsPlaced program = (c : ComId) (handler : ℕ) → ArePlaced program c (stmts_of (handler_of program c handler))
