-- Programs in whose transactions no other one stands, as the grammar has it.
use Rattle.std.specs.Prelude.{◌≡◌, ℕ, Bool, true, false, ◌&&◌, List, [], ◌∷◌, map}
use Rattle.ic_base.specs.declared.messages.ComId.{ComId}
use Rattle.ic_base.specs.declared.scenario.Program.{Program}
use Rattle.ic_base.specs.declared.scenario.Stmt.{Stmt}
use Rattle.ic_base.specs.declared.scenario.Stmt.TheOpen.{Stmt-F, Body-F, If, Txn}
use Rattle.ic_base.specs.declared.scenario.Stmt.TheFolds.{fold-Stmt}
use Rattle.def_play.specs.Playing.{stmts_of, handler_of}

-- of all of these
abbrev pub both_of : List (Bool × Bool) → Bool × Bool
both_of [] = (true, true)
both_of (x ∷ xs) = (x.0 && (both_of xs).0, x.1 && (both_of xs).1)

-- no transaction stands here, and none within the part of one
abbrev pub flat_stmt : Stmt-F (Bool × Bool) (Bool × Bool) → Bool × Bool
flat_stmt (If e a b) = (a.0 && b.0, a.1 && b.1)
flat_stmt (Txn t a b) = (false, (a.0 && a.1) && b.1)
flat_stmt _ = (true, true)

abbrev pub flat_body : Body-F (Bool × Bool) (Bool × Bool) → Bool × Bool
flat_body b = both_of b.stmts.items

abbrev pub flat : Stmt → Bool × Bool
flat = fold-Stmt (Bool × Bool) (Bool × Bool) flat_stmt flat_body

abbrev pub all_flat : List Stmt → Bool × Bool
all_flat ss = both_of (map flat ss)

abbrev pub HasFlatParts : Program → Type 0
HasFlatParts program = (c : ComId) (handler : ℕ) → (all_flat (stmts_of (handler_of program c handler))).1 ≡ true
