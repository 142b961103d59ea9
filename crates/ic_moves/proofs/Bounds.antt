-- What the ready moves of a book hold.
use Rattle.std.proofs.Common.{refl, zero, suc, [], ◌∷◌, None, slice_get, ◌≡◌, ap, ℕ, ◌+◌, ◌<◌, ◌≤◌, ◌^◌, List, get_or}
use Rattle.def_two.specs.Moves.{amounts, leaves, comes}
use Rattle.def_two.specs.Book.{held_out, held_in}
use Rattle.ic_moves.specs.declared.book.BookCore.{BookCore}
use Rattle.ic_moves.specs.Cores.{state_of, IsOfLog}

-- a key that isn't there
pub none_there : (xs : List ℕ) (i : ℕ) → slice_get xs i ≡ None → 0 ≡ get_or xs i 0
none_there [] i e = refl
none_there (x ∷ xs) zero e = cc
none_there (x ∷ xs) (suc i) e = none_there xs i e

pub out_is : (c : BookCore) (key : ℕ) → IsOfLog c → amounts (leaves c.number key) c.ready.items ≡ held_out c.number (state_of c) key
out_is c key of_log = ap (amounts (leaves c.number key)) of_log.ready

pub in_is : (c : BookCore) (key : ℕ) → IsOfLog c → amounts (comes c.number key) c.ready.items ≡ held_in c.number (state_of c) key
in_is c key of_log = ap (amounts (comes c.number key)) of_log.ready

pub out_covered : (c : BookCore) (key : ℕ) → IsOfLog c → held_out c.number (state_of c) key ≤ get_or c.values.items key 0
out_covered c key of_log = of_log.facts.covered key

pub in_bounded : (c : BookCore) (key : ℕ) → IsOfLog c → get_or c.values.items key 0 + held_in c.number (state_of c) key < 2 ^ 64
in_bounded c key of_log = of_log.facts.bounded key
