-- How many turns the workers have for each berth.
use Rattle.std.specs.Prelude.{◌≡◌, ℕ, zero, suc, ◌+◌, ◌%◌, ◌==◌, cond, List, length, slice_get, Some}
use Rattle.ic_turn.specs.Progresses.{turns_of}
use Rattle.ic_turn.specs.declared.progress.Progress.{Progress}

-- how often, in its first turns, a worker comes to this place of so many: at turn i it goes to the place at worker + i, modulo their number
abbrev pub comes_to : ℕ → ℕ → ℕ → ℕ → ℕ
comes_to count place worker zero = 0
comes_to count place worker (suc turn) = comes_to count place worker turn + cond ((worker + turn) % count == place) 1 0

-- how often all workers do, each with so many turns
abbrev pub turns_due : ℕ → ℕ → ℕ → ℕ → ℕ
turns_due count place turns zero = 0
turns_due count place turns (suc worker) = turns_due count place turns worker + comes_to count place worker turns

-- each berth made the turns that the workers have for it, and no other
abbrev pub HaveTurned : ℕ → ℕ → List Progress → Type 0
HaveTurned workers turns ps = (k : ℕ) (p : Progress) → slice_get ps k ≡ Some p → turns_of p ≡ turns_due (length ps) k turns workers
