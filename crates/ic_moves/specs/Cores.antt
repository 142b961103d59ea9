-- What contracts see of a book and of the chief beside their logs.
use Rattle.std.specs.Prelude.{◌≡◌, ℕ, ◌+◌, ◌<◌, ◌≤◌, ◌==◌, ◌^◌, true, false, List, get_or, vec_len, vec_capacity, option_to_list}
use Rattle.def_two.specs.declared.states.BookState.{BookState}
use Rattle.def_two.specs.declared.moves.Move.{Move}
use Rattle.def_two.specs.Moves.{has_part}
use Rattle.def_two.specs.Book.{BookStep, ready_moves}
use Rattle.def_two.specs.Facts.{BookFacts}
use Rattle.ic_moves.specs.declared.book.BookCore.{BookCore}
use Rattle.ic_moves.specs.declared.book.BookPlan.{BookPlan}

-- a book's values, its ready and its ended moves
abbrev pub state_of : BookCore → BookState
state_of c = record { values = c.values.items; readied = c.readied.items; ended = c.ended.items }

-- The book of a log: it keeps the ready moves apart, and what they hold is within its values' bounds.
pub record IsOfLog (c : BookCore) : Type 0 where
  pub ready : c.ready.items ≡ ready_moves (state_of c)
  pub opening : List ℕ
  pub facts : BookFacts c.number opening (state_of c)

-- there is room for one record more
pub record HasRoom (c : BookCore) : Type 0 where
  pub readied : vec_len c.readied < vec_capacity c.readied
  pub ended : vec_len c.ended < vec_capacity c.ended
  pub ready : vec_len c.ready < vec_capacity c.ready

-- the same book, whatever room it has
pub record IsSameBook (old new : BookCore) : Type 0 where
  pub number : new.number ≡ old.number
  pub state : state_of new ≡ state_of old
  pub ready : new.ready.items ≡ old.ready.items

-- the step that a plan stands for
abbrev pub step_of : BookPlan → BookStep
step_of p = record { adds = option_to_list p.adds; puts = option_to_list p.puts }

-- a move has a part in a book of these values, and its change stays within their bounds
pub record MayChange (book : ℕ) (values : List ℕ) (m : Move) : Type 0 where
  pub part : has_part book values m ≡ true
  pub enough : (m.from == book) ≡ true → m.amount ≤ get_or values m.source 0
  pub bounded : (m.from == book) ≡ false → get_or values m.target 0 + m.amount < 2 ^ 64
