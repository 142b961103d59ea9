-- What contracts see of a chief beside its log.
use Rattle.std.specs.Prelude.{◌≡◌, ◌<◌, ℕ, List, map, vec_len, vec_capacity, option_to_list, Contains, true}
use Rattle.def_two.specs.declared.moves.Move.{Move}
use Rattle.def_two.specs.declared.states.Docket.{Docket}
use Rattle.def_two.specs.declared.states.Heard.{Heard}
use Rattle.def_two.specs.Moves.{Openings}
use Rattle.def_two.specs.declared.moves.Cause2.{Cause2}
use Rattle.def_two.specs.declared.moves.Record2.{Record2}
use Rattle.def_two.specs.declared.moves.Record2.TheVariants as records
use Rattle.def_two.specs.declared.moves.Ruling.{Ruling}
use Rattle.def_two.specs.declared.moves.Ruling.TheVariants.{No}
use Rattle.def_two.specs.Chief.{Step, docket_fits, hears_yes, hears_done}
use Rattle.def_two.specs.Records.{IsCountedMove}
use Rattle.ic_moves.specs.declared.chief.ChiefCore.{ChiefCore}
use Rattle.ic_moves.specs.declared.chief.ChiefPlan.{ChiefPlan}
use Rattle.ic_moves.specs.declared.chief.News.{News}
use Rattle.ic_moves.specs.declared.chief.News.TheVariants.{Nothing, Yes, Done}

-- the opening values of a script's books, without their names
abbrev pub openings_of : {N : Type 0} → List (N × List ℕ) → Openings
openings_of books = map (λ b. b.1) books

-- the begun moves and the decisions
abbrev pub docket_of : ChiefCore → Docket
docket_of c = record { begun = c.begun.items; ruled = c.ruled.items }

-- the words that it heard in its present life
abbrev pub heard_of : ChiefCore → Heard
heard_of c = record { yes = c.yes.items; done = c.done.items }

abbrev pub heard_with : Heard → News → Heard
heard_with h Nothing = h
heard_with h (Yes w) = hears_yes w.n w.book h
heard_with h (Done w) = hears_done w.n w.book h

-- the step that a plan stands for
abbrev pub step_of : Heard → ChiefPlan → Step
step_of h p = record { adds = option_to_list p.adds; heard = heard_with h p.news; puts = p.puts }

-- no number of a begun move passes its limit
abbrev pub AreCounted : ChiefCore → Type 0
AreCounted c = (m : Move) → Contains c.begun.items m → IsCountedMove m

-- there is room for one word more
pub record HasWordRoom (c : ChiefCore) : Type 0 where
  pub yes : vec_len c.yes < vec_capacity c.yes
  pub done : vec_len c.done < vec_capacity c.done

-- and for one record more
pub record HasRoom (c : ChiefCore) : Type 0 where
  pub begun : vec_len c.begun < vec_capacity c.begun
  pub ruled : vec_len c.ruled < vec_capacity c.ruled
  pub words : HasWordRoom c

-- the same chief, whatever room it has
pub record IsSameChief (old new : ChiefCore) : Type 0 where
  pub docket : docket_of new ≡ docket_of old
  pub heard : heard_of new ≡ heard_of old

-- a decision on this move; a no is this book's
pub record IsVerdictOn (m : Move) (book : ℕ) (r : Record2) : Type 0 where
  pub ruling : Ruling
  pub is : r ≡ records.Verdict m.n ruling
  pub of_book : (b : ℕ) (cause : Cause2) → ruling ≡ No b cause → b ≡ book

-- a record that may stand next, whatever the books
abbrev pub IsNext : Docket → Record2 → Type 0
IsNext d r = (books : Openings) → docket_fits books d r ≡ true
