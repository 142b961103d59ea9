-- The book of records, one more at a time.
use Rattle.std.proofs.Common.{true, false, suc, arith, ◌≡◌, ◌∙◌, ◌<◌, ◌+◌, ◌++◌, ℕ, cond, List, [], ◌∷◌, length, get_or, take, drop, Option, Some, None, ap, refl, sym}
use Rattle.std.specs.Option.{option_and_then, option_map}
use Rattle.std.proofs.lemmas.List.{take_more, drop_more}
use Rattle.ic_base.specs.declared.messages.ComId.{ComId}
use Rattle.ic_base.specs.declared.record.Record.{Record}
use Rattle.ic_base.specs.declared.scenario.Program.{Program}
use Rattle.def_step.specs.Tcom.{Book, book, book_of, book_fits, booked, misfit_from}

module _ (program : Program) (t : ComId) where
  abbrev pub next_book : Record → Book → Option Book
  next_book r x = cond (book_fits program t x r) (Some (booked x r)) None

  book_push : (b : Option Book) (rs : List Record) (r : Record) → book program t b (rs ++ r ∷ []) ≡ option_and_then (next_book r) (book program t b rs)
  book_push b [] r = refl
  book_push b (x ∷ rs) r = book_push (option_and_then (next_book x) b) rs r

  -- the book of the records up to one more
  pub book_more : (rs : List Record) (i : ℕ) (r : Record) (b : Book) → i < length rs → r ≡ get_or rs i r → book_of program t (take i rs) ≡ Some b → book_of program t (take (i + 1) rs) ≡ next_book r b
  book_more rs i r b within read before =
      ap (book_of program t) (take_more rs i r within ∙ ap (λ x. take i rs ++ x ∷ []) (sym read))
      ∙ book_push _ (take i rs) r
      ∙ ap (option_and_then (next_book r)) before

  pub book_none : (rs : List Record) → book program t None rs ≡ None
  book_none [] = refl
  book_none (r ∷ rs) = book_none rs

-- places counted from another one on
abbrev pub from_place : ℕ → Option ℕ → Option ℕ
from_place i o = option_map (λ k. i + k) o

pub from_first : (o : Option ℕ) → o ≡ from_place 0 o
from_first None = refl
from_first (Some k) = ap Some (omega arith)

from_next : (i : ℕ) (o : Option ℕ) → from_place i (option_map suc o) ≡ from_place (i + 1) o
from_next i None = refl
from_next i (Some k) = ap Some (omega arith)

module _ (program : Program) (t : ComId) (rs : List Record) (i : ℕ) (r : Record) (b : Book) (within : i < length rs) (read : r ≡ get_or rs i r) where
  misfit_at : misfit_from program t b (drop i rs) ≡ cond (book_fits program t b r) (option_map suc (misfit_from program t (booked b r) (drop (i + 1) rs))) (Some 0)
  misfit_at = ap (misfit_from program t b) (drop_more rs i r within ∙ ap (λ x. x ∷ drop (i + 1) rs) (sym read))

  -- a record that fits isn't the misfit
  pub misfit_behind : book_fits program t b r ≡ true → from_place i (misfit_from program t b (drop i rs)) ≡ from_place (i + 1) (misfit_from program t (booked b r) (drop (i + 1) rs))
  misfit_behind fits =
      ap (from_place i) (misfit_at ∙ ap (λ f. cond f (option_map suc (misfit_from program t (booked b r) (drop (i + 1) rs))) (Some 0)) fits)
      ∙ from_next i (misfit_from program t (booked b r) (drop (i + 1) rs))

  -- one that doesn't is
  pub misfit_here : book_fits program t b r ≡ false → from_place i (misfit_from program t b (drop i rs)) ≡ Some i
  misfit_here fits =
      ap (from_place i) (misfit_at ∙ ap (λ f. cond f (option_map suc (misfit_from program t (booked b r) (drop (i + 1) rs))) (Some 0)) fits)
      ∙ ap Some (omega arith)
