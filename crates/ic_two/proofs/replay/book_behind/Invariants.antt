use Rattle.std.proofs.Common.{◌≡◌, drop}
use Rattle.def_two.specs.Book.{first_book, book_of, book_after, books_fit, is_book_log}
use Rattle.def_two.specs.Logs.{records2_in}
use Rattle.def_two.specs.Refusals.{book_misfit}
use Rattle.ic_moves.specs.Cores.{state_of, IsOfLog}
use Rattle.ic_two.proofs.replay.book_behind.Given as goal

abbrev pub invariant-loop-place : goal.invariant-loop-place
invariant-loop-place l = record {
  number : l.core.number ≡ l.number;
  of_log : IsOfLog l.core;
  state : book_after l.number (state_of l.core) (records2_in (drop l.place-index l.placed)) ≡ book_of l.number l.values (records2_in l.placed);
  good : books_fit l.number (state_of l.core) (records2_in (drop l.place-index l.placed)) ≡ is_book_log l.number l.values (records2_in l.placed);
  misfit : book_misfit l.number (state_of l.core) (drop l.place-index l.placed) ≡ book_misfit l.number (first_book l.values) l.placed;
}
