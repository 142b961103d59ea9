use Rattle.std.proofs.Common.{◌≡◌, take, drop, Some}
use Rattle.def_step.specs.Tcom.{book_of, book_misfit, misfit_from}
use Rattle.ic_tcom.proofs.Books.{from_place}
use Rattle.ic_tcom.proofs.replay.book_behind.Given as goal

abbrev pub invariant-loop-i : goal.invariant-loop-i
invariant-loop-i l = record {
  book : book_of l.program l.«com» (take l.i l.records) ≡ Some l.book.held;
  misfit : book_misfit l.program l.«com» l.records ≡ from_place l.i (misfit_from l.program l.«com» l.book.held (drop l.i l.records));
}
