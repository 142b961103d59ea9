-- A component whose disk alone has another stop.
use Rattle.std.proofs.Common.{◌≡◌, ◌∙◌, refl, sym, ap, ◌+◌, not, ◌||◌, List, length}
use Rattle.def_two.specs.declared.moves.Record2.{Record2}
use Rattle.def_two.specs.declared.states.Heard.{Heard}
use Rattle.def_two.specs.Book.{book_of}
use Rattle.def_two.specs.Chief.{Call, Begins, Hears, Resends, Step, docket_of, chief_step, nothing_heard}
use Rattle.def_two.specs.CoreSteps.{has_no_room2, is_past_number}
use Rattle.def_two.specs.World.{book_does}
use Rattle.ic_disk.specs.declared.disk.Disk.{Ghosts}
use Rattle.ic_two.specs.Books as books
use Rattle.ic_two.specs.ChiefLogs as chiefs
use Rattle.ic_two.specs.declared.book.Book.{Book}
use Rattle.ic_two.specs.declared.chief.Chief.{Chief}
use Rattle.ic_seat.specs.Seats.{step_in, MayBegin}
use Rattle.ic_seat.specs.Steps.{IsSameSeat}
use Rattle.ic_seat.specs.declared.seat.Seat.TheVariants as seats

module _ {D : Type 0} {d : Ghosts D} where
  pub chief_same : (x y : Chief D d) → chiefs.IsSame x y → IsSameSeat (seats.Chief x) (seats.Chief y)
  chief_same x y same = record {
    is_open_as = ap not same.log.closed;
    heard = same.heard;
    seated = λ openings c e. e;
    may = may;
    steps = steps;
    full = λ size call. ap (λ (s : Step). is_past_number call || has_no_room2 size s.adds) (steps call);
  }
    where
      may : (call : Call) → MayBegin (seats.Chief x) call → MayBegin (seats.Chief y) call
      may (Begins m) e = (e.0 ∙ ap (λ (rs : List Record2). length (docket_of rs).begun + 1) (sym same.log.records), e.1)
      may (Hears p) e = tt
      may Resends e = tt

      steps : (call : Call) → step_in (seats.Chief y) call ≡ step_in (seats.Chief x) call
      steps call = ap (λ (rs : List Record2). chief_step (docket_of rs) (chiefs.heard_of y) call) same.log.records ∙ ap (λ (h : Heard). chief_step (docket_of (chiefs.records_of x)) h call) same.heard

  pub book_same : (x y : Book D d) → books.IsSame x y → IsSameSeat (seats.Book x) (seats.Book y)
  book_same x y same = record {
    is_open_as = ap not same.log.closed;
    heard = refl;
    seated = λ openings c e. (e.0, same.same.number ∙ e.1, same.same.opening ∙ e.2);
    may = λ call e. tt;
    steps = steps;
    full = λ size call. ap (λ (s : Step). has_no_room2 size s.adds) (steps call);
  }
    where
      steps : (call : Call) → step_in (seats.Book y) call ≡ step_in (seats.Book x) call
      steps call =
          ap (λ n. book_does nothing_heard n (book_of n (books.opening_of y) (books.records_of y)) call) same.same.number
          ∙ ap (λ o. book_does nothing_heard (books.number_of x) (book_of (books.number_of x) o (books.records_of y)) call) same.same.opening
          ∙ ap (λ (rs : List Record2). book_does nothing_heard (books.number_of x) (book_of (books.number_of x) (books.opening_of x) rs) call) same.log.records
