-- What a book keeps beside its log is what the log gives.
use Rattle.std.proofs.Common.{◌≡◌, ◌∙◌, sym, ap, ℕ, ◌<◌, ◌^◌, true, ◌&&◌, List, [], ◌∷◌, ◌++◌, get_or}
use Rattle.def_two.specs.declared.moves.Packet2.{Packet2}
use Rattle.def_two.specs.declared.moves.Record2.{Record2}
use Rattle.def_two.specs.Book.{first_book, book_of, booked, book_fits, is_book_log, ready_moves, book_step}
use Rattle.law_two.proofs.Books.{first_facts, log_facts}
use Rattle.law_two.proofs.Turns.{book-grew, books-more}
use Rattle.ic_moves.specs.Cores.{state_of, IsOfLog, IsSameBook, step_of}
use Rattle.ic_moves.specs.declared.book.BookCore.{BookCore}
use Rattle.ic_moves.specs.declared.book.BookPlan.{BookPlan}
use Rattle.ic_moves.proofs.Entering.{of_log_as}

pub record Kept (core : BookCore) (opening : List ℕ) (rs : List Record2) : Type 0 where
  pub state : state_of core ≡ book_of core.number opening rs
  pub ready : core.ready.items ≡ ready_moves (book_of core.number opening rs)
  pub good : is_book_log core.number opening rs ≡ true
  pub bounded : (key : ℕ) → get_or opening key 0 < 2 ^ 64

pub of_log : (core : BookCore) (opening : List ℕ) (rs : List Record2) → Kept core opening rs → IsOfLog core
of_log core opening rs k = of_log_as core (book_of core.number opening rs) opening k.state k.ready (log_facts core.number opening (first_book opening) rs (first_facts core.number opening k.bounded) k.good)

-- the same book, whatever room it has
pub same_kept : (old mid : BookCore) (opening : List ℕ) (rs : List Record2) → IsSameBook old mid → Kept old opening rs → Kept mid opening rs
same_kept old mid opening rs same k = record {
  state = same.state ∙ k.state ∙ ap (λ b. book_of b opening rs) (sym same.number);
  ready = same.ready ∙ k.ready ∙ ap (λ b. ready_moves (book_of b opening rs)) (sym same.number);
  good = ap (λ b. is_book_log b opening rs) same.number ∙ k.good;
  bounded = k.bounded;
}

-- a record that fits the log fits what is kept
pub next_kept : (old mid : BookCore) (opening : List ℕ) (rs : List Record2) (r : Record2) → IsSameBook old mid → Kept old opening rs → book_fits old.number (book_of old.number opening rs) r ≡ true → book_fits mid.number (state_of mid) r ≡ true
next_kept old mid opening rs r same k next = ap (λ b. book_fits b (state_of mid) r) same.number ∙ ap (λ x. book_fits old.number x r) (same.state ∙ k.state) ∙ next

-- one record more is taken in
pub entered : (mid new : BookCore) (opening : List ℕ) (rs now : List Record2) (r : Record2) → Kept mid opening rs → new.number ≡ mid.number → state_of new ≡ booked mid.number (state_of mid) r → IsOfLog new
    → book_fits mid.number (state_of mid) r ≡ true → now ≡ rs ++ r ∷ [] → Kept new opening now
entered mid new opening rs now r k number state log fits is =
    let book : book_of new.number opening now ≡ booked mid.number (book_of mid.number opening rs) r = ap (λ b. book_of b opening now) number ∙ ap (book_of mid.number opening) is ∙ book-grew mid.number opening rs (r ∷ []) in
    let same : state_of new ≡ book_of new.number opening now = state ∙ ap (λ x. booked mid.number x r) k.state ∙ sym book in
    let fit : book_fits mid.number (book_of mid.number opening rs) r ≡ true = ap (λ x. book_fits mid.number x r) (sym k.state) ∙ fits in
    record {
      state = same;
      ready = log.ready ∙ ap ready_moves same;
      good = ap (λ b. is_book_log b opening now) number ∙ ap (is_book_log mid.number opening) is ∙ books-more mid.number (first_book opening) rs (r ∷ []) k.good (ap (λ z. z && true) fit);
      bounded = k.bounded;
    }

-- a plan is the step of the log
pub planned : (core : BookCore) (opening : List ℕ) (rs : List Record2) (p : Packet2) (plan : BookPlan) → Kept core opening rs → step_of plan ≡ book_step core.number (state_of core) p → step_of plan ≡ book_step core.number (book_of core.number opening rs) p
planned core opening rs p plan k is = is ∙ ap (λ x. book_step core.number x p) k.state
