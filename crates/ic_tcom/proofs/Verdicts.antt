-- The decisions of a book are those of its records.
use Rattle.std.proofs.Common.{◌≡◌, ◌∙◌, ◌++◌, ◌∷◌, [], Bool, true, false, cond, List, Some, None, ap, refl, sym}
use Rattle.std.proofs.lemmas.List.{append_assoc, append-nil}
use Rattle.std.proofs.lemmas.List.Elements.{filter_map-append}
use Rattle.std.proofs.lemmas.Option.{same_Some}
use Rattle.ic_base.specs.declared.messages.ComId.{ComId}
use Rattle.ic_base.specs.declared.record.Record.{Record}
use Rattle.ic_base.specs.declared.record.Record.TheVariants.{Take, TakeWhole, Input, Value, Outcome, Released, Shown, Checkpoint, Epoch, Decided}
use Rattle.ic_base.specs.declared.scenario.Program.{Program}
use Rattle.def_step.specs.Tcom.{Book, book, booked, book_fits, book_of, first_book}
use Rattle.ic_tcom.specs.Last.{verdict_in, verdicts_in}
use Rattle.ic_tcom.proofs.Books.{book_none}

decided_booked : (b : Book) (r : Record) → (booked b r).decided ≡ b.decided ++ verdicts_in (r ∷ [])
decided_booked b (Decided stamp c n writes) = refl
decided_booked b (Take from k stamp) = sym (append-nil b.decided)
decided_booked b (TakeWhole from k stamp handler args) = sym (append-nil b.decided)
decided_booked b (Input stamp handler args) = sym (append-nil b.decided)
decided_booked b (Value n place session value) = sym (append-nil b.decided)
decided_booked b (Outcome stamp n abort) = sym (append-nil b.decided)
decided_booked b (Released to k) = sym (append-nil b.decided)
decided_booked b (Shown m) = sym (append-nil b.decided)
decided_booked b (Checkpoint image) = sym (append-nil b.decided)
decided_booked b (Epoch epoch) = sym (append-nil b.decided)

decided_behind : (program : Program) (t : ComId) (rs : List Record) (b g : Book) → book program t (Some b) rs ≡ Some g → g.decided ≡ b.decided ++ verdicts_in rs
decided_behind program t [] b g gives = ap (λ (b : Book). b.decided) (sym (same_Some b g gives)) ∙ sym (append-nil b.decided)
decided_behind program t (r ∷ rs) b g gives =
    by (decided_behind program t rs (booked b r) g) (book_fits program t b r) gives
  where
    by : (book program t (Some (booked b r)) rs ≡ Some g → g.decided ≡ (booked b r).decided ++ verdicts_in rs) → (fits : Bool) → book program t (cond fits (Some (booked b r)) None) rs ≡ Some g → g.decided ≡ b.decided ++ verdicts_in (r ∷ rs)
    by rest true gives =
        rest gives ∙ ap (λ vs. vs ++ verdicts_in rs) (decided_booked b r) ∙ append_assoc b.decided (verdicts_in (r ∷ [])) (verdicts_in rs)
        ∙ ap (λ vs. b.decided ++ vs) (sym (filter_map-append verdict_in (r ∷ []) rs))
    by rest false gives = let e : None ≡ Some g = sym (book_none program t rs) ∙ gives in cc

-- a book has the decisions of its records
pub decided_of : (program : Program) (t : ComId) (records : List Record) (b : Book) → book_of program t records ≡ Some b → verdicts_in records ≡ b.decided
decided_of program t records b gives = sym (decided_behind program t records (first_book program t) b gives)
