-- What single records, and lists of them, are.
use Rattle.std.proofs.Common.{◌≡◌, refl, ◌∙◌, ap, sym, ℕ, ◌≤◌, Bool, true, false, cond, not, ◌==◌, List, [], ◌∷◌, ◌++◌, find, Option, Some, None, option_map, option_and_then, is_none, arith}
use Rattle.std.specs.Option.{option_or}
use Rattle.std.proofs.lemmas.List.Folds.{find-append}
use Rattle.std.proofs.lemmas.Option.{same_Some}
use Rattle.std.proofs.lemmas.List.Sums.{sum_by-append}
use Rattle.ic_base.specs.declared.messages.ComId.{ComId}
use Rattle.ic_base.specs.declared.messages.AbortCause.{AbortCause}
use Rattle.ic_base.specs.declared.scenario.Program.{Program}
use Rattle.ic_base.specs.declared.record.Record.{Record}
use Rattle.ic_base.specs.declared.record.Record.TheVariants.{Take, TakeWhole, Input, Value, Outcome, Released, Shown, Checkpoint, Epoch, Decided}
use Rattle.def_state.specs.Positions.{record_length, end_of}
use Rattle.def_step.specs.Pcom.{is_empty}
use Rattle.def_step.specs.Tcom.{Book, Verdict, book, booked, book_fits}
use Rattle.def_facts.specs.Logs.{Got, got_in, ends_txn}
use Rattle.law_replay.proofs.Lists.{none-some, true-false, equal-numbers}

pub got-is : (n : ℕ) (r : Record) (g : Got) → got_in n r ≡ Some g → r ≡ Value n g.place g.session g.value
got-is n (Value m place session value) g e = at (n == m) refl e
  where
    at : (b : Bool) → (n == m) ≡ b → cond b (Some (record { place = place; session = session; value = value })) None ≡ Some g → Value m place session value ≡ Value n g.place g.session g.value
    at true is k = ap (λ i. Value i place session value) (sym (equal-numbers n m is)) ∙ ap (λ (x : Got). Value n x.place x.session x.value) (same_Some (record { place = place; session = session; value = value }) g k)
    at false is k = none-some g k
got-is n (Take from k stamp) g e = none-some g e
got-is n (TakeWhole from k stamp handler args) g e = none-some g e
got-is n (Input stamp handler args) g e = none-some g e
got-is n (Outcome stamp m abort) g e = none-some g e
got-is n (Released to k) g e = none-some g e
got-is n (Shown m) g e = none-some g e
got-is n (Checkpoint image) g e = none-some g e
got-is n (Epoch epoch) g e = none-some g e
got-is n (Decided stamp d m writes) g e = none-some g e

pub ends-is : (n : ℕ) (r : Record) → ends_txn n r ≡ true → (stamp : ℕ) × (abort : Option AbortCause) × (r ≡ Outcome stamp n abort)
ends-is n (Outcome stamp m abort) e = (stamp, abort, ap (λ k. Outcome stamp k abort) (sym (equal-numbers n m e)))
ends-is n (Take from k stamp) e = true-false e
ends-is n (TakeWhole from k stamp handler args) e = true-false e
ends-is n (Input stamp handler args) e = true-false e
ends-is n (Value m place session value) e = true-false e
ends-is n (Released to k) e = true-false e
ends-is n (Shown m) e = true-false e
ends-is n (Checkpoint image) e = true-false e
ends-is n (Epoch epoch) e = true-false e
ends-is n (Decided stamp d m writes) e = true-false e

pub end-prefix : (forced more : List Record) → end_of forced ≤ end_of (forced ++ more)
end-prefix forced more = omega (arith, sum_by-append record_length forced more)

pub no-rest : (rs : List Record) → not (is_empty rs) ≡ false → rs ≡ []
no-rest [] e = refl
no-rest (r ∷ rs) e = true-false (sym e)

pub book-none : (program : Program) (t : ComId) (rs : List Record) → book program t None rs ≡ None
book-none program t [] = refl
book-none program t (r ∷ rs) = book-none program t rs

pub book-twice : (program : Program) (t : ComId) (o : Option Book) (xs ys : List Record) → book program t o (xs ++ ys) ≡ book program t (book program t o xs) ys
book-twice program t o [] ys = refl
book-twice program t o (x ∷ xs) ys = book-twice program t (option_and_then (λ b. cond (book_fits program t b x) (Some (booked b x)) None) o) xs ys

pub found-last : (xs : List Verdict) (v : Verdict) (test : Verdict → Bool) → test v ≡ true → is_none (option_map (λ (w : Verdict). w.stamp) (find test (xs ++ v ∷ []))) ≡ false
found-last xs v test e = ap (λ o. is_none (option_map (λ (w : Verdict). w.stamp) o)) (find-append test xs (v ∷ [])) ∙ at (find test xs)
  where
    at : (o : Option Verdict) → is_none (option_map (λ (w : Verdict). w.stamp) (option_or o (find test (v ∷ [])))) ≡ false
    at None = ap (λ b. is_none (option_map (λ (w : Verdict). w.stamp) (cond b (Some v) None))) e
    at (Some w) = refl

pub found-stays : (xs ys : List Verdict) (test : Verdict → Bool) → is_none (option_map (λ (v : Verdict). v.stamp) (find test xs)) ≡ false → is_none (option_map (λ (v : Verdict). v.stamp) (find test (xs ++ ys))) ≡ false
found-stays xs ys test e = ap (λ o. is_none (option_map (λ (v : Verdict). v.stamp) o)) (find-append test xs ys) ∙ at (find test xs) e
  where
    at : (o : Option Verdict) → is_none (option_map (λ (v : Verdict). v.stamp) o) ≡ false → is_none (option_map (λ (v : Verdict). v.stamp) (option_or o (find test ys))) ≡ false
    at None f = absurd (cc)
    at (Some v) f = refl
