-- A book's ready moves behind one record more.
use Rattle.std.proofs.Common.{subst, ◌≡◌, ◌∙◌, ap, sym, refl, ℕ, ◌==◌, Bool, true, false, not, cond, List, [], ◌∷◌, ◌++◌, filter, is_some, Option, Some, None}
use Rattle.std.specs.Prelude.{IfSome}
use Rattle.std.proofs.lemmas.List.Elements.{filter-append}
use Rattle.def_two.specs.declared.moves.Move.{Move}
use Rattle.def_two.specs.declared.moves.Record2.TheVariants as records
use Rattle.def_two.specs.declared.states.BookState.{BookState}
use Rattle.def_two.specs.Moves.{numbered}
use Rattle.def_two.specs.Book.{is_ended, end_of, ready_moves, book_fits}
use Rattle.def_two.specs.Facts.{BookFacts}
use Rattle.ic_moves.specs.Cores.{MayChange, IsOfLog, state_of}
use Rattle.ic_moves.specs.declared.book.BookCore.{BookCore}
use Rattle.law_two.proofs.Books.{ended-with, open-else, end-new, enough, in_bounds}
use Rattle.law_two.proofs.Sums.{numbered-has}
use Rattle.law_two.proofs.Lists.{equal}

-- a last item is kept, or isn't
filter_last : {A : Type 0} (test : A → Bool) (xs : List A) (x : A) → filter test (xs ++ x ∷ []) ≡ filter test xs ++ cond (test x) (x ∷ []) []
filter_last test xs x = filter-append test xs (x ∷ [])

-- a move is made ready, which hasn't ended
pub one_ready : (x : BookState) (m : Move) → is_ended x m.n ≡ false → ready_moves (record x { readied = x.readied ++ m ∷ [] }) ≡ ready_moves x ++ m ∷ []
one_ready x m e = filter_last (λ k. not (is_ended x k.n)) x.readied m ∙ ap (λ b. ready_moves x ++ cond (not b) (m ∷ []) []) e

-- or which has
pub none_ready : (x : BookState) (m : Move) → is_ended x m.n ≡ true → ready_moves (record x { readied = x.readied ++ m ∷ [] }) ≡ ready_moves x ++ []
none_ready x m e = filter_last (λ k. not (is_ended x k.n)) x.readied m ∙ ap (λ b. ready_moves x ++ cond (not b) (m ∷ []) []) e

-- choices of choices
filter_both : {A : Type 0} (f g h : A → Bool) (xs : List A) → ((x : A) → h x ≡ cond (f x) (g x) false) → filter h xs ≡ filter g (filter f xs)
filter_both f g h [] is = refl
filter_both f g h (x ∷ xs) is = ap (λ b. cond b (x ∷ filter h xs) (filter h xs)) (is x) ∙ at (filter_both f g h xs is) (f x)
  where
    step : filter h xs ≡ filter g (filter f xs) → (b : Bool) → cond b (x ∷ filter h xs) (filter h xs) ≡ cond b (x ∷ filter g (filter f xs)) (filter g (filter f xs))
    step more true = ap (λ l. x ∷ l) more
    step more false = more

    at : filter h xs ≡ filter g (filter f xs) → (a : Bool) → cond (cond a (g x) false) (x ∷ filter h xs) (filter h xs) ≡ filter g (cond a (x ∷ filter f xs) (filter f xs))
    at more true = step more (g x)
    at more false = more

-- a move ends: the ready moves are those of another number
pub ends_ready : (x : BookState) (n : ℕ) (agreed : Bool) → end_of x n ≡ None → ready_moves (ended-with x n agreed) ≡ filter (λ m. not (n == m.n)) (ready_moves x)
ends_ready x n agreed unended = filter_both (λ m. not (is_ended x m.n)) (λ m. not (n == m.n)) (λ m. not (is_ended (ended-with x n agreed) m.n)) x.readied (λ m. each m.n (n == m.n) refl)
  where
    none : (b : Bool) → false ≡ cond b false false
    none true = refl
    none false = refl

    same : (b : Bool) → b ≡ cond b true false
    same true = refl
    same false = refl

    each : (k : ℕ) (c : Bool) → (n == k) ≡ c → not (is_ended (ended-with x n agreed) k) ≡ cond (not (is_ended x k)) (not (n == k)) false
    each k true e =
        ap (λ i. not (is_ended (ended-with x n agreed) i)) (sym (equal n k e)) ∙ ap (λ o. not (is_some o)) (end-new x n agreed unended)
        ∙ none (not (is_ended x k)) ∙ ap (λ b. cond (not (is_ended x k)) (not b) false) (sym e)
    each k false e = sym (open-else x n agreed k e) ∙ same (not (is_ended x k)) ∙ ap (λ b. cond (not (is_ended x k)) (not b) false) (sym e)

-- a move that hasn't ended may change its book's values
pub may_change : (b : ℕ) (opening : List ℕ) (x : BookState) (n : ℕ) (agreed : Bool) → BookFacts b opening x → book_fits b x (records.Ended n agreed) ≡ true → (o : Option Move) → numbered n x.readied ≡ o → IfSome o (MayChange b x.values)
may_change b opening x n agreed facts fits None is = tt
may_change b opening x n agreed facts fits (Some m) is = record {
  part = facts.part m (numbered-has n x.readied m is).0;
  enough = enough b opening x n agreed facts fits m is;
  bounded = in_bounds b opening x n agreed facts fits m is;
}

-- what stands for a book's log, with the facts of that
pub of_log_as : (new : BookCore) (x : BookState) (opening : List ℕ) → state_of new ≡ x → new.ready.items ≡ ready_moves x → BookFacts new.number opening x → IsOfLog new
of_log_as new x opening state ready facts = record {
  ready = ready ∙ ap ready_moves (sym state);
  opening = opening;
  facts = subst (BookFacts new.number opening) (sym state) facts;
}
