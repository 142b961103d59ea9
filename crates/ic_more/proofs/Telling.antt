-- Lines behind lines.
use Rattle.std.proofs.Common.{◌≡◌, ◌∙◌, sym, ap, subst, ℕ, zero, suc, ◌+◌, ◌<◌, List, [], ◌∷◌, ◌++◌, length, map, drop, get_or, append_assoc, arith, add-one, drop-cons, Some, None, option_map}
use Rattle.std.specs.Prelude.{slice_get, decimal, codes, cond}
use Rattle.std.specs.List.{flat_map, range_with_len}
use Rattle.std.proofs.lemmas.List.{flat_map_more}
use Rattle.std.proofs.lemmas.Option.{slice_get-get_or, slice_get-map}
use Rattle.def_report.specs.Words.{line}
use Rattle.def_two.specs.Ends.{IsBook}
use Rattle.def_two.specs.Moves.{Openings, nth_book}
use Rattle.def_two.specs.Printed.{move_line, book_lines}
use Rattle.def_two.specs.Script.{NamedBook, TheScript, openings_of}
use Rattle.def_two.specs.World.{World2, book_at, value}
use Rattle.ic_report.specs.Said.{said}
use Rattle.ic_two_world.proofs.Lists.{some-is, none-some, get-within}
use Rattle.ic_more.specs.Views.{IsUpWith}

range-more : (a n : ℕ) → range_with_len a (suc n) ≡ range_with_len a n ++ (a + n) ∷ []
range-more a zero = ap (λ m. m ∷ []) (omega arith)
range-more a (suc n) = ap (λ l. a ∷ l) (range-more (a + 1) n ∙ ap (λ m. range_with_len (a + 1) n ++ m ∷ []) (omega arith))

-- the line of the next move
pub one-more_move : (s : TheScript) (w : World2) (text out next : List ℕ) (i : ℕ) → out ≡ text ++ flat_map (move_line s w) (range_with_len 1 i) → next ≡ out ++ move_line s w (i + 1) → next ≡ text ++ flat_map (move_line s w) (range_with_len 1 (i + 1))
one-more_move s w text out next i before is =
    is ∙ ap (λ l. l ++ move_line s w (i + 1)) before ∙ flat_map_more (move_line s w) text (range_with_len 1 i) (i + 1)
    ∙ ap (λ l. text ++ flat_map (move_line s w) l) (ap (λ m. range_with_len 1 i ++ m ∷ []) turned ∙ sym (range-more 1 i) ∙ ap (range_with_len 1) after)
  where
    turned : i + 1 ≡ 1 + i
    turned = omega arith

    after : suc i ≡ i + 1
    after = omega arith

-- the value of a key that a book has, which is up
pub value-there : (openings : Openings) (w : World2) (b keys key : ℕ) → IsUpWith openings w b keys → key < keys → value openings w b key ≡ Some (get_or (book_at openings w b).values key 0)
value-there openings w zero keys key is below = absurd (omega (arith, is.values, below))
value-there openings w (suc b) keys key is below =
    let values = (book_at openings w (suc b)).values in
    subst (λ u. cond u (slice_get values key) None ≡ Some (get_or values key 0)) (sym is.up) (slice_get-get_or values key 0 (omega (arith, is.values, below)))

-- the value at a place behind a text, and then the later ones
pub one-more_value : (text next : List ℕ) (values : List ℕ) (i v : ℕ) → i < length values → v ≡ get_or values i 0 → next ≡ text ++ 32 ∷ decimal v → said next (map decimal (drop (i + 1) values)) ≡ said text (map decimal (drop i values))
one-more_value text next values i v h there is =
    let e : drop i values ≡ v ∷ drop (i + 1) values = rw (add-one, there) (drop-cons values i 0 h) in
    ap (λ t. said t (map decimal (drop (i + 1) values))) is ∙ sym (ap (λ l. said text (map decimal l)) e)

dropped : (xs : List NamedBook) (k : ℕ) (y : NamedBook) → slice_get xs k ≡ Some y → drop k xs ≡ y ∷ drop (suc k) xs
dropped [] k y e = none-some y e
dropped (z ∷ zs) zero y e = ap (λ v. v ∷ zs) (some-is z y e)
dropped (z ∷ zs) (suc k) y e = dropped zs k y e

-- the line of the next book
pub one-more_book : (s : TheScript) (w : World2) (text next : List ℕ) (i : ℕ) (x : NamedBook) → slice_get s.books i ≡ Some x → next ≡ text ++ line (codes "book" ∷ x.0 ∷ map decimal (book_at (openings_of s) w (i + 1)).values) →
    next ++ book_lines s w (i + 1 + 1) (drop (i + 1) s.books) ≡ text ++ book_lines s w (i + 1) (drop i s.books)
one-more_book s w text next i x at is =
    ap (λ t. t ++ book_lines s w (i + 1 + 1) (drop (i + 1) s.books)) is ∙ append_assoc text _ _ ∙ ap (λ l. text ++ book_lines s w (i + 1) l) (sym (dropped s.books i x at ∙ ap (λ k. x ∷ drop k s.books) after))
  where
    after : suc i ≡ i + 1
    after = omega arith

-- the book in a place, where these are the opening values of the books
pub book-there : (openings : Openings) (books : List NamedBook) (i : ℕ) (x : NamedBook) → openings ≡ map (λ (b : NamedBook). b.1) books → slice_get books i ≡ Some x → IsBook openings (i + 1) × (nth_book openings (i + 1) ≡ x.1)
book-there openings books i x are at =
    let there : slice_get openings i ≡ Some x.1 = ap (λ l. slice_get l i) are ∙ slice_get-map (λ (b : NamedBook). b.1) books i ∙ ap (option_map (λ (b : NamedBook). b.1)) at in
    let within = get-within openings i x.1 there in
    ((omega arith, omega (arith, within)), rw add-one (some-is (get_or openings i []) x.1 (sym (slice_get-get_or openings i [] within) ∙ there)))
