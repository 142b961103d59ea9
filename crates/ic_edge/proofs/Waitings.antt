-- What the calls find among the outputs is what the shelf's definition says.
use Rattle.std.proofs.Common.{◌≡◌, ◌∙◌, ◌<◌, ℕ, leb, true, false, List, length, Option, Some, None, Err, ap, sym, refl}
use Rattle.std.specs.Borrow.{Bor}
use Rattle.std.specs.List.{AllPairs, HoldsAt, remove, find}
use Rattle.std.specs.List.Sorted.{IsBinarySearchResult}
use Rattle.std.specs.Ordering.{nat_cmp}
use Rattle.std.specs.declared.cmp.Ordering.TheVariants.{Equal}
use Rattle.std.specs.Option.{option_map}
use Rattle.def_state.specs.Shelf.{Shelf, Waiting, next_due, is_waiting, shown}
use Rattle.ic_edge.proofs.Numbered.{found_alone, found_none}

abbrev pub number_of : Waiting → ℕ
number_of w = w.output.m

abbrev pub shelf_of : List Waiting → ℕ → Shelf
shelf_of ws made = record { waiting = ws; made = made }

output_borrowed : (r : Option (Bor Waiting)) → option_map (λ (w : Waiting). w.output) (option_map (λ (b : Bor Waiting). b.now) r) ≡ option_map (λ (b : Bor Waiting). b.now.output) r
output_borrowed None = refl
output_borrowed (Some b) = refl

-- the first that is due, as a search finds it
pub due_found : (ws : List Waiting) (made forced : ℕ) (r o : Option (Bor Waiting)) → option_map (λ (b : Bor Waiting). b.now) r ≡ find (λ (w : Waiting). leb w.at forced) ws → r ≡ o
    → option_map (λ (b : Bor Waiting). b.now.output) o ≡ next_due (shelf_of ws made) forced
due_found ws made forced r o found is =
    ap (option_map (λ (b : Bor Waiting). b.now.output)) (sym is) ∙ sym (output_borrowed r) ∙ ap (option_map (λ (w : Waiting). w.output)) found

module _ (ws : List Waiting) (rising : AllPairs (λ x y. number_of x < number_of y) ws) (made m : ℕ) where
  -- an output that is found by its number is taken off
  pub shown_found : (i : ℕ) → i < length ws → HoldsAt (λ w. nat_cmp (number_of w) m ≡ Equal) ws i → (true ≡ is_waiting (shelf_of ws made) m) × (shelf_of (remove ws i) made ≡ shown (shelf_of ws made) m)
  shown_found i within found =
      let alone = found_alone number_of ws rising m i within found in
      (sym alone.0, ap (λ xs. shelf_of xs made) (sym alone.1))

  -- one that isn't found isn't there
  pub shown_missed : (i : ℕ) → IsBinarySearchResult (λ w. nat_cmp (number_of w) m) ws (Err i) → (false ≡ is_waiting (shelf_of ws made) m) × (shelf_of ws made ≡ shown (shelf_of ws made) m)
  shown_missed i parted =
      let none = found_none number_of ws rising m i parted in
      (sym none.0, ap (λ xs. shelf_of xs made) (sym none.1))
