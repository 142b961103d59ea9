-- Where nothing is left to do every book is up, with a value for each of its opening ones.
use Rattle.std.proofs.Common.{◌≡◌, ◌∙◌, sym, ap, refl, ℕ, zero, suc, ◌+◌, Bool, true, false, List, [], ◌∷◌, length, arith, Option, Some, None, option_map}
use Rattle.std.specs.Prelude.{slice_get, slice_set, cond, get_or, ◌==◌, ◌-◌}
use Rattle.def_two.specs.declared.moves.Move.{Move}
use Rattle.def_two.specs.declared.moves.Record2.{Record2}
use Rattle.def_two.specs.declared.moves.Record2.TheVariants as records
use Rattle.def_two.specs.declared.script.What2.{What2}
use Rattle.def_two.specs.declared.script.What2.TheVariants as whats
use Rattle.def_two.specs.declared.states.BookState.{BookState}
use Rattle.def_two.specs.Book.{first_book, book_after, booked, values_ended}
use Rattle.def_two.specs.Moves.{Openings, nth_book, moved_once, numbered}
use Rattle.def_two.specs.World.{World2, Site, log_at, is_up, lowest_from, lowest_down, or_else, next_event2}
use Rattle.ic_two_world.proofs.Lists.{none-some, some-is, get-there, length-set}
use Rattle.ic_more.specs.Views.{AreUp}

moved-length : (b : ℕ) (values : List ℕ) (m : Move) → length (moved_once b values m) ≡ length values
moved-length b values m = at (m.from == b)
  where
    at : (c : Bool) → length (cond c (slice_set values m.source (get_or values m.source 0 - m.amount)) (slice_set values m.target (get_or values m.target 0 + m.amount))) ≡ length values
    at true = length-set values m.source (get_or values m.source 0 - m.amount)
    at false = length-set values m.target (get_or values m.target 0 + m.amount)

ended-length : (b : ℕ) (agreed : Bool) (m : Option Move) (values : List ℕ) → length (values_ended b agreed m values) ≡ length values
ended-length b agreed None values = refl
ended-length b true (Some m) values = moved-length b values m
ended-length b false (Some m) values = refl

booked-length : (b : ℕ) (x : BookState) (r : Record2) → length (booked b x r).values ≡ length x.values
booked-length b x (records.Ended n agreed) = ended-length b agreed (numbered n x.readied) x.values
booked-length b x (records.Ready m) = refl
booked-length b x (records.Begun m) = refl
booked-length b x (records.Verdict n ruling) = refl

-- no record changes how many values a book has
after-length : (b : ℕ) (x : BookState) (rs : List Record2) → length (book_after b x rs).values ≡ length x.values
after-length b x [] = refl
after-length b x (r ∷ rs) = after-length b (booked b x r) rs ∙ booked-length b x r

nothing-first : (o : Option ℕ) (rest : Option What2) → or_else (option_map whats.Recover o) rest ≡ None → o ≡ None
nothing-first None rest e = refl
nothing-first (Some c) rest e = none-some (whats.Recover c) (sym e)

none-down : (i : ℕ) (ss : List Site) → lowest_from i ss ≡ None → (k : ℕ) (s : Site) → slice_get ss k ≡ Some s → s.up ≡ true
none-down i [] e k s at = none-some s at
none-down i (t ∷ ts) e k s at = by t.up refl k at (λ f j there. none-down (i + 1) ts f j s there)
  where
    by : (u : Bool) → t.up ≡ u → (j : ℕ) → slice_get (t ∷ ts) j ≡ Some s → (lowest_from (i + 1) ts ≡ None → (j : ℕ) → slice_get ts j ≡ Some s → s.up ≡ true) → s.up ≡ true
    by false is j there later = none-some i (sym e ∙ ap (λ v. cond v (lowest_from (i + 1) ts) (Some i)) is)
    by true is zero there later = ap (λ (x : Site). x.up) (sym (some-is t s there)) ∙ is
    by true is (suc j) there later = later (sym (ap (λ v. cond v (lowest_from (i + 1) ts) (Some i)) is) ∙ e) j there

pub are-up : (openings : Openings) (w : World2) → next_event2 w ≡ None → length w.sites ≡ suc (length openings) → AreUp openings w
are-up openings w none count zero is = absurd (omega (arith, is.0))
are-up openings w none count (suc b) is =
    let s = get-there w.sites (suc b) (omega (arith, count, is.1)) in
    record {
      up = ap is_up s.1 ∙ none-down 0 w.sites (nothing-first (lowest_down w) _ none) (suc b) s.0 s.1;
      values = after-length (suc b) (first_book (nth_book openings (suc b))) (log_at w (suc b));
    }
