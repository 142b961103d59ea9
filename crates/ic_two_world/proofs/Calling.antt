-- What the rules make of a call at a component, and of a component in its place.
use Rattle.std.proofs.Common.{◌≡◌, ◌∙◌, refl, sym, ap, ℕ, zero, suc, ◌<◌, true, List, [], ◌∷◌, Some, option_map, arith}
use Rattle.std.specs.Prelude.{slice_get, slice_set}
use Rattle.std.proofs.lemmas.Option.{slice_get-map}
use Rattle.def_two.specs.declared.moves.Packet2.{Packet2}
use Rattle.def_two.specs.declared.states.BookState.{BookState}
use Rattle.def_two.specs.declared.states.Heard.{Heard}
use Rattle.def_two.specs.Book.{book_of}
use Rattle.def_two.specs.Chief.{Call, Begins, Hears, Resends, Step, docket_of, chief_step, nothing_heard}
use Rattle.def_two.specs.Moves.{Openings, nth_book}
use Rattle.def_two.specs.World.{World2, Site, site_at, does, book_does}
use Rattle.ic_disk.specs.declared.disk.Disk.{Ghosts}
use Rattle.ic_moves.specs.Networks.{Network}
use Rattle.ic_two.specs.Books as books
use Rattle.ic_two.specs.ChiefLogs as chiefs
use Rattle.ic_seat.specs.Seats.{site_of, heard_in, is_up, step_in, IsSeatOf}
use Rattle.ic_seat.specs.declared.seat.Seat.{Seat}
use Rattle.ic_seat.specs.declared.seat.Seat.TheVariants.{Chief, Book, Down}
use Rattle.ic_two_world.specs.Views.{heard_at, world_with}
use Rattle.ic_two_world.proofs.Lists.{none-some, some-is}

pub same-world : (s t : List Site) (h k : Heard) (p q : List Packet2) (v w : List ℕ) → s ≡ t → h ≡ k → p ≡ q → v ≡ w →
    ◌≡◌ {A = World2} (record { sites = s; heard = h; packets = p; waiting = v }) (record { sites = t; heard = k; packets = q; waiting = w })
same-world s t h k p q v w es eh ep ew =
    let S : List Site → World2 = λ x. record { sites = x; heard = h; packets = p; waiting = v } in
    let H : Heard → World2 = λ x. record { sites = t; heard = x; packets = p; waiting = v } in
    let P : List Packet2 → World2 = λ x. record { sites = t; heard = k; packets = x; waiting = v } in
    let W : List ℕ → World2 = λ x. record { sites = t; heard = k; packets = q; waiting = x } in
    ap S es ∙ ap H eh ∙ ap P ep ∙ ap W ew

module _ {D : Type 0} {d : Ghosts D} where
  -- the first component is set, or another one
  pub heard-first : (xs : List (Seat D d)) (x y : Seat D d) → slice_get xs 0 ≡ Some x → heard_at (slice_set xs 0 y) ≡ heard_in y
  heard-first [] x y e = none-some x e
  heard-first (z ∷ xs) x y e = refl

  pub heard-later : (xs : List (Seat D d)) (k : ℕ) (y : Seat D d) → heard_at (slice_set xs (suc k) y) ≡ heard_at xs
  heard-later [] k y = refl
  heard-later (z ∷ xs) k y = refl

  pub heard-of : (xs : List (Seat D d)) (x : Seat D d) → slice_get xs 0 ≡ Some x → heard_at xs ≡ heard_in x
  heard-of [] x e = none-some x e
  heard-of (z ∷ xs) x e = ap heard_in (some-is z x e)

  -- the site of a component in its place
  pub site-there : (xs : List (Seat D d)) (n : Network) (c : ℕ) (x : Seat D d) → slice_get xs c ≡ Some x → site_at (world_with xs n) c ≡ Some (site_of x)
  site-there xs n c x e = slice_get-map site_of xs c ∙ ap (option_map site_of) e

  module _ (openings : Openings) (xs : List (Seat D d)) (c : ℕ) (x : Seat D d) (call : Call) (at : slice_get xs c ≡ Some x) (seat : IsSeatOf openings c x) where
    -- what the definition makes of the call at what is up in this place
    pub does-it : (h : Heard) → is_up x ≡ true → (c ≡ 0 → h ≡ heard_in x) →
        ((does openings h c (site_of x).log call).adds ≡ (step_in x call).adds) × ((does openings h c (site_of x).log call).puts ≡ (step_in x call).puts) × ((c ≡ 0 → (does openings h c (site_of x).log call).heard ≡ (step_in x call).heard) × ((0 < c) → (does openings h c (site_of x).log call).heard ≡ h))
    does-it h up own = by x at seat up own
      where
        Is : Seat D d → Step → Type 0
        Is z s = (s.adds ≡ (step_in z call).adds) × (s.puts ≡ (step_in z call).puts) × ((c ≡ 0 → s.heard ≡ (step_in z call).heard) × ((0 < c) → s.heard ≡ h))

        unlike : {A : Type 0} → c ≡ 0 → 0 < c → A
        unlike e l = absurd (omega (arith, e, l))

        book-step : (b : ℕ) (y : BookState) (q : Call) → ((book_does h b y q).adds ≡ (book_does nothing_heard b y q).adds) × ((book_does h b y q).puts ≡ (book_does nothing_heard b y q).puts) × ((book_does h b y q).heard ≡ h)
        book-step b y (Begins m) = (refl, refl, refl)
        book-step b y (Hears p) = (refl, refl, refl)
        book-step b y Resends = (refl, refl, refl)

        by : (z : Seat D d) → slice_get xs c ≡ Some z → IsSeatOf openings c z → is_up z ≡ true → (c ≡ 0 → h ≡ heard_in z) → Is z (does openings h c (site_of z).log call)
        by (Chief y) there is u mine =
            let same : does openings h c (chiefs.records_of y) call ≡ chiefs.step_of y call =
            ap (λ k. does openings h k (chiefs.records_of y) call) is ∙ ap (λ (g : Heard). chief_step (docket_of (chiefs.records_of y)) g call) (mine is) in
            (ap (λ (s : Step). s.adds) same, ap (λ (s : Step). s.puts) same, (λ e. ap (λ (s : Step). s.heard) same, λ l. unlike is l))
        by (Book y) there is u mine = at-book c refl
          where
            at-book : (k : ℕ) → c ≡ k → Is (Book y) (does openings h c (books.records_of y) call)
            at-book zero e = absurd (omega (arith, e, is.0))
            at-book (suc k) e =
                let here : does openings h c (books.records_of y) call ≡ book_does h (suc k) (book_of (suc k) (nth_book openings (suc k)) (books.records_of y)) call = ap (λ i. does openings h i (books.records_of y) call) e in
                let own : book_does h (suc k) (book_of (suc k) (nth_book openings (suc k)) (books.records_of y)) call ≡ book_does h (books.number_of y) (books.holds y) call =
                ap (λ i. book_does h i (book_of i (nth_book openings i) (books.records_of y)) call) (sym e ∙ sym is.1)
                ∙ ap (λ o. book_does h (books.number_of y) (book_of (books.number_of y) o (books.records_of y)) call) (ap (nth_book openings) is.1 ∙ sym is.2) in
                let parts = book-step (books.number_of y) (books.holds y) call in
                let same = here ∙ own in
                (ap (λ (s : Step). s.adds) same ∙ parts.0, ap (λ (s : Step). s.puts) same ∙ parts.1, (λ z. unlike z is.0, λ l. ap (λ (s : Step). s.heard) same ∙ parts.2))
        by (Down disk kept) there is u mine = absurd (cc)
