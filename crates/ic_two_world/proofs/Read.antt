-- What the readers of a world answer.
use Rattle.std.proofs.Common.{◌≡◌, ◌∙◌, refl, sym, ap, ℕ, zero, suc, cond, List, length, Option, Some, None, option_map, arith}
use Rattle.std.specs.Prelude.{slice_get, unwrap_or}
use Rattle.std.proofs.lemmas.Option.{slice_get-map}
use Rattle.def_two.specs.declared.moves.Ruling.{Ruling}
use Rattle.def_two.specs.Book.{book_of}
use Rattle.def_two.specs.Chief.{docket_of, ruling_of}
use Rattle.def_two.specs.Moves.{nth_book}
use Rattle.def_two.specs.World.{World2, Site, site_at, log_in, is_up as site_up, begun, ruling, value}
use Rattle.ic_disk.specs.declared.disk.Disk.{Ghosts}
use Rattle.ic_seat.specs.Seats.{site_of}
use Rattle.ic_seat.specs.declared.seat.Seat.{Seat}
use Rattle.ic_seat.specs.declared.seat.Seat.TheVariants as seats
use Rattle.ic_two.specs.Books as books
use Rattle.ic_two_world.specs.Views.{seats_of, openings_of, network_of, world_of, begun_if_up_in, ruling_if_up_in, value_if_up_in, IsGoing}
use Rattle.ic_two_world.specs.declared.world.TwoWorld.{TwoWorld}
use Rattle.ic_two_world.proofs.Calling.{site-there}
use Rattle.ic_two_world.proofs.Lists.{get-there}

module _ {D : Type 0} (d : Ghosts D) (t : TwoWorld D d) (going : IsGoing d t) where
  abbrev xs : List (Seat D d)
  xs = seats_of t

  abbrev w : World2
  w = world_of t

  first : (x : Seat D d) × (slice_get xs 0 ≡ Some x)
  first = get-there xs 0 (omega (arith, going.count))

  there : (c : ℕ) (x : Seat D d) → slice_get xs c ≡ Some x → site_at w c ≡ Some (site_of x)
  there c x e = site-there xs (network_of t) c x e

  pub begun-is : unwrap_or (begun_if_up_in (slice_get xs 0)) 0 ≡ begun w
  begun-is = by first.0 first.1
    where
      seen : Option Site → ℕ
      seen s = cond (site_up s) (length (docket_of (log_in s)).begun) 0

      by : (x : Seat D d) → slice_get xs 0 ≡ Some x → unwrap_or (begun_if_up_in (slice_get xs 0)) 0 ≡ seen (site_at w 0)
      by (seats.Chief x) e = ap (λ o. unwrap_or (begun_if_up_in o) 0) e ∙ sym (ap seen (there 0 (seats.Chief x) e))
      by (seats.Book x) e = absurd (omega (arith, (going.seated 0 (seats.Book x) e).seat.0))
      by (seats.Down disk kept) e = ap (λ o. unwrap_or (begun_if_up_in o) 0) e ∙ sym (ap seen (there 0 (seats.Down disk kept) e))

  pub ruling-is : (n : ℕ) → ruling_if_up_in n (slice_get xs 0) ≡ ruling w n
  ruling-is n = by first.0 first.1
    where
      seen : Option Site → Option Ruling
      seen s = cond (site_up s) (ruling_of (docket_of (log_in s)) n) None

      by : (x : Seat D d) → slice_get xs 0 ≡ Some x → ruling_if_up_in n (slice_get xs 0) ≡ seen (site_at w 0)
      by (seats.Chief x) e = ap (ruling_if_up_in n) e ∙ sym (ap seen (there 0 (seats.Chief x) e))
      by (seats.Book x) e = absurd (omega (arith, (going.seated 0 (seats.Book x) e).seat.0))
      by (seats.Down disk kept) e = ap (ruling_if_up_in n) e ∙ sym (ap seen (there 0 (seats.Down disk kept) e))

  pub value-is : (c key : ℕ) → value_if_up_in key (slice_get xs c) ≡ value (openings_of t) w c key
  value-is zero key = by first.0 first.1
    where
      by : (x : Seat D d) → slice_get xs 0 ≡ Some x → value_if_up_in key (slice_get xs 0) ≡ None
      by (seats.Chief x) e = ap (value_if_up_in key) e
      by (seats.Book x) e = absurd (omega (arith, (going.seated 0 (seats.Book x) e).seat.0))
      by (seats.Down disk kept) e = ap (value_if_up_in key) e
  value-is (suc b) key = by (slice_get xs (suc b)) refl
    where
      seen : Option Site → Option ℕ
      seen s = cond (site_up s) (slice_get (book_of (suc b) (nth_book (openings_of t) (suc b)) (log_in s)).values key) None

      by : (o : Option (Seat D d)) → slice_get xs (suc b) ≡ o → value_if_up_in key o ≡ seen (site_at w (suc b))
      by None e = sym (ap seen (slice_get-map site_of xs (suc b) ∙ ap (option_map site_of) e))
      by (Some (seats.Chief x)) e = let z = (going.seated (suc b) (seats.Chief x) e).seat in absurd (omega (arith, z))
      by (Some (seats.Book x)) e =
          let z = (going.seated (suc b) (seats.Book x) e).seat in
          ap (λ i. slice_get (book_of i (books.opening_of x) (books.records_of x)).values key) z.1
          ∙ ap (λ o. slice_get (book_of (suc b) o (books.records_of x)).values key) z.2
          ∙ sym (ap seen (there (suc b) (seats.Book x) e))
      by (Some (seats.Down disk kept)) e = sym (ap seen (there (suc b) (seats.Down disk kept) e))
