-- What settles a world, and how much of it is left.
use Rattle.std.proofs.Common.{◌≡◌, ◌∙◌, refl, sym, ap, inl, inr, ◌↔◌, ℕ, zero, suc, ◌+◌, ◌-◌, ◌*◌, ◌<◌, ◌≤◌, Bool, true, false, cond, not, List, [], ◌∷◌, length, map, drop, Option, Some, None, option_map, arith}
use Rattle.std.specs.Prelude.{slice_get, count_by}
use Rattle.std.proofs.lemmas.List.{length-map}
use Rattle.std.proofs.lemmas.List.Sums.{count_by-le-length}
use Rattle.ic_base.specs.declared.limits.TheConstants.{COMPONENTS, PACKETS}
use Rattle.def_two.specs.declared.moves.Packet2.{Packet2}
use Rattle.def_two.specs.declared.script.Event2.{Event2}
use Rattle.def_two.specs.declared.script.What2.{What2}
use Rattle.def_two.specs.declared.script.What2.TheVariants as whats
use Rattle.def_two.specs.Chief.{is_all_done, docket_of}
use Rattle.def_two.specs.Moves.{Openings}
use Rattle.def_two.specs.Runs.{is_line}
use Rattle.def_two.specs.World.{World2, Site, DiskOutcome2, log_in, docket_at, is_down, lowest_from, lowest_down, oldest, delivery, or_else, next_event2, IsSettled2, left2, happens2}
use Rattle.law_two.specs.Settling.{IsLower}
use Rattle.law_two.proofs.Lowering.{nothing_is_left, settling_lowers}
use Rattle.ic_disk.specs.declared.disk.Disk.{Ghosts}
use Rattle.ic_seat.specs.Seats.{site_of, is_up}
use Rattle.ic_seat.specs.declared.seat.Seat.{Seat}
use Rattle.ic_seat.specs.declared.seat.Seat.TheVariants as seats
use Rattle.ic_two_world.specs.Views.{seats_of, openings_of, network_of, world_of, done_if_up_in, without_stop, IsGoing}
use Rattle.ic_two_world.specs.declared.world.TwoWorld.{TwoWorld}
use Rattle.ic_two_world.proofs.Calling.{site-there, heard-of}
use Rattle.ic_two_world.proofs.Lists.{none-some, get-there}

pub not-true : (u : Bool) → not u ≡ true → u ≡ false
not-true true e = absurd (cc)
not-true false e = refl

pub not-false : (u : Bool) → not u ≡ false → u ≡ true
not-false true e = refl
not-false false e = absurd (cc)

-- an option that has none
pub some-none : {A B : Type 0} (x : A) → Some x ≡ None → B
some-none x e = absurd (cc)

module _ {D : Type 0} {d : Ghosts D} where
  -- one more component is up
  further-by : (xs : List (Seat D d)) (i c : ℕ) (x : Seat D d) → slice_get xs i ≡ Some x → is_up x ≡ true → lowest_from c (map site_of (drop i xs)) ≡ lowest_from (c + 1) (map site_of (drop (suc i) xs))
  further-by [] i c x e up = none-some x e
  further-by (y ∷ ys) zero c x e up =
      let is : y ≡ x = cc in
      ap (λ (z : Seat D d). cond (is_up z) (lowest_from (c + 1) (map site_of ys)) (Some c)) is ∙ ap (λ u. cond u (lowest_from (c + 1) (map site_of ys)) (Some c)) up
  further-by (y ∷ ys) (suc i) c x e up = further-by ys i c x e up

  pub up-further : (xs : List (Seat D d)) (i c : ℕ) (x : Seat D d) → slice_get xs i ≡ Some x → is_up x ≡ true → lowest_from c (map site_of (drop i xs)) ≡ lowest_from (c + 1) (map site_of (drop (i + 1) xs))
  up-further xs i c x e up = let same : suc i ≡ i + 1 = omega arith in further-by xs i c x e up ∙ ap (λ k. lowest_from (c + 1) (map site_of (drop k xs))) same

  -- this one is down
  pub down-here : (xs : List (Seat D d)) (i c : ℕ) (x : Seat D d) → slice_get xs i ≡ Some x → is_up x ≡ false → lowest_from c (map site_of (drop i xs)) ≡ Some c
  down-here [] i c x e down = none-some x e
  down-here (y ∷ ys) zero c x e down =
      let is : y ≡ x = cc in
      ap (λ (z : Seat D d). cond (is_up z) (lowest_from (c + 1) (map site_of ys)) (Some c)) is ∙ ap (λ u. cond u (lowest_from (c + 1) (map site_of ys)) (Some c)) down
  down-here (y ∷ ys) (suc i) c x e down = down-here ys i c x e down

  -- behind the last one none is left
  pub none-down : (xs : List (Seat D d)) (i c : ℕ) → length xs ≤ i → lowest_from c (map site_of (drop i xs)) ≡ None
  none-down [] zero c l = refl
  none-down [] (suc i) c l = refl
  none-down (x ∷ xs) zero c l = absurd (omega (arith, l))
  none-down (x ∷ xs) (suc i) c l = none-down xs i c (omega (arith, l))

-- what settles is an event of a script
pub settles-line : (openings : Openings) (w : World2) (what : What2) → next_event2 w ≡ Some what → is_line openings what ≡ true
settles-line openings w what e = by (lowest_down w) (oldest w) (is_all_done (docket_at w) w.heard) e
  where
    by : (o : Option ℕ) (p : Option Packet2) (t : Bool) → or_else (option_map whats.Recover o) (or_else (option_map delivery p) (cond t None (Some (whats.Resend 0)))) ≡ Some what → is_line openings what ≡ true
    by (Some c) p t f = let is : whats.Recover c ≡ what = cc in ap (is_line openings) (sym is)
    by None (Some p) t f = let is : delivery p ≡ what = cc in ap (is_line openings) (sym is)
    by None None true f = none-some what f
    by None None false f = let is : whats.Resend 0 ≡ what = cc in ap (is_line openings) (sym is)

module _ {D : Type 0} (d : Ghosts D) (t : TwoWorld D d) (going : IsGoing d t) where
  abbrev xs : List (Seat D d)
  xs = seats_of t

  abbrev w : World2
  w = world_of t

  first : (x : Seat D d) × (slice_get xs 0 ≡ Some x)
  first = get-there xs 0 (omega (arith, going.count))

  -- where none is down the chief is up, and is asked
  pub done-is : lowest_down w ≡ None → done_if_up_in (slice_get xs 0) ≡ is_all_done (docket_at w) w.heard
  done-is none = by first.0 first.1
    where
      seen : Option Site → Bool
      seen s = is_all_done (docket_of (log_in s)) w.heard

      by : (x : Seat D d) → slice_get xs 0 ≡ Some x → done_if_up_in (slice_get xs 0) ≡ is_all_done (docket_at w) w.heard
      by (seats.Chief x) e =
          ap done_if_up_in e ∙ ap (is_all_done (docket_of (log_in (Some (site_of (seats.Chief x)))))) (sym (heard-of xs (seats.Chief x) e))
          ∙ sym (ap seen (site-there xs (network_of t) 0 (seats.Chief x) e))
      by (seats.Book x) e = absurd (omega (arith, (going.seated 0 (seats.Book x) e).seat.0))
      by (seats.Down disk kept) e = some-none 0 (sym (down-here xs 0 0 (seats.Down disk kept) e refl) ∙ none)

  -- what is next, by what is asked in turn
  pub next-down : (c : ℕ) → lowest_down w ≡ Some c → next_event2 w ≡ Some (whats.Recover c)
  next-down c e = ap (λ o. or_else (option_map whats.Recover o) (or_else (option_map delivery (oldest w)) (cond (is_all_done (docket_at w) w.heard) None (Some (whats.Resend 0))))) e

  pub next-waits : (p : Packet2) → lowest_down w ≡ None → oldest w ≡ Some p → next_event2 w ≡ Some (delivery p)
  next-waits p e f =
      ap (λ o. or_else (option_map whats.Recover o) (or_else (option_map delivery (oldest w)) (cond (is_all_done (docket_at w) w.heard) None (Some (whats.Resend 0))))) e
      ∙ ap (λ o. or_else (option_map delivery o) (cond (is_all_done (docket_at w) w.heard) None (Some (whats.Resend 0)))) f

  pub next-resend : (done : Bool) → lowest_down w ≡ None → oldest w ≡ None → done_if_up_in (slice_get xs 0) ≡ done → next_event2 w ≡ cond done None (Some (whats.Resend 0))
  next-resend done e f g =
      ap (λ o. or_else (option_map whats.Recover o) (or_else (option_map delivery (oldest w)) (cond (is_all_done (docket_at w) w.heard) None (Some (whats.Resend 0))))) e
      ∙ ap (λ o. or_else (option_map delivery o) (cond (is_all_done (docket_at w) w.heard) None (Some (whats.Resend 0)))) f
      ∙ ap (λ r. cond r None (Some (whats.Resend 0))) (sym (done-is e) ∙ g)

  -- nothing is next exactly where nothing is outstanding
  pub none-settled : (result : Option Event2) → result ≡ option_map without_stop (next_event2 w) → (result ≡ None) ↔ IsSettled2 w
  none-settled result is = (λ e. law.0 (unmapped (next_event2 w) (sym is ∙ e)), λ s. is ∙ ap (option_map without_stop) (law.1 s))
    where
      law : (next_event2 w ≡ None) ↔ IsSettled2 w
      law = nothing_is_left (openings_of t) w going.settles

      unmapped : (o : Option What2) → option_map without_stop o ≡ None → o ≡ None
      unmapped None e = refl
      unmapped (Some x) e = absurd (cc)

-- what is left as one number: the packets still allowed first, then what is down, then what waits
abbrev pub left_as_one : World2 → ℕ
left_as_one w = (PACKETS - length w.packets) * ((COMPONENTS + 1) * (PACKETS + 1)) + (count_by is_down w.sites * (PACKETS + 1) + length w.waiting)

pub lower-as-one : (w v : World2) → count_by is_down v.sites ≤ COMPONENTS → length v.waiting ≤ PACKETS → IsLower (left2 v) (left2 w) → left_as_one v < left_as_one w
lower-as-one w v down waits (inl packets) = omega (arith, down, waits, packets)
lower-as-one w v down waits (inr (same, inl fewer)) = omega (arith, down, waits, same, fewer)
lower-as-one w v down waits (inr (same, inr (level, inl fewer))) = omega (arith, same, level, fewer)
lower-as-one w v down waits (inr (same, inr (level, inr (last, none)))) = absurd none

module _ {D : Type 0} (d : Ghosts D) (old new : TwoWorld D d) (was : IsGoing d old) (is : IsGoing d new) where
  -- a settling event lowers it
  pub lowers : (what : What2) (o : DiskOutcome2) → next_event2 (world_of old) ≡ Some what → happens2 (openings_of old) (world_of old) (without_stop what) o ≡ Some (world_of new) → left_as_one (world_of new) < left_as_one (world_of old)
  lowers what o next happens =
      lower-as-one (world_of old) (world_of new)
      (omega (arith, count_by-le-length is_down (world_of new).sites, length-map (seats_of new) site_of, is.bounded))
      (omega (arith, is.waits, is.few))
      (settling_lowers (openings_of old) (world_of old) what o (world_of new) was.settles next happens is.few)
