-- Each kind of event, as the code does it.
use Rattle.std.proofs.Common.{◌≡◌, ◌∙◌, refl, sym, ap, subst, ℕ, ◌<◌, ◌≤◌, Bool, false, List, [], length, Option, Some, None, option_map, arith}
use Rattle.std.specs.Prelude.{option_and_then}
use Rattle.ic_base.specs.declared.events.Stop.{Stop}
use Rattle.def_two.specs.declared.moves.Move.{Move}
use Rattle.def_two.specs.declared.moves.Packet2.{Packet2}
use Rattle.def_two.specs.declared.script.Event2.{Event2}
use Rattle.def_two.specs.declared.script.What2.{What2}
use Rattle.def_two.specs.declared.script.What2.TheVariants as whats
use Rattle.def_two.specs.declared.script.TwoRefused.{TwoRefused}
use Rattle.def_two.specs.Chief.{Begins, Hears, Resends}
use Rattle.def_two.specs.CoreSteps.{SystemState2, is_call_full2, is_full2}
use Rattle.def_two.specs.Moves.{Openings}
use Rattle.def_two.specs.Runs.{Called, called, call_of, component_of, delivery_of, IsEvent2}
use Rattle.def_two.specs.World.{World2, DiskOutcome2, log_at, delivers, delivers_oldest, loses, oldest_of, packet_at, receiver_of, next_move, happens2}
use Rattle.ic_disk.specs.TornDisks.{Torn}
use Rattle.ic_disk.specs.declared.disk.Disk.{Ghosts}
use Rattle.ic_moves.specs.Networks.{Network, without}
use Rattle.ic_disk.specs.Torns.{torn}
use Rattle.ic_seat.specs.declared.seat.Seat.{Seat}
use Rattle.ic_two_world.specs.Acting.{Acts, FailsToAct}
use Rattle.ic_two_world.specs.Stepping.{Leads}
use Rattle.ic_two_world.specs.Views.{world_with, state_with, GoesOn}
use Rattle.ic_two_world.proofs.Lists.{none-some}
use Rattle.ic_two_world.proofs.Events.{Fails, fewer-wait, rests, acted, not-acted}

-- an event that asks for no call passes no limit
no-call-full : (openings : Openings) (p : SystemState2) (what : What2) → call_of p.world what ≡ None → is_full2 openings p what ≡ false
no-call-full openings p what none = ap (λ o. elim o as (λ z. Bool) [ None ↦ false | Some z ↦ is_call_full2 openings p z ]) none

module _ {D : Type 0} (b : Ghosts D) (tells_kept : (x : D) → b.keeps x → b.tells x) (openings : Openings) (print : List ℕ) (xs : List (Seat (Torn D) (torn b))) (n : Network) (going : GoesOn (torn b) openings print xs n) where
  abbrev w : World2
  w = world_with xs n

  abbrev event : What2 → Option Stop → Event2
  event what stop = record { what = what; stop = stop }

  abbrev Led : What2 → Option Stop → List (Seat (Torn D) (torn b)) → Network → Type 0
  Led what stop ys r = Leads b openings print xs n (event what stop) ys r

  abbrev Failed : What2 → Option Stop → List (Seat (Torn D) (torn b)) → TwoRefused → Type 0
  Failed what stop ys why = Fails b openings print xs n (event what stop) ys why

  -- nothing changes but what waits, and no component is asked
  alone : (what : What2) (stop : Option Stop) (ok : IsEvent2 openings (event what stop)) (m : Network) → m.packets ≡ n.packets → length m.waiting ≤ length m.packets → call_of w what ≡ None → component_of w what ≡ None
      → ((o : DiskOutcome2) → happens2 openings w (event what stop) o ≡ Some (world_with xs m)) → Led what stop xs m
  alone what stop ok m same waits none nobody happens =
      rests b tells_kept openings print xs n going (event what stop) ok m [] same waits happens (no-call-full openings (state_with xs n) what none) (λ c s there here. none-some c (sym nobody ∙ there))

  -- it sends again ------------------------------------------------------------------------------

  module _ (c : ℕ) (stop : Option Stop) (ok : IsEvent2 openings (event (whats.Resend c) stop)) (ys : List (Seat (Torn D) (torn b))) where
    pub resend-leads : (r : Network) → Acts b xs n c stop Resends ys r → Led (whats.Resend c) stop ys r
    resend-leads r acts = acted b tells_kept openings print xs n going (event (whats.Resend c) stop) ok c Resends n refl going.waits refl refl refl refl (λ l. refl) (λ o. refl) ys r acts

    pub resend-fails : (why : TwoRefused) → FailsToAct b xs n c stop Resends ys why → Failed (whats.Resend c) stop ys why
    resend-fails why fails = not-acted b tells_kept openings print xs n going (event (whats.Resend c) stop) ok c Resends n refl going.waits refl refl refl refl (λ l. refl) (λ o. refl) ys why fails

  -- a packet is delivered -------------------------------------------------------------------------

  module _ (i : ℕ) (stop : Option Stop) (ok : IsEvent2 openings (event (whats.Packet i) stop)) where
    module _ (p : Packet2) (is : packet_at w i ≡ Some p) (ys : List (Seat (Torn D) (torn b))) where
      asks : call_of w (whats.Packet i) ≡ Some (called (receiver_of p) (Hears p))
      asks = ap (option_map delivery_of) is

      pub packet-leads : (r : Network) → Acts b xs (without n i) (receiver_of p) stop (Hears p) ys r → Led (whats.Packet i) stop ys r
      packet-leads r acts =
          acted b tells_kept openings print xs n going (event (whats.Packet i) stop) ok (receiver_of p) (Hears p) (without n i) refl (fewer-wait n i going.waits) asks (ap (option_map (λ (x : Called). x.who)) asks) refl refl (λ l. refl)
          (λ o. ap (λ q. Some (delivers openings w stop o i q)) is) ys r acts

      pub packet-fails : (why : TwoRefused) → FailsToAct b xs (without n i) (receiver_of p) stop (Hears p) ys why → Failed (whats.Packet i) stop ys why
      packet-fails why fails =
          not-acted b tells_kept openings print xs n going (event (whats.Packet i) stop) ok (receiver_of p) (Hears p) (without n i) refl (fewer-wait n i going.waits) asks (ap (option_map (λ (x : Called). x.who)) asks) refl refl (λ l. refl)
          (λ o. ap (λ q. Some (delivers openings w stop o i q)) is) ys why fails

    pub packet-none : packet_at w i ≡ None → Led (whats.Packet i) stop xs n
    packet-none is = alone (whats.Packet i) stop ok n refl going.waits (ap (option_map delivery_of) is) (ap (λ q. option_map (λ (x : Called). x.who) (option_map delivery_of q)) is) (λ o. ap (λ q. Some (delivers openings w stop o i q)) is)

  module _ (from to : ℕ) (stop : Option Stop) (ok : IsEvent2 openings (event (whats.Deliver from to) stop)) where
    module _ (i : ℕ) (oldest : oldest_of w from to ≡ Some i) where
      module _ (p : Packet2) (is : packet_at w i ≡ Some p) (ys : List (Seat (Torn D) (torn b))) where
        calls-it : call_of w (whats.Deliver from to) ≡ Some (called (receiver_of p) (Hears p))
        calls-it = ap (λ q. option_map delivery_of (option_and_then (packet_at w) q)) oldest ∙ ap (option_map delivery_of) is

        pub deliver-leads : (r : Network) → Acts b xs (without n i) (receiver_of p) stop (Hears p) ys r → Led (whats.Deliver from to) stop ys r
        deliver-leads r acts =
            acted b tells_kept openings print xs n going (event (whats.Deliver from to) stop) ok (receiver_of p) (Hears p) (without n i) refl (fewer-wait n i going.waits) calls-it (ap (option_map (λ (x : Called). x.who)) calls-it) refl refl (λ l. refl)
            (λ o. ap (λ q. Some (delivers_oldest openings w stop o q)) oldest ∙ ap (λ q. Some (delivers openings w stop o i q)) is) ys r acts

        pub deliver-fails : (why : TwoRefused) → FailsToAct b xs (without n i) (receiver_of p) stop (Hears p) ys why → Failed (whats.Deliver from to) stop ys why
        deliver-fails why fails =
            not-acted b tells_kept openings print xs n going (event (whats.Deliver from to) stop) ok (receiver_of p) (Hears p) (without n i) refl (fewer-wait n i going.waits) calls-it (ap (option_map (λ (x : Called). x.who)) calls-it) refl refl (λ l. refl)
            (λ o. ap (λ q. Some (delivers_oldest openings w stop o q)) oldest ∙ ap (λ q. Some (delivers openings w stop o i q)) is) ys why fails

      pub deliver-nothing : packet_at w i ≡ None → Led (whats.Deliver from to) stop xs n
      deliver-nothing is =
          let none : call_of w (whats.Deliver from to) ≡ None = ap (λ q. option_map delivery_of (option_and_then (packet_at w) q)) oldest ∙ ap (option_map delivery_of) is in
          alone (whats.Deliver from to) stop ok n refl going.waits none (ap (option_map (λ (x : Called). x.who)) none)
          (λ o. ap (λ q. Some (delivers_oldest openings w stop o q)) oldest ∙ ap (λ q. Some (delivers openings w stop o i q)) is)

    pub deliver-none : oldest_of w from to ≡ None → Led (whats.Deliver from to) stop xs n
    deliver-none oldest =
        let none : call_of w (whats.Deliver from to) ≡ None = ap (λ q. option_map delivery_of (option_and_then (packet_at w) q)) oldest in
        alone (whats.Deliver from to) stop ok n refl going.waits none (ap (option_map (λ (x : Called). x.who)) none) (λ o. ap (λ q. Some (delivers_oldest openings w stop o q)) oldest)

  -- one is lost
  module _ (from to : ℕ) (stop : Option Stop) (ok : IsEvent2 openings (event (whats.Lose from to) stop)) where
    pub lose-leads : (i : ℕ) → oldest_of w from to ≡ Some i → Led (whats.Lose from to) stop xs (without n i)
    lose-leads i oldest = alone (whats.Lose from to) stop ok (without n i) refl (fewer-wait n i going.waits) refl refl (λ o. ap (λ q. Some (loses w q)) oldest)

    pub lose-none : oldest_of w from to ≡ None → Led (whats.Lose from to) stop xs n
    lose-none oldest = alone (whats.Lose from to) stop ok n refl going.waits refl refl (λ o. ap (λ q. Some (loses w q)) oldest)

  -- a move begins -----------------------------------------------------------------------------------

  module _ (from source to target amount : ℕ) (stop : Option Stop) (ok : IsEvent2 openings (event (whats.Move from source to target amount) stop)) where
    abbrev What : What2
    What = whats.Move from source to target amount

    none-later : {A : Type 0} → 0 < 0 → A
    none-later l = absurd (omega (arith, l))

    module _ (m : Move) (is : m ≡ next_move (log_at w 0) from source to target amount) (ys : List (Seat (Torn D) (torn b))) where
      pub move-leads : (r : Network) → Acts b xs n 0 stop (Begins m) ys r → Led What stop ys r
      move-leads r acts =
          acted b tells_kept openings print xs n going (event What stop) ok 0 (Begins (next_move (log_at w 0) from source to target amount)) n refl going.waits refl refl refl refl none-later (λ o. refl) ys r
          (subst (λ k. Acts b xs n 0 stop (Begins k) ys r) is acts)

      pub move-fails : (why : TwoRefused) → FailsToAct b xs n 0 stop (Begins m) ys why → Failed What stop ys why
      move-fails why fails =
          not-acted b tells_kept openings print xs n going (event What stop) ok 0 (Begins (next_move (log_at w 0) from source to target amount)) n refl going.waits refl refl refl refl none-later (λ o. refl) ys why
          (subst (λ k. FailsToAct b xs n 0 stop (Begins k) ys why) is fails)
