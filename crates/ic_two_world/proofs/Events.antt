-- Each kind of event, from what it came to at its component.
use Rattle.std.proofs.Common.{◌≡◌, ◌∙◌, refl, sym, ap, subst, ◌⊎◌, inl, inr, ℕ, suc, ◌+◌, ◌<◌, ◌≤◌, Bool, true, false, cond, not, ◌&&◌, ◌||◌, ◌==◌, filter, List, [], ◌∷◌, length, length-append, map, Option, Some, None, option_map, arith}
use Rattle.std.specs.Prelude.{slice_get, slice_set, ⊤, MatchOption, Ok}
use Rattle.std.specs.List.{range_with_len}
use Rattle.std.proofs.lemmas.Bool.Decides.{nat_tests}
use Rattle.std.proofs.lemmas.List.FromFn.{length-range_with_len}
use Rattle.std.proofs.lemmas.Option.{slice_get-map}
use Rattle.ic_base.specs.declared.events.Stop.{Stop}
use Rattle.ic_base.specs.declared.limits.TheConstants.{PACKETS}
use Rattle.def_log.specs.Sizes.{size_in}
use Rattle.def_two.specs.declared.moves.Packet2.{Packet2}
use Rattle.def_two.specs.declared.moves.Record2.{Record2}
use Rattle.def_two.specs.declared.script.Event2.{Event2}
use Rattle.def_two.specs.declared.script.What2.{What2}
use Rattle.def_two.specs.declared.script.TwoRefused.{TwoRefused}
use Rattle.def_two.specs.declared.script.TwoRefused.TheVariants as refused
use Rattle.def_two.specs.Chief.{Call}
use Rattle.def_two.specs.CoreSteps.{SystemState2, file2_of, IsLog2, loads_first, forces, is_stopped, has_no_room2, is_past_number, is_call_full2, is_full2, CoreStep2}
use Rattle.def_two.specs.Moves.{Openings}
use Rattle.def_two.specs.Refusals.{IsRefused2}
use Rattle.def_two.specs.Runs.{Called, called, call_of, component_of, would_add, IsEvent2}
use Rattle.def_two.specs.World.{World2, Site, DiskOutcome2, site_at, is_up as site_up, device_calls, is_reached, calls, site_calls, happens2}
use Rattle.law_two.proofs.Waiting.{events_keep_settling}
use Rattle.ic_disk.specs.TornDisks.{Torn}
use Rattle.ic_disk.specs.declared.disk.Disk.{Ghosts}
use Rattle.ic_moves.specs.Networks.{Network, with_puts, without}
use Rattle.ic_seat.specs.Seats.{site_of, disk_in}
use Rattle.ic_seat.specs.Serving.{FailsToServe}
use Rattle.ic_disk.specs.Torns.{torn, file}
use Rattle.ic_seat.specs.declared.call.SeatRefused.{SeatRefused}
use Rattle.ic_seat.specs.declared.call.SeatRefused.TheVariants as own
use Rattle.ic_seat.specs.declared.seat.Seat.{Seat}
use Rattle.ic_two_world.specs.Acting.{refusal_of, CannotPut, Turns, ActsThere, IsNowhere, Acts, IsNotServed, IsNotPut, FailsToAct}
use Rattle.ic_two_world.specs.Stepping.{Leads, IsOfEvent, IsBehind, KeepsFiles, LeavesFiles, IsFailed2}
use Rattle.ic_two_world.specs.Views.{world_with, state_with, file_in, KeepModel, AreSeated, GoesOn}
use Rattle.ic_two_world.proofs.Lists.{none-some, some-is, get-set_same, set-got, map-set, length-set}
use Rattle.ic_two_world.proofs.Lifting.{keeps-logs, outcome-of, full-of, calls-world, new-seated, new-keeps, core-step}

-- why it isn't done, over disks that keep the disk model, and which disk failed
pub record Fails {D : Type 0} (b : Ghosts D) (openings : Openings) (print : List ℕ) (xs : List (Seat (Torn D) (torn b))) (n : Network) (e : Event2) (ys : List (Seat (Torn D) (torn b))) (why : TwoRefused) : Type 0 where
  pub refused : KeepModel xs → IsRefused2 openings print (state_with xs n) e why
  pub failed : IsFailed2 b xs ys why
  pub of_event : IsOfEvent (world_with xs n) e.what why
  pub files : KeepModel xs → LeavesFiles b openings print xs n e ys why

-- a component in whose place another one is that reads the same
pub files-stay : {D : Type 0} (b : Ghosts D) (xs ys : List (Seat (Torn D) (torn b))) (c : ℕ) (x y : Seat (Torn D) (torn b)) → slice_get xs c ≡ Some x → ys ≡ slice_set xs c y → file b (disk_in y) ≡ file b (disk_in x) → KeepsFiles b xs ys
files-stay b xs ys c x y at set same =
    ap (map file_in) set ∙ map-set file_in xs c y ∙ ap (slice_set (map file_in xs) c) same ∙ set-got (map file_in xs) c (file_in x) (slice_get-map file_in xs c ∙ ap (option_map file_in) at)

-- what is put out waits
more-wait : (m : Network) (puts : List Packet2) → length m.waiting ≤ length m.packets → length (with_puts m puts).waiting ≤ length (with_puts m puts).packets
more-wait m puts waits =
    omega (arith, waits, length-append m.waiting (range_with_len (length m.packets + 1) (length puts)), length-append m.packets puts, length-range_with_len (length m.packets + 1) (length puts))

length-filter : (f : ℕ → Bool) (xs : List ℕ) → length (filter f xs) ≤ length xs
length-filter f [] = omega arith
length-filter f (x ∷ xs) = by (f x) (length-filter f xs)
  where
    by : (t : Bool) → length (filter f xs) ≤ length xs → length (cond t (x ∷ filter f xs) (filter f xs)) ≤ suc (length xs)
    by true l = omega (arith, l)
    by false l = omega (arith, l)

-- one fewer waits
pub fewer-wait : (n : Network) (i : ℕ) → length n.waiting ≤ length n.packets → length (without n i).waiting ≤ length (without n i).packets
fewer-wait n i waits = omega (arith, waits, length-filter (λ j. not (i == j)) n.waiting)

pub no-stop : (stop : Option Stop) → MatchOption stop ⊤ (λ s. 1 ≤ s.call) → is_reached stop 0 ≡ false
no-stop None may = refl
no-stop (Some s) may = grind (arith, nat_tests)

-- a component that isn't there passes no limit
not-full2 : (openings : Openings) (p : SystemState2) (what : What2) (c : ℕ) (call : Call) → call_of p.world what ≡ Some (called c call) → site_at p.world c ≡ None → is_full2 openings p what ≡ false
not-full2 openings p what c call is none =
    ap (λ o. elim o as (λ z. Bool) [ None ↦ false | Some z ↦ is_call_full2 openings p z ]) is
    ∙ ap (λ s. site_up s && (is_past_number call || elim (size_in (file2_of p c)) as (λ z. Bool) [ None ↦ false | Some k ↦ has_no_room2 k (would_add openings p.world (called c call)) ])) none

module _ {D : Type 0} (b : Ghosts D) (tells_kept : (x : D) → b.keeps x → b.tells x) (openings : Openings) (print : List ℕ) (xs : List (Seat (Torn D) (torn b))) (n : Network) (going : GoesOn (torn b) openings print xs n)
    (e : Event2) (ok : IsEvent2 openings e) where
  abbrev w : World2
  w = world_with xs n

  -- the world goes on
  pub leads-by : (o : DiskOutcome2) (ys : List (Seat (Torn D) (torn b))) (r : Network) → happens2 openings w e o ≡ Some (world_with ys r) → (KeepModel xs → CoreStep2 openings print (state_with xs n) e o (state_with ys r)) → (KeepModel xs → KeepModel ys)
      → length ys ≡ length xs → AreSeated (torn b) openings print ys → length r.packets ≤ PACKETS → length r.waiting ≤ length r.packets → Leads b openings print xs n e ys r
  leads-by o ys r happens core keeps same seated few waits = record {
    outcome = o;
    happens = happens;
    core = core;
    keeps = keeps;
    goes_on = record {
      count = same ∙ going.count;
      bounded = omega (arith, same, going.bounded);
      seated = seated;
      settles = events_keep_settling openings w e o (world_with ys r) ok going.settles happens;
      few = few;
      waits = waits;
    };
  }

  -- an event that changes no component, of one with these records at most
  pub rests : (m : Network) (found : List Record2) → m.packets ≡ n.packets → length m.waiting ≤ length m.packets → ((o : DiskOutcome2) → happens2 openings w e o ≡ Some (world_with xs m)) → is_full2 openings (state_with xs n) e.what ≡ false
      → ((c : ℕ) (s : Site) → component_of w e.what ≡ Some c → site_at w c ≡ Some s → (s.log ≡ found) × (is_stopped openings w e ≡ false)) → Leads b openings print xs n e xs m
  rests m found same waits happens full calm =
      leads-by o xs m (happens o) core (λ k. k) refl going.seated (subst (λ (l : List Packet2). length l ≤ PACKETS) (sym same) going.few) waits
    where
      o : DiskOutcome2
      o = record { found = found; left = []; is_open = false }

      clash : {A : Type 0} (t : Bool) → t ≡ true → t ≡ false → A
      clash t p q = let unlike : true ≡ false = sym p ∙ q in absurd (cc)

      core : KeepModel xs → CoreStep2 openings print (state_with xs n) e o (state_with xs m)
      core keeps = record {
        event = ok;
        happens = happens o;
        fits = full;
        disk = λ c s there here. record {
          found = (subst (λ q. MatchOption q ⊤ (λ z. IsLog2 print c (file2_of (state_with xs n) c) z.log)) here (keeps-logs (torn b) openings print xs n going.seated keeps c)).holds ∙ ap Ok (calm c s there here).0;
          torn = λ hit. clash (is_stopped openings w e) hit (calm c s there here).1;
          same = λ unlike kept. refl;
        };
        others = λ k other. refl;
        logs = keeps-logs (torn b) openings print xs m going.seated keeps;
      }

  -- a call at the component in a place
  module _ (c : ℕ) (call : Call) (m : Network) (same : m.packets ≡ n.packets) (waits : length m.waiting ≤ length m.packets) (is_called : call_of w e.what ≡ Some (called c call)) (component : component_of w e.what ≡ Some c) (first : loads_first e.what ≡ 0)
      (stops : is_stopped openings w e ≡ is_reached e.stop (device_calls (forces openings w e.what))) (low : 0 < c → is_past_number call ≡ false)
      (happens : (o : DiskOutcome2) → happens2 openings w e o ≡ Some (calls openings (world_with xs m) c e.stop o call)) where
    acted-there : (ys : List (Seat (Torn D) (torn b))) (r : Network) → ActsThere b xs m c e.stop call ys r → Leads b openings print xs n e ys r
    acted-there ys r acts =
        let t = acts.turns in
        let o = outcome-of b tells_kept openings print xs n going.seated (site_of t.before).log t.before t.now in
        let zs = slice_set xs c t.now in
        let led : Leads b openings print xs n e zs (with_puts m acts.puts) =
        leads-by o zs (with_puts m acts.puts)
        (happens o ∙ ap Some (calls-world b tells_kept openings print xs n going.seated e c call m t.before t.at ok is_called component first stops low t.now acts.puts acts.serves t.disk))
        (λ keeps. core-step b tells_kept openings print xs n going.seated e c call m t.before t.at ok is_called component first stops low t.now acts.puts acts.serves t.disk keeps (happens o))
        (new-keeps b tells_kept openings print xs n going.seated e c call m t.before t.at ok is_called component first stops low t.now acts.puts acts.serves t.disk)
        (length-set xs c t.now)
        (new-seated b tells_kept openings print xs n going.seated e c call m t.before t.at ok is_called component first stops low t.now acts.puts acts.serves t.disk)
        (subst (λ (k : Network). length k.packets ≤ PACKETS) acts.network acts.few)
        (more-wait m acts.puts waits) in
        subst (λ k. Leads b openings print xs n e ys k) (sym acts.network) (subst (λ l. Leads b openings print xs n e l (with_puts m acts.puts)) (sym t.set) led)

    acted-nowhere : (ys : List (Seat (Torn D) (torn b))) (r : Network) → IsNowhere b xs m c ys r → Leads b openings print xs n e ys r
    acted-nowhere ys r unlike =
        let none : site_at (world_with xs m) c ≡ None = slice_get-map site_of xs c ∙ ap (option_map site_of) unlike.none in
        let none-n : site_at w c ≡ None = slice_get-map site_of xs c ∙ ap (option_map site_of) unlike.none in
        let led : Leads b openings print xs n e xs m =
        rests m [] same waits (λ o. happens o ∙ ap (λ s. Some (site_calls openings (world_with xs m) c e.stop o call s)) none)
        (not-full none-n)
        (λ k s there here. none-some s (sym none-n ∙ ap (site_at w) (some-is c k (sym component ∙ there)) ∙ here)) in
        subst (λ k. Leads b openings print xs n e ys k) (sym unlike.network) (subst (λ l. Leads b openings print xs n e l m) (sym unlike.seats) led)
      where
        not-full : site_at w c ≡ None → is_full2 openings (state_with xs n) e.what ≡ false
        not-full none = not-full2 openings (state_with xs n) e.what c call is_called none

    pub acted : (ys : List (Seat (Torn D) (torn b))) (r : Network) → Acts b xs m c e.stop call ys r → Leads b openings print xs n e ys r
    acted ys r (inl acts) = acted-there ys r acts
    acted ys r (inr unlike) = acted-nowhere ys r unlike

    pub not-acted : (ys : List (Seat (Torn D) (torn b))) (why : TwoRefused) → FailsToAct b xs m c e.stop call ys why → Fails b openings print xs n e ys why
    not-acted ys why fails = by fails.because
      where
        t : Turns b xs c ys
        t = fails.turns

        there : slice_get ys c ≡ Some t.now
        there = ap (λ l. slice_get l c) t.set ∙ get-set_same xs c t.before t.now t.at

        served : (own : SeatRefused) → FailsToServe b t.before call t.now own → Fails b openings print xs n e ys (refusal_of c own)
        served own.Full f = record {
          refused = λ keeps.
              let told = tells_kept (disk_in t.before).inner (keeps c t.before t.at) in
              let z = f.1 told in
              (full-of b tells_kept openings print xs n going.seated e c call m t.before t.at ok is_called component first stops low true f.0 z.0 z.1 (f.2 told z.0 z.1), ap (option_map (λ (x : Called). x.who)) is_called);
          failed = tt;
          of_event = tt;
          files = λ keeps. files-stay b xs ys c t.before t.now t.at t.set (f.3 (tells_kept (disk_in t.before).inner (keeps c t.before t.at)));
        }
        served (own.Bad place) f = absurd f
        served (own.Foreign kept) f = absurd f
        served own.Failed f = record { refused = λ keeps. tt; failed = (t.before, t.now, t.at, there, f); of_event = component; files = λ keeps. tt }
        served own.Memory f = record {
          refused = λ keeps. tt;
          failed = tt;
          of_event = tt;
          files = λ keeps. inl (files-stay b xs ys c t.before t.now t.at t.set (f (tells_kept (disk_in t.before).inner (keeps c t.before t.at))));
        }

        done-of : DiskOutcome2
        done-of = outcome-of b tells_kept openings print xs n going.seated (site_of t.before).log t.before t.now

        behind : {r : TwoRefused} (z : IsNotPut b t.before m e.stop call t.now r) → KeepModel xs → IsBehind b openings print xs n e ys
        behind z keeps = record {
          outcome = done-of;
          state = state_with (slice_set xs c t.now) (with_puts m z.puts);
          step = core-step b tells_kept openings print xs n going.seated e c call m t.before t.at ok is_called component first stops low t.now z.puts z.serves t.disk keeps (happens done-of);
          files = ap (map file_in) t.set;
        }

        not-put : (why : TwoRefused) → (z : IsNotPut b t.before m e.stop call t.now why) → CannotPut m z.puts why → Fails b openings print xs n e ys why
        not-put refused.Packets z cannot = record {
          refused = λ keeps. record {
            done = record {
              event = e;
              disk = outcome-of b tells_kept openings print xs n going.seated (site_of t.before).log t.before t.now;
              state = state_with (slice_set xs c t.now) (with_puts m z.puts);
            };
            step = core-step b tells_kept openings print xs n going.seated e c call m t.before t.at ok is_called component first stops low t.now z.puts z.serves t.disk keeps (happens (outcome-of b tells_kept openings print xs n going.seated (site_of t.before).log t.before t.now));
            past = omega (arith, cannot, length-append m.packets z.puts);
          };
          failed = tt;
          of_event = tt;
          files = λ keeps. behind z keeps;
        }
        not-put refused.Memory z cannot = record { refused = λ keeps. tt; failed = tt; of_event = tt; files = λ keeps. inr (behind z keeps) }
        not-put (refused.LogFull k) z cannot = absurd cannot
        not-put (refused.Bad k place) z cannot = absurd cannot
        not-put (refused.Failed k) z cannot = absurd cannot
        not-put (refused.Foreign k kept) z cannot = absurd cannot

        by : IsNotServed b t.before c call t.now why ⊎ IsNotPut b t.before m e.stop call t.now why → Fails b openings print xs n e ys why
        by (inl z) = subst (λ r. Fails b openings print xs n e ys r) (sym z.is) (served z.own z.fails)
        by (inr z) = not-put why z z.cannot
