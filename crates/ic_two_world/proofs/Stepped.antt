-- Each kind of event, as the world does it.
use Rattle.std.proofs.Common.{◌≡◌, ◌∙◌, refl, sym, ap, subst, inl, inr, ℕ, ◌+◌, ◌<◌, ◌≤◌, Bool, true, false, ◌&&◌, ◌||◌, List, [], ◌++◌, length, map, Option, Some, None, option_map, arith, Ok, Err}
use Rattle.std.specs.Prelude.{slice_get, slice_set, option_and_then, Result, OnOk, IfErr}
use Rattle.std.proofs.lemmas.Bool.{and_parts}
use Rattle.std.proofs.lemmas.Bool.Decides.{nat_tests}
use Rattle.std.proofs.lemmas.List.{append-nil}
use Rattle.std.proofs.lemmas.Option.{slice_get-map}
use Rattle.ic_base.specs.declared.events.Stop.{Stop}
use Rattle.ic_base.specs.declared.limits.TheConstants.{GREATEST_NUMBER, PACKETS}
use Rattle.def_log.specs.Sizes.{size_in}
use Rattle.def_two.specs.declared.moves.Move.{Move}
use Rattle.def_two.specs.declared.moves.Packet2.{Packet2}
use Rattle.def_two.specs.declared.script.What2.{What2}
use Rattle.def_two.specs.declared.script.What2.TheVariants as whats
use Rattle.def_two.specs.declared.script.TwoRefused.{TwoRefused}
use Rattle.def_two.specs.declared.script.TwoRefused.TheVariants as refused
use Rattle.def_two.specs.Chief.{Call, Begins, Hears, Resends, docket_of}
use Rattle.def_two.specs.CoreSteps.{file2_of, has_no_room2, is_past_number, is_full2}
use Rattle.def_two.specs.Moves.{is_lawful}
use Rattle.def_two.specs.Runs.{Called, called, component_of, delivery_of, would_add, IsEvent2}
use Rattle.def_two.specs.World.{World2, site_at, log_in, log_at, is_up as site_up, oldest_of, packet_at, receiver_of, next_move, crashes, recovers}
use Rattle.ic_disk.specs.TornDisks.{Torn}
use Rattle.ic_disk.specs.declared.disk.Disk.{Ghosts}
use Rattle.ic_disk.proofs.Disks.{Keeps-refl}
use Rattle.ic_moves.specs.Networks.{Network, with_puts, without}
use Rattle.ic_seat.specs.Seats.{site_of, disk_in, is_up, MayBegin}
use Rattle.ic_seat.specs.Serving.{IsAllowed}
use Rattle.ic_disk.specs.Torns.{torn}
use Rattle.ic_seat.specs.declared.seat.Seat.{Seat}
use Rattle.ic_seat.specs.declared.seat.Seat.TheVariants as seats
use Rattle.ic_two.specs.ChiefLogs as chiefs
use Rattle.ic_two.specs.declared.chief.Chief.{Chief}
use Rattle.ic_two_world.specs.Acting.{Acts, FailsToAct, ComesUpThere, FailsToComeUp, GoesDownThere}
use Rattle.ic_two_world.specs.Stepping.{Leads, IsSameScript, Delivers, FailsToDeliver, Steps2, FailsToStep2, with_stop}
use Rattle.ic_two_world.specs.Views.{seats_of, openings_of, print_of, network_of, world_of, state_of, file_in, begun_if_up_in, IsGoing}
use Rattle.ic_two_world.specs.declared.world.TwoWorld.{TwoWorld}
use Rattle.ic_two_world.proofs.Lists.{none-some, some-is, none-past, get-there, set-got}
use Rattle.ic_two_world.proofs.Calling.{site-there}
use Rattle.ic_two_world.proofs.Events.{Fails, rests}
use Rattle.ic_two_world.proofs.Kept.{KeepsBut, but-same, acted-but, unacted-but, up-but, not-up-but, down-but}
use Rattle.ic_two_world.proofs.Downs.{crash-leads, up-leads, not-up}
use Rattle.ic_two_world.proofs.Arms.{resend-leads, resend-fails, packet-leads, packet-fails, packet-none, deliver-leads, deliver-fails, deliver-nothing, deliver-none, lose-leads, lose-none, move-leads, move-fails}

pub on-ok : {T E : Type 0} (r : Result T E) {A B : Type 0} → (A → B) → OnOk r A → OnOk r B
on-ok (Ok u) f a = f a
on-ok (Err e) f a = tt

pub if-err : {T E : Type 0} (r : Result T E) {A B : E → Type 0} → ((e : E) → A e → B e) → IfErr r A → IfErr r B
if-err (Ok u) f a = tt
if-err (Err e) f a = f e a

none-of : {A B : Type 0} (o : Option A) (x : A) → o ≡ None → o ≡ Some x → B
none-of o x e f = none-some x (sym e ∙ f)

module _ {D : Type 0} (b : Ghosts D) (tells_kept : (x : D) → b.keeps x → b.tells x) (old new : TwoWorld (Torn D) (torn b)) (same : IsSameScript b old new) (going : IsGoing (torn b) old) (stop : Option Stop) where
  abbrev xs : List (Seat (Torn D) (torn b))
  xs = seats_of old

  abbrev n : Network
  n = network_of old

  abbrev w : World2
  w = world_of old

  abbrev Led : What2 → List (Seat (Torn D) (torn b)) → Network → Type 0
  Led what ys m = Leads b (openings_of old) (print_of old) xs n (with_stop what stop) ys m

  abbrev Done : What2 → Type 0
  Done what = Steps2 b old (with_stop what stop) new

  abbrev Undone : What2 → TwoRefused → Type 0
  Undone what why = FailsToStep2 b old (with_stop what stop) new why

  abbrev Left : What2 → List (Seat (Torn D) (torn b)) → Type 0
  Left what ys = KeepsBut (torn b) xs (component_of w what) ys

  done : (what : What2) → Led what (seats_of new) (network_of new) → Left what (seats_of new) → Done what
  done what led left = record { leads = led; rest = record { same = same; disks = left.disks; others = left.others } }

  undone : (what : What2) (why : TwoRefused) → Fails b (openings_of old) (print_of old) xs n (with_stop what stop) (seats_of new) why → Left what (seats_of new) → Undone what why
  undone what why fails left = record { refused = fails.refused; failed = fails.failed; of_event = fails.of_event; files = fails.files; rest = record { same = same; disks = left.disks; others = left.others } }

  -- no component changes
  unmoved : (what : What2) → seats_of new ≡ xs → Left what (seats_of new)
  unmoved what es = but-same (torn b) xs (component_of w what) (seats_of new) es

  -- the seats and the network are these
  as-led : (what : What2) (ys : List (Seat (Torn D) (torn b))) (m : Network) → seats_of new ≡ ys → network_of new ≡ m → Led what ys m → Led what (seats_of new) (network_of new)
  as-led what ys m es en led = subst (λ k. Led what (seats_of new) k) (sym en) (subst (λ l. Led what l m) (sym es) led)

  -- it sends again ------------------------------------------------------------------------------

  module _ (c : ℕ) (ok : IsAllowed stop) where
    pub resend-done : Acts b xs n c stop Resends (seats_of new) (network_of new) → Done (whats.Resend c)
    resend-done acts =
        done (whats.Resend c) (resend-leads b tells_kept (openings_of old) (print_of old) xs n going c stop (refl, ok) (seats_of new) (network_of new) acts)
        (acted-but b xs (Some c) c refl (seats_of new) n stop Resends (network_of new) acts)

    pub resend-undone : (why : TwoRefused) → FailsToAct b xs n c stop Resends (seats_of new) why → Undone (whats.Resend c) why
    resend-undone why fails =
        undone (whats.Resend c) why (resend-fails b tells_kept (openings_of old) (print_of old) xs n going c stop (refl, ok) (seats_of new) why fails)
        (unacted-but b xs (Some c) c refl (seats_of new) n stop Resends why fails)

  -- a packet is delivered -------------------------------------------------------------------------

  module _ (i : ℕ) (ok : IsAllowed stop) where
    packet-by : (o : Option Packet2) → packet_at w i ≡ o → Delivers b old i stop o new → Led (whats.Packet i) (seats_of new) (network_of new)
    packet-by None is d = as-led (whats.Packet i) xs n d.0 d.1 (packet-none b tells_kept (openings_of old) (print_of old) xs n going i stop (refl, ok) is)
    packet-by (Some p) is d = packet-leads b tells_kept (openings_of old) (print_of old) xs n going i stop (refl, ok) p is (seats_of new) (network_of new) d

    -- of it the delivery is, if there is one
    packet-who : (p : Packet2) → packet_at w i ≡ Some p → component_of w (whats.Packet i) ≡ Some (receiver_of p)
    packet-who p is = ap (λ q. option_map (λ (x : Called). x.who) (option_map delivery_of q)) is

    packet-left : (o : Option Packet2) → packet_at w i ≡ o → Delivers b old i stop o new → Left (whats.Packet i) (seats_of new)
    packet-left None is d = unmoved (whats.Packet i) d.0
    packet-left (Some p) is d = acted-but b xs (component_of w (whats.Packet i)) (receiver_of p) (packet-who p is) (seats_of new) (without n i) stop (Hears p) (network_of new) d

    pub packet-done : Delivers b old i stop (packet_at w i) new → Done (whats.Packet i)
    packet-done d = done (whats.Packet i) (packet-by (packet_at w i) refl d) (packet-left (packet_at w i) refl d)

    packet-fails-by : (o : Option Packet2) (why : TwoRefused) → packet_at w i ≡ o → FailsToDeliver b old i stop o new why → Undone (whats.Packet i) why
    packet-fails-by None why is f = absurd f
    packet-fails-by (Some p) why is f =
        undone (whats.Packet i) why (packet-fails b tells_kept (openings_of old) (print_of old) xs n going i stop (refl, ok) p is (seats_of new) why f)
        (unacted-but b xs (component_of w (whats.Packet i)) (receiver_of p) (packet-who p is) (seats_of new) (without n i) stop (Hears p) why f)

    pub packet-undone : (why : TwoRefused) → FailsToDeliver b old i stop (packet_at w i) new why → Undone (whats.Packet i) why
    packet-undone why f = packet-fails-by (packet_at w i) why refl f

  module _ (from to : ℕ) (ok : IsAllowed stop) where
    module _ (i : ℕ) (oldest : oldest_of w from to ≡ Some i) where
      deliver-by : (o : Option Packet2) → packet_at w i ≡ o → Delivers b old i stop o new → Led (whats.Deliver from to) (seats_of new) (network_of new)
      deliver-by None is d = as-led (whats.Deliver from to) xs n d.0 d.1 (deliver-nothing b tells_kept (openings_of old) (print_of old) xs n going from to stop (refl, ok) i oldest is)
      deliver-by (Some p) is d = deliver-leads b tells_kept (openings_of old) (print_of old) xs n going from to stop (refl, ok) i oldest p is (seats_of new) (network_of new) d

      deliver-who : (p : Packet2) → packet_at w i ≡ Some p → component_of w (whats.Deliver from to) ≡ Some (receiver_of p)
      deliver-who p is =
          ap (λ q. option_map (λ (x : Called). x.who) (option_map delivery_of (option_and_then (packet_at w) q))) oldest ∙ ap (λ q. option_map (λ (x : Called). x.who) (option_map delivery_of q)) is

      deliver-left : (o : Option Packet2) → packet_at w i ≡ o → Delivers b old i stop o new → Left (whats.Deliver from to) (seats_of new)
      deliver-left None is d = unmoved (whats.Deliver from to) d.0
      deliver-left (Some p) is d = acted-but b xs (component_of w (whats.Deliver from to)) (receiver_of p) (deliver-who p is) (seats_of new) (without n i) stop (Hears p) (network_of new) d

      pub deliver-done : Delivers b old i stop (packet_at w i) new → Done (whats.Deliver from to)
      deliver-done d = done (whats.Deliver from to) (deliver-by (packet_at w i) refl d) (deliver-left (packet_at w i) refl d)

      deliver-fails-by : (o : Option Packet2) (why : TwoRefused) → packet_at w i ≡ o → FailsToDeliver b old i stop o new why → Undone (whats.Deliver from to) why
      deliver-fails-by None why is f = absurd f
      deliver-fails-by (Some p) why is f =
          undone (whats.Deliver from to) why (deliver-fails b tells_kept (openings_of old) (print_of old) xs n going from to stop (refl, ok) i oldest p is (seats_of new) why f)
          (unacted-but b xs (component_of w (whats.Deliver from to)) (receiver_of p) (deliver-who p is) (seats_of new) (without n i) stop (Hears p) why f)

      pub deliver-undone : (why : TwoRefused) → FailsToDeliver b old i stop (packet_at w i) new why → Undone (whats.Deliver from to) why
      deliver-undone why f = deliver-fails-by (packet_at w i) why refl f

      -- or lost
      pub lose-done : seats_of new ≡ xs → network_of new ≡ without n i → Done (whats.Lose from to)
      lose-done es en = done (whats.Lose from to) (as-led (whats.Lose from to) xs (without n i) es en (lose-leads b tells_kept (openings_of old) (print_of old) xs n going from to stop (refl, ok) i oldest)) (unmoved (whats.Lose from to) es)

    pub deliver-not : oldest_of w from to ≡ None → seats_of new ≡ xs → network_of new ≡ n → Done (whats.Deliver from to)
    deliver-not oldest es en = done (whats.Deliver from to) (as-led (whats.Deliver from to) xs n es en (deliver-none b tells_kept (openings_of old) (print_of old) xs n going from to stop (refl, ok) oldest)) (unmoved (whats.Deliver from to) es)

    pub lose-not : oldest_of w from to ≡ None → seats_of new ≡ xs → network_of new ≡ n → Done (whats.Lose from to)
    lose-not oldest es en = done (whats.Lose from to) (as-led (whats.Lose from to) xs n es en (lose-none b tells_kept (openings_of old) (print_of old) xs n going from to stop (refl, ok) oldest)) (unmoved (whats.Lose from to) es)

  -- a crash, and a recovery ------------------------------------------------------------------------

  module _ (c : ℕ) (ok : IsAllowed stop) where
    nobody : length xs ≤ c → site_at w c ≡ None
    nobody l = slice_get-map site_of xs c ∙ ap (option_map site_of) (none-past xs c l)

    pub crash-done : GoesDownThere b xs c (seats_of new) → network_of new ≡ n → Done (whats.Crash c)
    crash-done g en =
        done (whats.Crash c) (as-led (whats.Crash c) (slice_set xs c g.now) n g.set en
        (crash-leads b tells_kept (openings_of old) (print_of old) xs n going c g.before g.at stop (refl, ok) g.now g.gone))
        (down-but b xs (Some c) c refl (seats_of new) g)

    pub crash-not : length xs ≤ c → seats_of new ≡ xs → network_of new ≡ n → Done (whats.Crash c)
    crash-not l es en =
        let none = nobody l in
        done (whats.Crash c) (as-led (whats.Crash c) xs n es en
        (rests b tells_kept (openings_of old) (print_of old) xs n going (with_stop (whats.Crash c) stop) (refl, ok) n [] refl going.waits (λ o. ap (λ s. Some (crashes w c s)) none) refl
        (λ k s there here. none-of (site_at w c) s none (ap (site_at w) (some-is c k there) ∙ here))))
        (unmoved (whats.Crash c) es)

    pub up-done : ComesUpThere b (openings_of old) (print_of old) xs c stop (seats_of new) → network_of new ≡ n → Done (whats.Recover c)
    up-done u en =
        let t = u.turns in
        done (whats.Recover c) (as-led (whats.Recover c) (slice_set xs c t.now) n t.set en
        (up-leads b tells_kept (openings_of old) (print_of old) xs n going c t.before t.at stop (refl, ok) t.now u.recovers t.disk))
        (up-but b xs (Some c) c refl (seats_of new) (openings_of old) (print_of old) stop u)

    pub up-not : length xs ≤ c → seats_of new ≡ xs → network_of new ≡ n → Done (whats.Recover c)
    up-not l es en =
        let none = nobody l in
        done (whats.Recover c) (as-led (whats.Recover c) xs n es en
        (rests b tells_kept (openings_of old) (print_of old) xs n going (with_stop (whats.Recover c) stop) (refl, ok) n [] refl going.waits (λ o. ap (recovers (openings_of old) w c stop o) none) refl
        (λ k s there here. none-of (site_at w c) s none (ap (site_at w) (some-is c k there) ∙ here))))
        (unmoved (whats.Recover c) es)

    pub up-undone : (why : TwoRefused) → FailsToComeUp b (openings_of old) (print_of old) xs c (seats_of new) why → Undone (whats.Recover c) why
    up-undone why f =
        let t = f.turns in
        undone (whats.Recover c) why (subst (λ r. Fails b (openings_of old) (print_of old) xs n (with_stop (whats.Recover c) stop) (seats_of new) r) (sym f.is)
        (not-up b tells_kept (openings_of old) (print_of old) xs n going c t.before t.at stop (refl, ok) (seats_of new) t.now f.own t.set f.fails))
        (not-up-but b xs (Some c) c refl (seats_of new) (openings_of old) (print_of old) why f)

  -- a move begins -----------------------------------------------------------------------------------

  module _ (from source to target amount : ℕ) (ok : IsEvent2 (openings_of old) (with_stop (whats.Move from source to target amount) stop)) where
    abbrev What : What2
    What = whats.Move from source to target amount

    -- the first is the chief or down
    first-there : (x : Seat (Torn D) (torn b)) × (slice_get xs 0 ≡ Some x)
    first-there = get-there xs 0 (omega (arith, going.count))

    next-is : (x : Chief (Torn D) (torn b)) → slice_get xs 0 ≡ Some (seats.Chief x) → log_at w 0 ≡ chiefs.records_of x
    next-is x e = ap log_in (site-there xs n 0 (seats.Chief x) e)

    down-of : ((k : ℕ) → begun_if_up_in (slice_get xs 0) ≡ Some k → ⊥) → (x : Seat (Torn D) (torn b)) × (slice_get xs 0 ≡ Some x) × (is_up x ≡ false)
    down-of unlike = by first-there.0 first-there.1
      where
        by : (x : Seat (Torn D) (torn b)) → slice_get xs 0 ≡ Some x → (x : Seat (Torn D) (torn b)) × (slice_get xs 0 ≡ Some x) × (is_up x ≡ false)
        by (seats.Chief x) e = absurd (unlike (length (chiefs.docket_in x).begun) (ap begun_if_up_in e))
        by (seats.Book x) e = absurd (omega (arith, (going.seated 0 (seats.Book x) e).seat.0))
        by (seats.Down disk kept) e = (seats.Down disk kept, e, refl)

    none-put : (m : Network) → m ≡ n → m ≡ with_puts n []
    none-put m e = e ∙ ap (λ l. record { packets = l; waiting = n.waiting }) (sym (append-nil n.packets)) ∙ ap (λ l. record { packets = n.packets ++ []; waiting = l }) (sym (append-nil n.waiting))

    -- the chief is down, and nothing happens
    pub begin-idle : ((k : ℕ) → begun_if_up_in (slice_get xs 0) ≡ Some k → ⊥) → seats_of new ≡ xs → network_of new ≡ n → Done What
    begin-idle unlike es en =
        let d = down-of unlike in
        let first : Move = next_move (log_at w 0) from source to target amount in
        let acts : Acts b xs n 0 stop (Begins first) (seats_of new) (network_of new) = inl (record {
          turns = record { before = d.0; now = d.0; at = d.1; set = es ∙ sym (set-got xs 0 d.0 d.1); disk = Keeps-refl (disk_in d.0) };
          puts = [];
          serves = record {
            ends = inr (inr (record { was_down = d.2; same = refl; puts_out = refl }));
            stands = (going.seated 0 d.0 d.1).stands;
            holds = λ print c h. h;
            seated = λ openings c s. s;
          };
          network = none-put (network_of new) en;
          few = subst (λ (k : Network). length k.packets ≤ PACKETS) (sym en) going.few;
        }) in
        done What (move-leads b tells_kept (openings_of old) (print_of old) xs n going from source to target amount stop ok first refl (seats_of new) (network_of new) acts) (unmoved What es)

    module _ (k : ℕ) (begun : begun_if_up_in (slice_get xs 0) ≡ Some k) where
      abbrev m : Move
      m = record { n = k + 1; from = from; source = source; to = to; target = target; amount = amount }

      chief-is : (x : Chief (Torn D) (torn b)) × (slice_get xs 0 ≡ Some (seats.Chief x)) × (length (chiefs.docket_in x).begun ≡ k)
      chief-is = by (slice_get xs 0) refl begun
        where
          by : (o : Option (Seat (Torn D) (torn b))) → slice_get xs 0 ≡ o → begun_if_up_in o ≡ Some k → (x : Chief (Torn D) (torn b)) × (slice_get xs 0 ≡ Some (seats.Chief x)) × (length (chiefs.docket_in x).begun ≡ k)
          by None e h = none-some k h
          by (Some (seats.Chief x)) e h = (x, e, some-is (length (chiefs.docket_in x).begun) k h)
          by (Some (seats.Book x)) e h = none-some k h
          by (Some (seats.Down disk kept)) e h = none-some k h

      count-is : k ≡ length (docket_of (log_at w 0)).begun
      count-is = sym chief-is.2 ∙ ap (λ l. length (docket_of l).begun) (sym (next-is chief-is.0 chief-is.1))

      move-is : m ≡ next_move (log_at w 0) from source to target amount
      move-is = ap (λ (j : ℕ). record { n = j + 1; from = from; source = source; to = to; target = target; amount = amount }) count-is

      lawful : is_lawful m ≡ true
      lawful = (and_parts _ _ (and_parts _ _ ok.0).0).0

      pub begin-may : (x : Seat (Torn D) (torn b)) → slice_get xs 0 ≡ Some x → MayBegin x (Begins m)
      begin-may x e =
          let is : seats.Chief chief-is.0 ≡ x = some-is (seats.Chief chief-is.0) x (sym chief-is.1 ∙ e) in
          subst (λ y. MayBegin y (Begins m)) is (ap (λ (j : ℕ). j + 1) (sym chief-is.2), lawful)

      pub begin-done : Acts b xs n 0 stop (Begins m) (seats_of new) (network_of new) → Done What
      begin-done acts =
          done What (move-leads b tells_kept (openings_of old) (print_of old) xs n going from source to target amount stop ok m move-is (seats_of new) (network_of new) acts)
          (acted-but b xs (Some 0) 0 refl (seats_of new) n stop (Begins m) (network_of new) acts)

      pub begin-undone : (why : TwoRefused) → FailsToAct b xs n 0 stop (Begins m) (seats_of new) why → Undone What why
      begin-undone why fails =
          undone What why (move-fails b tells_kept (openings_of old) (print_of old) xs n going from source to target amount stop ok m move-is (seats_of new) why fails)
          (unacted-but b xs (Some 0) 0 refl (seats_of new) n stop (Begins m) why fails)

      abbrev past-call : Call
      past-call = Begins (next_move (log_at w 0) from source to target amount)

      abbrev no-room : Bool
      no-room = elim (size_in (file2_of (state_of old) 0)) as (λ z. Bool) [ None ↦ false | Some size ↦ has_no_room2 size (would_add (openings_of old) w (called 0 past-call)) ]

      -- its number would pass the greatest one
      pub begin-past : GREATEST_NUMBER ≤ k → seats_of new ≡ xs → Undone What (refused.LogFull 0)
      begin-past late es = undone What (refused.LogFull 0) (record { refused = λ keeps. (full, refl); failed = tt; of_event = tt; files = λ keeps. ap (map file_in) es }) (unmoved What es)
        where
          later : GREATEST_NUMBER < length (docket_of (log_at w 0)).begun + 1
          later = omega (arith, late, count-is)

          past : is_past_number past-call ≡ true
          past = grind (arith, nat_tests)

          full : is_full2 (openings_of old) (state_of old) What ≡ true
          full = ap (λ s. site_up s && (is_past_number past-call || no-room)) (site-there xs n 0 (seats.Chief chief-is.0) chief-is.1) ∙ ap (λ t. t || no-room) past
