-- Crashes and recoveries, from what they came to at their component.
use Rattle.std.proofs.Common.{◌≡◌, ◌∙◌, refl, sym, ap, subst, ◌⊎◌, inl, inr, ℕ, zero, suc, ◌-◌, ◌<◌, Bool, true, false, cond, not, ◌&&◌, List, [], ◌∷◌, map, Option, Some, None, option_map, arith}
use Rattle.std.specs.Prelude.{slice_get, slice_set, MatchOption, Result, Ok, Err, nat_le, bytes_eq}
use Rattle.std.proofs.lemmas.List.{append-nil}
use Rattle.std.proofs.lemmas.Option.{slice_get-map}
use Rattle.ic_base.specs.declared.events.Stop.{Stop}
use Rattle.ic_base.specs.declared.record.Batch.{Batch}
use Rattle.def_log.specs.Frame.{fingerprint_in, owner_in, frame_of}
use Rattle.def_log.specs.Loads as loads-as
use Rattle.def_log.specs.Loads.{Load, is_well_formed, framed, frame_for, load_of}
use Rattle.def_log.specs.Log.{◌>>=◌}
use Rattle.def_log.specs.Sizes.{size_in}
use Rattle.def_log.specs.Gated.{batch_write}
use Rattle.def_log.specs.Stops.{writes_torn, stop_torn, is_open_at}
use Rattle.def_two.specs.declared.script.Event2.{Event2}
use Rattle.def_two.specs.declared.script.What2.TheVariants as whats
use Rattle.def_two.specs.declared.script.TwoRefused.{TwoRefused}
use Rattle.def_two.specs.declared.script.TwoRefused.TheVariants as refused
use Rattle.def_two.specs.declared.states.Heard.{Heard}
use Rattle.def_two.specs.Chief.{nothing_heard}
use Rattle.def_two.specs.CoreSteps.{SystemState2, file2_of, is_stopped, is_down_at, is_full2, IsLog2, IsTornAt2, IsTornBy2, MeetsDisk2, CoreStep2}
use Rattle.def_two.specs.Logs.{Placed2, placed2_in, placed2_log_of, records2_in, log2_of}
use Rattle.def_two.specs.Moves.{Openings}
use Rattle.def_two.specs.Records.{payload2_of}
use Rattle.def_two.specs.Refusals.{met2, records2_refusal, recovery2_refusal, misfit2}
use Rattle.def_two.specs.Runs.{component_of, IsEvent2}
use Rattle.def_two.specs.World.{World2, Site, DiskOutcome2, site_at, is_reached, with_site, goes_down, heard_without, loads, recovers, crashes, happens2}
use Rattle.ic_disk.specs.Disk.{Keeps}
use Rattle.ic_disk.specs.TornDisks.{Torn}
use Rattle.ic_disk.specs.declared.disk.Disk.{Ghosts}
use Rattle.ic_moves.specs.Networks.{Network}
use Rattle.law_marks.proofs.Owners.{owned}
use Rattle.law_two_run.proofs.Meeting.{read-places, same-bytes}
use Rattle.ic_two.specs.Loading.{place_in, bad_place}
use Rattle.ic_two.proofs.Committed.{size_there}
use Rattle.ic_seat.specs.Recovering.{IsRecovered, IsCutInLoad, IsUpAlready, Recovers, FailsToRecover}
use Rattle.ic_seat.specs.Seats.{site_of, heard_in, disk_in, is_up, IsSeatOf}
use Rattle.ic_disk.specs.Torns.{torn, is_working, file}
use Rattle.ic_seat.specs.declared.call.SeatRefused.{SeatRefused}
use Rattle.ic_seat.specs.declared.call.SeatRefused.TheVariants as own
use Rattle.ic_seat.specs.declared.seat.Seat.{Seat}
use Rattle.ic_seat.specs.declared.seat.Seat.TheVariants as seats
use Rattle.ic_two_world.specs.Acting.{refusal_of, GoesDown}
use Rattle.ic_two_world.specs.Stepping.{Leads}
use Rattle.ic_two_world.specs.Views.{heard_at, world_with, state_with, KeepModel, IsSeated, AreSeated, GoesOn}
use Rattle.ic_two_world.proofs.Lists.{some-is, get-set_same, set-got, map-set, length-set}
use Rattle.ic_two_world.proofs.Calling.{same-world, heard-first, heard-later, heard-of, site-there}
use Rattle.ic_two_world.proofs.Lifting.{file-there, file-other, seated-set, keeps-set, keeps-logs}
use Rattle.ic_two_world.proofs.Events.{Fails, files-stay, no-stop, leads-by}

-- the gate's byte of a log that had this size
abbrev byte-at : Option ℕ → List ℕ → Bool
byte-at None bytes = false
byte-at (Some size) bytes = is_open_at bytes (size - 1)

-- the load of a log of this component of the script
holds-load : (print : List ℕ) (owner : ℕ) (bytes : List ℕ) (bs : List Batch) → fingerprint_in bytes ≡ print → owner_in bytes ≡ owner → frame_of bytes ≡ Ok bs → load_of print owner bytes ≡ loads-as.Holds bs
holds-load print owner bytes bs own number frame =
    ap (λ t. cond t (loads-as.Foreign (fingerprint_in bytes)) (framed (frame_for owner bytes))) (ours (is_well_formed bytes) (bytes_eq (fingerprint_in bytes) print) (ap (λ l. bytes_eq l print) own ∙ same-bytes print))
    ∙ ap framed (owned owner bytes (frame_of bytes) number ∙ frame)
  where
    ours : (a t : Bool) → t ≡ true → a && not t ≡ false
    ours true true e = refl
    ours false true e = refl
    ours a false e = absurd (cc)

clash : {A : Type 0} (t : Bool) → t ≡ true → t ≡ false → A
clash t p q = let unlike : true ≡ false = sym p ∙ q in absurd (cc)

-- what is down heard nothing
down-heard : {D : Type 0} {d : Ghosts D} (x : Seat D d) → is_up x ≡ false → heard_in x ≡ nothing_heard
down-heard (seats.Chief y) e = absurd (cc)
down-heard (seats.Book y) e = absurd (cc)
down-heard (seats.Down disk kept) e = refl

module _ {D : Type 0} (b : Ghosts D) (tells_kept : (x : D) → b.keeps x → b.tells x) (openings : Openings) (print : List ℕ) (xs : List (Seat (Torn D) (torn b))) (n : Network) (going : GoesOn (torn b) openings print xs n)
    (c : ℕ) (x : Seat (Torn D) (torn b)) (at : slice_get xs c ≡ Some x) where
  abbrev w : World2
  w = world_with xs n

  abbrev p : SystemState2
  p = state_with xs n

  site-is : site_at w c ≡ Some (site_of x)
  site-is = site-there xs n c x at

  file-p : file2_of p c ≡ file b (disk_in x)
  file-p = file-there (torn b) xs n c x at

  module _ (y : Seat (Torn D) (torn b)) where
    abbrev ys : List (Seat (Torn D) (torn b))
    ys = slice_set xs c y

    abbrev q : SystemState2
    q = state_with ys n

    file-q : file2_of q c ≡ file b (disk_in y)
    file-q = file-there (torn b) ys n c y (get-set_same xs c x y at)

    heard-set : (h : Heard) → (c ≡ 0 → h ≡ heard_in y) → (0 < c → h ≡ heard_at xs) → h ≡ heard_at ys
    heard-set h zero-one later = by c refl
      where
        by : (k : ℕ) → c ≡ k → h ≡ heard_at ys
        by zero z = zero-one z ∙ sym (heard-first xs x y (ap (slice_get xs) (sym z) ∙ at)) ∙ ap (λ i. heard_at (slice_set xs i y)) (sym z)
        by (suc k) z = later (omega (arith, z)) ∙ sym (heard-later xs k y) ∙ ap (λ i. heard_at (slice_set xs i y)) (sym z)

    without-later : (k : ℕ) → 0 < k → heard_without k (heard_at xs) ≡ heard_at xs
    without-later zero l = absurd (omega (arith, l))
    without-later (suc k) l = refl

    -- nothing is put out, and what it heard is lost with it
    set-world : (s : Site) → s ≡ site_of y → heard_in y ≡ nothing_heard → with_site w c s (heard_without c (heard_at xs)) [] ≡ world_with ys n
    set-world s is none =
        same-world _ _ _ _ _ _ _ _ (ap (slice_set (map site_of xs) c) is ∙ sym (map-set site_of xs c y))
        (heard-set (heard_without c (heard_at xs)) (λ z. ap (λ i. heard_without i (heard_at xs)) z ∙ sym none) (without-later c)) (append-nil n.packets) (append-nil n.waiting)

    -- nothing changes
    same-there : site_of y ≡ site_of x → heard_in y ≡ heard_in x → world_with ys n ≡ w
    same-there s h =
        let sites : map site_of ys ≡ map site_of xs = map-set site_of xs c y ∙ ap (slice_set (map site_of xs) c) s ∙ set-got (map site_of xs) c (site_of x) (slice_get-map site_of xs c ∙ ap (option_map site_of) at) in
        same-world _ _ _ _ _ _ _ _ sites (sym (heard-set (heard_at xs) (λ z. heard-of xs x (ap (slice_get xs) (sym z) ∙ at) ∙ sym h) (λ l. refl))) refl refl

    core-with : (e : Event2) (o : DiskOutcome2) → IsEvent2 openings e → component_of w e.what ≡ Some c → happens2 openings w e o ≡ Some (world_with ys n) → is_full2 openings p e.what ≡ false → AreSeated (torn b) openings print ys → KeepModel ys → MeetsDisk2 openings o p e c q → CoreStep2 openings print p e o q
    core-with e o ok component happens full seated keeps meets = record {
      event = ok;
      happens = happens;
      fits = full;
      disk = λ k s there here. subst (λ i. MeetsDisk2 openings o p e i q) (some-is c k (sym component ∙ there)) meets;
      others = λ k other. file-other (torn b) xs n n c k y (λ same. other (component ∙ ap Some (sym same)));
      logs = keeps-logs (torn b) openings print ys n seated keeps;
    }

  -- a crash -------------------------------------------------------------------------------------

  module _ (stop : Option Stop) (ok : IsEvent2 openings (record { what = whats.Crash c; stop = stop })) (y : Seat (Torn D) (torn b)) (gone : GoesDown b x y) where
    abbrev crash-event : Event2
    crash-event = record { what = whats.Crash c; stop = stop }

    abbrev crash-outcome : DiskOutcome2
    crash-outcome = record { found = (site_of x).log; left = []; is_open = false }

    crash-world : crashes w c (site_at w c) ≡ world_with (slice_set xs c y) n
    crash-world = ap (crashes w c) site-is ∙ by (is_up x) refl
      where
        down-log : Bool → Site
        down-log u = record { up = u; log = (site_of x).log }

        by : (u : Bool) → is_up x ≡ u → cond (is_up x) (goes_down w c (site_of x).log) w ≡ world_with (slice_set xs c y) n
        by true e = ap (λ u. cond u (goes_down w c (site_of x).log) w) e ∙ set-world y (down-log false) (sym gone.site) gone.heard
        by false e = ap (λ u. cond u (goes_down w c (site_of x).log) w) e ∙ sym (same-there y (gone.site ∙ ap down-log (sym e)) (gone.heard ∙ sym (down-heard x e)))

    crash-happens : happens2 openings w crash-event crash-outcome ≡ Some (world_with (slice_set xs c y) n)
    crash-happens = ap Some crash-world

    crash-seat : (z : Seat (Torn D) (torn b)) → is_up z ≡ false → IsSeatOf openings c z
    crash-seat (seats.Chief v) e = absurd (cc)
    crash-seat (seats.Book v) e = absurd (cc)
    crash-seat (seats.Down v k) e = tt

    crash-new : IsSeated (torn b) openings print c y
    crash-new =
        let was = going.seated c x at in
        record {
          stands = record {
            is_open_now = gone.is_open_still;
            works = ap (is_working (torn b)) gone.disk ∙ was.stands.works;
            rests = ap (λ (z : Torn D). z.held) gone.disk ∙ was.stands.rests;
          };
          holds = λ keeps.
              let log = was.holds (subst (λ (z : Torn D). b.keeps z.inner) gone.disk keeps) in
              record { own = ap (λ z. fingerprint_in (file b z)) gone.disk ∙ log.own; owned = ap (λ z. owner_in (file b z)) gone.disk ∙ log.owned; holds = ap (λ z. log2_of (file b z)) gone.disk ∙ log.holds ∙ ap (λ (s : Site). Ok s.log) (sym gone.site) };
          seat = crash-seat y (ap (λ (s : Site). s.up) gone.site);
        }

    crash-seated : AreSeated (torn b) openings print (slice_set xs c y)
    crash-seated = seated-set (torn b) openings print xs c x y at going.seated crash-new

    crash-keeps : KeepModel xs → KeepModel (slice_set xs c y)
    crash-keeps = keeps-set (torn b) xs c x y at (λ k. subst (λ (z : Torn D). b.keeps z.inner) (sym gone.disk) k)

    crash-meets : KeepModel xs → MeetsDisk2 openings crash-outcome p crash-event c (q y)
    crash-meets keeps = record {
      found = ap log2_of file-p ∙ ((going.seated c x at).holds (keeps c x at)).holds;
      torn = λ hit. clash (is_reached stop 0) hit (no-stop stop ok.1);
      same = λ calm kept. file-q y ∙ ap (file b) gone.disk ∙ sym file-p;
    }

    pub crash-leads : Leads b openings print xs n crash-event (slice_set xs c y) n
    crash-leads =
        leads-by b tells_kept openings print xs n going crash-event ok crash-outcome (slice_set xs c y) n crash-happens
        (λ keeps. core-with y crash-event crash-outcome ok refl crash-happens refl crash-seated (crash-keeps keeps) (crash-meets keeps))
        crash-keeps (length-set xs c y) crash-seated going.few going.waits

  -- a recovery ------------------------------------------------------------------------------------

  module _ (stop : Option Stop) (ok : IsEvent2 openings (record { what = whats.Recover c; stop = stop })) where
    abbrev up-event : Event2
    up-event = record { what = whats.Recover c; stop = stop }

    down-at : is_down_at w c ≡ not (is_up x)
    down-at = ap (λ o. elim o as (λ z. Bool) [ None ↦ false | Some s ↦ not s.up ]) site-is

    module _ (y : Seat (Torn D) (torn b)) (up : Recovers b openings c print x stop y) (disk : Keeps (torn b) (disk_in x) (disk_in y)) where
      abbrev up-outcome : DiskOutcome2
      up-outcome = record { found = (site_of y).log; left = (site_of y).log; is_open = byte-at (size_in (file b (disk_in x))) (file b (disk_in y)) }

      abbrev with-up : Bool → Site
      with-up u = record { up = u; log = (site_of y).log }

      up-world : recovers openings w c stop up-outcome (site_at w c) ≡ Some (world_with (slice_set xs c y) n)
      up-world = ap (recovers openings w c stop up-outcome) site-is ∙ by up.ends
        where
          Loads : Option World2
          Loads = loads openings w c (site_of y).log

          Cuts : World2
          Cuts = goes_down w c (site_of y).log

          by : IsRecovered b openings c print x stop y ⊎ (IsCutInLoad b x stop y ⊎ IsUpAlready b x y) → cond (is_up x) (Some w) (cond (is_reached stop 3) (Some Cuts) Loads) ≡ Some (world_with (slice_set xs c y) n)
          by (inl r) =
              ap (λ u. cond u (Some w) (cond (is_reached stop 3) (Some Cuts) Loads)) r.was_down
              ∙ ap (λ t. cond t (Some Cuts) Loads) r.unreached
              ∙ ap (λ t. cond t (Some (with_site w c (with-up true) (heard_without c (heard_at xs)) [])) None) r.good
              ∙ ap Some (set-world y (with-up true) (ap with-up (sym r.up)) r.heard)
          by (inr (inl k)) =
              ap (λ u. cond u (Some w) (cond (is_reached stop 3) (Some Cuts) Loads)) k.was_down
              ∙ ap (λ t. cond t (Some Cuts) Loads) k.reached
              ∙ ap Some (set-world y (with-up false) (ap with-up (sym k.down)) k.heard)
          by (inr (inr a)) =
              ap (λ u. cond u (Some w) (cond (is_reached stop 3) (Some Cuts) Loads)) a.was_up
              ∙ ap Some (sym (same-there y (ap site_of a.same) (ap heard_in a.same)))

      up-seated : AreSeated (torn b) openings print (slice_set xs c y)
      up-seated = let was = going.seated c x at in seated-set (torn b) openings print xs c x y at going.seated (record { stands = up.stands; holds = up.holds was.holds; seat = up.seated was.seat })

      up-keeps : KeepModel xs → KeepModel (slice_set xs c y)
      up-keeps = keeps-set (torn b) xs c x y at (λ k. disk.keeps.0 k)

      module _ (keeps : KeepModel xs) where
        told : b.tells (disk_in x).inner
        told = tells_kept (disk_in x).inner (keeps c x at)

        read-old : log2_of (file b (disk_in x)) ≡ Ok (site_of x).log
        read-old = ((going.seated c x at).holds (keeps c x at)).holds

        read-new : log2_of (file b (disk_in y)) ≡ Ok (site_of y).log
        read-new = (up.holds (going.seated c x at).holds (disk.keeps.0 (keeps c x at))).holds

        not-down : is_up x ≡ true → is_stopped openings w up-event ≡ false
        not-down u = ap (λ t. t && is_reached stop 3) (down-at ∙ ap not u)

        is-cut : is_up x ≡ false → is_reached stop 3 ≡ true → is_stopped openings w up-event ≡ true
        is-cut u r = ap (λ t. t && is_reached stop 3) (down-at ∙ ap not u) ∙ r

        not-cut : is_up x ≡ false → is_reached stop 3 ≡ false → is_stopped openings w up-event ≡ false
        not-cut u r = ap (λ t. t && is_reached stop 3) (down-at ∙ ap not u) ∙ r

        found-log : IsRecovered b openings c print x stop y ⊎ (IsCutInLoad b x stop y ⊎ IsUpAlready b x y) → log2_of (file b (disk_in x)) ≡ Ok (site_of y).log
        found-log (inl r) = r.read told
        found-log (inr (inl k)) = read-old ∙ ap (λ l. Ok l) (sym (k.log told))
        found-log (inr (inr a)) = read-old ∙ ap (λ z. Ok (site_of z).log) (sym a.same)

        cut-by : IsCutInLoad b x stop y → (s : Option Stop) → stop ≡ s → is_reached s 3 ≡ true → IsTornBy2 openings up-outcome p up-event c (q y) s
        cut-by k None e r = clash false r refl
        cut-by k (Some s) e r =
            let z = size_there (file b (disk_in x)) (site_of x).log read-old in
            let size-p : size_in (file2_of p c) ≡ Some z.0 = ap size_in file-p ∙ z.1 in
            let late : nat_le s.call 3 ≡ true = r in
            let image : file2_of (q y) c ≡ stop_torn s 3 (file2_of p c) (batch_write (z.0 - 1) (payload2_of []) ∷ []) =
            file-q y ∙ k.same told ∙ sym file-p ∙ ap (λ t. cond t (file2_of p c) (writes_torn (s.call - 3) s.keep s.fill (file2_of p c) (batch_write (z.0 - 1) (payload2_of []) ∷ []))) (sym late) in
            let gate : up-outcome.is_open ≡ is_open_at (file2_of (q y) c) (z.0 - 1) = ap (λ o. byte-at o (file b (disk_in y))) z.1 ∙ ap (λ f. is_open_at f (z.0 - 1)) (sym (file-q y)) in
            let here : IsTornAt2 up-outcome s 3 (z.0 - 1) [] (file2_of p c) (file2_of (q y) c) = record { image = image; left = ap log2_of (file-q y) ∙ read-new; gate_byte = gate } in
            subst (λ o. MatchOption o ⊥ (λ size. IsTornAt2 up-outcome s 3 (size - 1) [] (file2_of p c) (file2_of (q y) c))) (sym size-p) here

        up-meets : IsRecovered b openings c print x stop y ⊎ (IsCutInLoad b x stop y ⊎ IsUpAlready b x y) → MeetsDisk2 openings up-outcome p up-event c (q y)
        up-meets (inl r) = record {
          found = ap log2_of file-p ∙ found-log (inl r);
          torn = λ hit. clash (is_stopped openings w up-event) hit (not-cut r.was_down r.unreached);
          same = λ calm kept. file-q y ∙ r.same told ∙ sym file-p;
        }
        up-meets (inr (inl k)) = record {
          found = ap log2_of file-p ∙ found-log (inr (inl k));
          torn = λ hit. cut-by k stop refl k.reached;
          same = λ calm kept. clash (is_stopped openings w up-event) (is-cut k.was_down k.reached) calm;
        }
        up-meets (inr (inr a)) = record {
          found = ap log2_of file-p ∙ found-log (inr (inr a));
          torn = λ hit. clash (is_stopped openings w up-event) hit (not-down a.was_up);
          same = λ calm kept. file-q y ∙ ap (λ z. file b (disk_in z)) a.same ∙ sym file-p;
        }

      pub up-leads : Leads b openings print xs n up-event (slice_set xs c y) n
      up-leads =
          leads-by b tells_kept openings print xs n going up-event ok up-outcome (slice_set xs c y) n up-world
          (λ keeps. core-with y up-event up-outcome ok refl up-world refl up-seated (up-keeps keeps) (up-meets keeps up.ends))
          up-keeps (length-set xs c y) up-seated going.few going.waits

    -- a log that stands on the disk is refused for a misfit alone
    misfit-met : (keeps : KeepModel xs) (place : ℕ) → is_up x ≡ false → bad_place (misfit2 openings c) c (file b (disk_in x)) ≡ Some place → met2 openings print p up-event ≡ Some (refused.Bad c place)
    misfit-met keeps place down bad =
        ap (λ t. cond t (recovery2_refusal openings print c (file2_of p c)) None) (down-at ∙ ap not down)
        ∙ ap (recovery2_refusal openings print c) file-p
        ∙ ap answer (holds-load print c f z.0 log.own log.owned z.1)
        ∙ by (placed2_log_of f) (ap (λ r. place_in (misfit2 openings c) (r >>= placed2_in)) (sym (owned c f (frame_of f) log.owned)) ∙ bad)
      where
        f : List ℕ
        f = file b (disk_in x)

        log : IsLog2 print c f (site_of x).log
        log = (going.seated c x at).holds (keeps c x at)

        z : (bs : List Batch) × (frame_of f ≡ Ok bs) × ((rs : List Placed2) × (placed2_log_of f ≡ Ok rs) × (records2_in rs ≡ (site_of x).log))
        z = read-places f (site_of x).log log.holds

        answer : Load → Option TwoRefused
        answer l = elim l [
          | loads-as.Holds batches ↦ records2_refusal openings c f
          | loads-as.Foreign kept ↦ Some (refused.Foreign c kept)
          | loads-as.Bad at ↦ Some (refused.Bad c at)
        ]

        by : (r : Result (List Placed2) ℕ) → place_in (misfit2 openings c) r ≡ Some place → elim r as (λ q. Option TwoRefused) [ Ok rs ↦ option_map (refused.Bad c) (misfit2 openings c rs) | Err at ↦ Some (refused.Bad c at) ] ≡ Some (refused.Bad c place)
        by (Ok rs) e = ap (option_map (refused.Bad c)) e
        by (Err at) e = ap (λ k. Some (refused.Bad c k)) (some-is at place e)

    pub not-up : (ys' : List (Seat (Torn D) (torn b))) (y : Seat (Torn D) (torn b)) (why : SeatRefused) → ys' ≡ slice_set xs c y → FailsToRecover b openings c print x y why → Fails b openings print xs n up-event ys' (refusal_of c why)
    not-up ys' y own.Full set f = absurd f.fails
    not-up ys' y (own.Bad place) set f = record {
      refused = λ keeps. misfit-met keeps place f.was_down (f.fails (tells_kept (disk_in x).inner (keeps c x at))).0;
      failed = tt;
      of_event = tt;
      files = λ keeps. files-stay b xs ys' c x y at set (f.fails (tells_kept (disk_in x).inner (keeps c x at))).2;
    }
    not-up ys' y (own.Foreign kept) set f = record {
      refused = λ keeps.
          let other = (f.fails (tells_kept (disk_in x).inner (keeps c x at))).0 in
          absurd (other.2 (other.1 ∙ ((going.seated c x at).holds (keeps c x at)).own));
      failed = tt;
      of_event = tt;
      files = λ keeps. files-stay b xs ys' c x y at set (f.fails (tells_kept (disk_in x).inner (keeps c x at))).1;
    }
    not-up ys' y own.Failed set f = record { refused = λ keeps. tt; failed = (x, y, at, ap (λ l. slice_get l c) set ∙ get-set_same xs c x y at, f.fails); of_event = refl; files = λ keeps. tt }
    not-up ys' y own.Memory set f = record { refused = λ keeps. tt; failed = tt; of_event = tt; files = λ keeps. inl (files-stay b xs ys' c x y at set (f.fails (tells_kept (disk_in x).inner (keeps c x at)))) }
