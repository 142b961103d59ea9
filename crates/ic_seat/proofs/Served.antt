-- What a call comes to at a component on whose disk a stop is set for it alone: armed, called, and disarmed.
use Rattle.std.proofs.Common.{◌≡◌, ◌∙◌, refl, sym, ap, subst, ◌⊎◌, inl, inr, ℕ, ◌-◌, ◌<◌, ◌≤◌, Bool, true, false, List, [], ◌∷◌, ◌++◌, length, Option, Some, None}
use Rattle.std.specs.Prelude.{◌↔◌, Result, Ok, Err}
use Rattle.ic_base.specs.declared.events.Stop.{Stop}
use Rattle.def_log.specs.Changes.{IsOfSame}
use Rattle.def_log.specs.Frame.{fingerprint_in, owner_in}
use Rattle.def_log.specs.Sizes.{size_in}
use Rattle.def_log.specs.Gated.{batch_write}
use Rattle.def_log.specs.Stops.{stop_torn}
use Rattle.def_log.specs.Torn.{Write, all_written}
use Rattle.def_two.specs.declared.moves.Packet2.{Packet2}
use Rattle.def_two.specs.declared.moves.Record2.{Record2}
use Rattle.def_two.specs.Chief.{Call, Step}
use Rattle.def_two.specs.Logs.{log2_of}
use Rattle.def_two.specs.Moves.{Openings}
use Rattle.def_two.specs.Records.{payload2_of}
use Rattle.def_two.specs.World.{Site, device_calls, is_reached}
use Rattle.ic_disk.specs.Armings.{set_by}
use Rattle.ic_disk.specs.Causes.{Rose}
use Rattle.ic_disk.specs.Disk.{Keeps, CrashLeaves}
use Rattle.ic_disk.specs.Stops.{Script, DeviceCall, synced_after, waiting_after, image_at}
use Rattle.ic_disk.specs.TornDisks as disks
use Rattle.ic_disk.specs.TornDisks.{Torn, shown}
use Rattle.ic_disk.specs.declared.disk.Disk.{Ghosts}
use Rattle.ic_disk.proofs.Disks.{crash_weaker}
use Rattle.ic_gate.specs.Calls.{gated_calls, force_writes}
use Rattle.ic_gate.proofs.WriteStops.{force_leaves_image}
use Rattle.ic_gate.specs.declared.refusals.StepRefused.{StepRefused}
use Rattle.ic_gate.specs.declared.refusals.StepRefused.TheVariants as step
use Rattle.ic_two.specs.Standing.{read_or_none}
use Rattle.ic_seat.specs.Refusing.{step_refusal}
use Rattle.ic_seat.specs.Seats.{site_of, heard_in, disk_in, is_open, is_up, step_in, is_full, IsSeatOf, Stands, HoldsLog}
use Rattle.ic_seat.specs.Serving.{IsAllowed, IsSized, FullIs, IsDone, IsCut, LiesDown, Serves, KeepsFile, FailsToServe}
use Rattle.ic_seat.specs.Steps.{IsBeforeOrServed, IsStep, StepsOver, IsSameSeat}
use Rattle.ic_disk.specs.Torns.{torn, is_waiting, is_working, or_never, file, HasFault}
use Rattle.ic_seat.specs.declared.call.SeatRefused.{SeatRefused}
use Rattle.ic_seat.specs.declared.call.SeatRefused.TheVariants as refused
use Rattle.ic_seat.specs.declared.seat.Seat.{Seat}
use Rattle.ic_disk.proofs.Armed.{IsArmed, works_runs, none_held, runs_on, reads_on, later_on, reached_one, not_stopped, works_armed, stopped_below, kept_by, crash_by}
use Rattle.ic_seat.proofs.Forced.{counted, allowed, unreached_is, reached_is, stop_is}

-- what a crash leaves is a matter of the disk below and of what is held
module _ {D : Type 0} (b : Ghosts D) (x : Torn D) (P : List ℕ → Type 0) where
  leaves_as : (r y : Torn D) → CrashLeaves (torn b) x r P → CrashLeaves (torn b) x (record y { inner = r.inner; held = r.held }) P
  leaves_as r y c = record {
    any_moment = λ keeps. let l = c.any_moment keeps in record { later = l.later; each = l.each; earlier = l.earlier };
    behind = c.behind;
  }

  pub crash_as : (r y : Torn D) → y.inner ≡ r.inner → y.held ≡ r.held → CrashLeaves (torn b) x r P → CrashLeaves (torn b) x y P
  crash_as r y same held c =
      let I : D → Type 0 = λ i. CrashLeaves (torn b) x (record y { inner = i; held = r.held }) P in
      let H : List Write → Type 0 = λ h. CrashLeaves (torn b) x (record y { held = h }) P in
      subst H (sym held) (subst I (sym same) (leaves_as r y c))

abbrev up_with : List Record2 → Site
up_with l = record { up = true; log = l }

read_so : (r : Result (List Record2) ℕ) (l : List Record2) → r ≡ Ok l → r ≡ Ok (read_or_none r)
read_so r l e = e ∙ ap (λ z. Ok (read_or_none z)) (sym e)

read_either : (r : Result (List Record2) ℕ) (k l : List Record2) → (r ≡ Ok k) ⊎ (r ≡ Ok l) → r ≡ Ok (read_or_none r)
read_either r k l (inl e) = read_so r k e
read_either r k l (inr e) = read_so r l e

module _ {D : Type 0} (b : Ghosts D) (tells_kept : (x : D) → b.keeps x → b.tells x) (old : Seat (Torn D) (torn b)) (stop : Option Stop) (call : Call)
    (stands : Stands (torn b) old) (up : is_up old ≡ true) (may : IsAllowed stop)
    (s1 : Seat (Torn D) (torn b)) (set1 : disk_in s1 ≡ record (disk_in old) { script = Some (set_by (or_never stop)) }) (site1 : site_of s1 ≡ site_of old) (same1 : IsSameSeat old s1)
    (s2 : Seat (Torn D) (torn b)) where
  abbrev Adds : List Record2
  Adds = (step_in old call).adds

  adds1 : (step_in s1 call).adds ≡ Adds
  adds1 = ap (λ (s : Step). s.adds) (same1.steps call)

  armed : IsArmed b (or_never stop) (disk_in old) (disk_in s1)
  armed = record { set = set1; runs = works_runs b (disk_in old) stands.works }

  file1 : file b (disk_in s1) ≡ file b (disk_in old)
  file1 = ap (file b) set1

  tells1 : b.tells (disk_in old).inner → b.tells (disk_in s1).inner
  tells1 told = subst (λ (x : Torn D). b.tells x.inner) (sym set1) told

  module _ (result : Result (List Packet2) StepRefused) (made : StepsOver s1 call s2 result) where
    room : (is : Bool) → is_full made.size s1 call ≡ is → FullIs b is old call
    room is e told size found =
        let same : made.size ≡ size = let one = made.sized (tells1 told) in let two = ap size_in file1 in cc in
        ap (λ n. is_full n old call) (sym same) ∙ sym (same1.full made.size call) ∙ e

    sized : IsSized b old
    sized told = (made.size, ap size_in (sym file1) ∙ made.sized (tells1 told))

    -- the disk behind the call, whatever its stop then is
    kept : (r : Torn D) (t : Option Script) → r ≡ record (disk_in s2) { script = t } → Keeps (torn b) (disk_in old) r
    kept r t e = kept_by b (disk_in old) (disk_in s1) (disk_in s2) r _ t set1 e made.disk

    before : (image : List ℕ) → IsBeforeOrServed s1 call image → IsBeforeOrServed old call image
    before image (f, inl e) = (subst (λ l. IsOfSame l image) file1 f, inl (e ∙ ap (λ (s : Site). Ok s.log) site1))
    before image (f, inr e) = (subst (λ l. IsOfSame l image) file1 f, inr (e ∙ ap (λ (s : Site). Ok (s.log ++ (step_in s1 call).adds)) site1 ∙ ap (λ l. Ok ((site_of old).log ++ l)) adds1))

    left : (r : Torn D) (t : Option Script) → r ≡ record (disk_in s2) { script = t } → CrashLeaves (torn b) (disk_in old) r (IsBeforeOrServed old call)
    left r t e = crash_by b (disk_in old) (disk_in s1) (disk_in s2) r _ t (IsBeforeOrServed old call) set1 e (crash_weaker (λ keeps image. before image) made.crash)

  -- its stop isn't reached, and one that is never reached is set behind it
  module _ (puts : List Packet2) (made : StepsOver s1 call s2 (Ok puts)) (s4 : Seat (Torn D) (torn b)) (set4 : disk_in s4 ≡ record (disk_in s2) { script = Some (set_by (or_never None)) })
      (site4 : site_of s4 ≡ site_of s2) (heard4 : heard_in s4 ≡ heard_in s2) (open4 : is_open s4 ≡ is_open s2) (seated4 : (openings : Openings) (c : ℕ) → IsSeatOf openings c s2 → IsSeatOf openings c s4) where
    is : IsStep made.size s1 call s2 puts
    is = made.step

    runs : (disk_in s2).stopped ≡ false
    runs = runs_on b (b.tells (disk_in s1).inner) _ (gated_calls (force_writes made.size (payload2_of (step_in s1 call).adds))) (or_never stop) (disk_in old) (disk_in s1) (disk_in s2) armed (file b (disk_in s2)) made.calls.stop

    later : 1 ≤ (or_never stop).call → length (gated_calls (force_writes made.size (payload2_of (step_in s1 call).adds))) < (or_never stop).call
    later = later_on b (b.tells (disk_in s1).inner) _ (gated_calls (force_writes made.size (payload2_of (step_in s1 call).adds))) (or_never stop) (disk_in old) (disk_in s1) (disk_in s2) armed (file b (disk_in s2)) made.calls.stop

    count : length (gated_calls (force_writes made.size (payload2_of (step_in s1 call).adds))) ≡ device_calls Adds
    count = counted made.size (step_in s1 call).adds ∙ ap device_calls adds1

    file4 : file b (disk_in s4) ≡ file b (disk_in s2)
    file4 = ap (file b) set4

    held2 : (disk_in s2).held ≡ []
    held2 = none_held (disk_in s2).held (b.settled (disk_in s2).inner) is.settled

    done : IsDone b old stop call s4 puts
    done = record {
      was_up = up;
      unreached = ap (is_reached stop) (sym count) ∙ unreached_is stop (length (gated_calls (force_writes made.size (payload2_of (step_in s1 call).adds)))) later (allowed stop may);
      site = site4 ∙ is.site ∙ ap (λ (s : Site). up_with (s.log ++ (step_in s1 call).adds)) site1 ∙ ap (λ l. up_with ((site_of old).log ++ l)) adds1;
      heard = heard4 ∙ is.heard ∙ ap (λ (s : Step). s.heard) (same1.steps call);
      puts_out = is.puts_out ∙ ap (λ (s : Step). s.puts) (same1.steps call);
      sized = sized (Ok puts) made;
      room = room (Ok puts) made false is.room;
      same = λ told none. file4
          ∙ reads_on b (b.tells (disk_in s1).inner) _ (gated_calls (force_writes made.size (payload2_of (step_in s1 call).adds))) (or_never stop) (disk_in old) (disk_in s1) (disk_in s2) armed (file b (disk_in s2)) tells1 made.calls.stop told
          ∙ ap (λ (rs : List Record2). let cs = gated_calls (force_writes made.size (payload2_of rs)) in all_written (synced_after cs (b.seen (disk_in old).inner) (disk_in old).held) (waiting_after cs (disk_in old).held)) (adds1 ∙ none);
    }

    holds : (print : List ℕ) (c : ℕ) → HoldsLog (torn b) print c old → HoldsLog (torn b) print c s4
    holds print c held keeps4 =
        let keeps = (kept (Ok puts) made (disk_in s4) (Some (set_by (or_never None))) set4).keeps.1 keeps4 in
        let told = tells_kept (disk_in old).inner keeps in
        record {
          own = ap fingerprint_in file4 ∙ (is.whose (tells1 told)).fingerprint ∙ ap fingerprint_in file1 ∙ (held keeps).own;
          owned = ap owner_in file4 ∙ (is.whose (tells1 told)).owner ∙ ap owner_in file1 ∙ (held keeps).owned;
          holds = ap log2_of file4 ∙ is.log (tells1 told) ∙ ap (λ (s : Site). Ok s.log) (sym site4);
        }

    pub serves_done : Serves b old stop call s4 puts
    serves_done = record {
      ends = inl done;
      stands = record {
        is_open_now = open4 ∙ is.stays_open;
        works = works_armed b (or_never None) (disk_in s2) (disk_in s4) (record { set = set4; runs = runs });
        rests = ap (λ (x : Torn D). x.held) set4 ∙ held2;
      };
      holds = holds;
      seated = λ openings c e. seated4 openings c (is.seated openings c (same1.seated openings c e));
    }

    pub keeps_done : Keeps (torn b) (disk_in old) (disk_in s4)
    keeps_done = kept (Ok puts) made (disk_in s4) (Some (set_by (or_never None))) set4

    pub leaves_done : CrashLeaves (torn b) (disk_in old) (disk_in s4) (IsBeforeOrServed old call)
    leaves_done = left (Ok puts) made (disk_in s4) (Some (set_by (or_never None))) set4

  -- it isn't made: s3 is what is left of it
  module _ (why : StepRefused) (made : StepsOver s1 call s2 (Err why)) (s3 : Seat (Torn D) (torn b)) (set3 : disk_in s3 ≡ record (disk_in s2) { script = None }) where
    pub keeps_refused : Keeps (torn b) (disk_in old) (disk_in s3)
    keeps_refused = kept (Err why) made (disk_in s3) None set3

    pub leaves_refused : CrashLeaves (torn b) (disk_in old) (disk_in s3) (IsBeforeOrServed old call)
    leaves_refused = left (Err why) made (disk_in s3) None set3

  module _ (s3 : Seat (Torn D) (torn b)) (set3 : disk_in s3 ≡ record (disk_in s2) { script = None }) where
    rose : Rose (b.faults (disk_in s1).inner) (b.faults (disk_in s2).inner) → HasFault b (disk_in old) (disk_in s3)
    rose e = inl (subst (λ (x : Torn D). Rose (b.faults (disk_in old).inner) (b.faults x.inner)) (sym set3) (subst (λ (x : Torn D). Rose (b.faults x.inner) (b.faults (disk_in s2).inner)) set1 e))

    stops_below : b.stopped (disk_in s2).inner → HasFault b (disk_in old) (disk_in s3)
    stops_below e = inr (subst (λ (x : Torn D). b.stopped x.inner) (sym set3) e)

    stays : (b.tells (disk_in s1).inner → file b (disk_in s2) ≡ file b (disk_in s1)) → KeepsFile b old s3
    stays same told = ap (file b) set3 ∙ same (tells1 told) ∙ file1

    pub refused_so : (why : StepRefused) (hit : Bool) → hit ≡ disks.is_reached (disk_in s2).script → StepsOver s1 call s2 (Err why) → (r : SeatRefused) → step_refusal why hit ≡ Some r → FailsToServe b old call s3 r
    refused_so step.Full hit is made r e = let same : refused.Full ≡ r = cc in subst (FailsToServe b old call s3) same (up, sized (Err step.Full) made, room (Err step.Full) made true made.refused.0, stays made.refused.1)
    refused_so step.Memory hit is made r e = let same : refused.Memory ≡ r = cc in subst (FailsToServe b old call s3) same (stays made.refused)
    refused_so step.Failed hit is made r e = let same : refused.Failed ≡ r = cc in subst (FailsToServe b old call s3) same (rose made.refused)
    refused_so step.Stopped true is made r e = absurd (cc)
    refused_so step.Stopped false is made r e =
        let same : refused.Failed ≡ r = cc in
        let clear = not_stopped b (b.tells (disk_in s1).inner) _ (gated_calls (force_writes made.size (payload2_of (step_in s1 call).adds))) (or_never stop) (disk_in old) (disk_in s1) (disk_in s2) armed (file b (disk_in s2)) (sym is) made.calls.stop in
        subst (FailsToServe b old call s3) same (stops_below (stopped_below b (disk_in s2) clear made.refused.0))

    -- the step was cut off, but its disk doesn't stand stopped by the stop
    pub below_so : (why : StepRefused) → step_refusal why true ≡ None → (disk_in s3).stopped ≡ false → StepsOver s1 call s2 (Err why) → HasFault b (disk_in old) (disk_in s3)
    below_so step.Full e clear made = absurd (cc)
    below_so step.Memory e clear made = absurd (cc)
    below_so step.Failed e clear made = absurd (cc)
    below_so step.Stopped e clear made = stops_below (stopped_below b (disk_in s2) (ap (λ (x : Torn D). x.stopped) (sym set3) ∙ clear) made.refused.0)

  -- its stop cut it off
  module _ (made : StepsOver s1 call s2 (Err step.Stopped)) (hit : disks.is_reached (disk_in s2).script ≡ true) (s3 : Seat (Torn D) (torn b)) (set3 : disk_in s3 ≡ record (disk_in s2) { script = None })
      (lost : (disk_in s3).held ≡ []) (s4 : Seat (Torn D) (torn b)) (lies : LiesDown b s3 s4) where
    abbrev Calls : List DeviceCall
    Calls = gated_calls (force_writes made.size (payload2_of (step_in s1 call).adds))

    one : (1 ≤ (or_never stop).call) × ((or_never stop).call ≤ length Calls) × (b.tells (disk_in s1).inner → file b (disk_in s2) ≡ image_at (or_never stop).call Calls (b.seen (disk_in old).inner) (disk_in old).held (or_never stop).keep (or_never stop).fill)
    one = reached_one b (b.tells (disk_in s1).inner) _ Calls (or_never stop) (disk_in old) (disk_in s1) (disk_in s2) armed (λ e. cc) hit (file b (disk_in s2)) made.calls.stop

    lost2 : (disk_in s2).held ≡ []
    lost2 = ap (λ (x : Torn D). x.held) (sym set3) ∙ lost

    inner4 : (disk_in s4).inner ≡ (disk_in s2).inner
    inner4 = ap (λ (s : Seat (Torn D) (torn b)). (disk_in s).inner) lies.is ∙ lies.inner ∙ ap (λ (x : Torn D). x.inner) set3

    lost4 : (disk_in s4).held ≡ (disk_in s2).held
    lost4 = ap (λ (s : Seat (Torn D) (torn b)). (disk_in s).held) lies.is ∙ lies.held ∙ sym lost2

    file_cut : file b (disk_in s4) ≡ file b (disk_in s2)
    file_cut = ap (λ i. all_written (b.seen i) (disk_in s4).held) inner4 ∙ ap (all_written (b.seen (disk_in s2).inner)) lost4

    calls_count : length Calls ≡ device_calls Adds
    calls_count = counted made.size (step_in s1 call).adds ∙ ap device_calls adds1

    site : site_of s4 ≡ record { up = false; log = read_or_none (log2_of (file b (disk_in s4))) }
    site =
        let down : List ℕ → Site = λ f. record { up = false; log = read_or_none (log2_of f) } in
        ap site_of lies.is ∙ ap (λ (s : Seat (Torn D) (torn b)). down (file b (disk_in s))) (sym lies.is)

    keeps4 : Keeps (torn b) (disk_in old) (disk_in s4)
    keeps4 =
        let k = kept (Err step.Stopped) made (disk_in s3) None set3 in
        let same : (disk_in s4).inner ≡ (disk_in s3).inner = inner4 ∙ ap (λ (x : Torn D). x.inner) (sym set3) in
        record {
          tells = subst (λ i. b.tells (disk_in old).inner ↔ b.tells i) (sym same) k.tells;
          keeps = subst (λ i. b.keeps (disk_in old).inner ↔ b.keeps i) (sym same) k.keeps;
          later = subst (λ i. b.faults (disk_in old).inner ≤ b.faults i) (sym same) k.later;
        }

    behind : b.keeps (disk_in old).inner → IsBeforeOrServed old call (file b (disk_in s4))
    behind keeps =
        subst (IsBeforeOrServed old call) (sym file_cut) (before (Err step.Stopped) made (file b (disk_in s2)) (made.crash.behind (subst (λ (x : Torn D). b.keeps x.inner) (sym set1) keeps) (file b (disk_in s2)) (inl refl)))

    cut : IsCut b old stop call s4 []
    cut = record {
      was_up = up;
      at = or_never stop;
      is_stop = stop_is stop one.0;
      reached = ap (is_reached stop) (sym calls_count) ∙ reached_is stop (length Calls) one.0 one.1;
      site = site;
      heard = ap heard_in lies.is;
      puts_out = refl;
      sized = sized (Err step.Stopped) made;
      room = room (Err step.Stopped) made false made.refused.1;
      image = λ told size found.
          let same : made.size ≡ size = let e = made.sized (tells1 told) in let f = ap size_in file1 in cc in
          file_cut ∙ force_leaves_image b made.size (or_never stop) (disk_in old) (disk_in s2) (payload2_of (step_in s1 call).adds) stands.rests one.0 one.1 (one.2 (tells1 told))
          ∙ ap (λ n. stop_torn (or_never stop) 0 (file b (disk_in old)) (batch_write (n - 1) (payload2_of (step_in s1 call).adds) ∷ [])) same
          ∙ ap (λ (rs : List Record2). stop_torn (or_never stop) 0 (file b (disk_in old)) (batch_write (size - 1) (payload2_of rs) ∷ [])) adds1;
    }

    pub serves_cut : Serves b old stop call s4 []
    serves_cut = record {
      ends = inr (inl cut);
      stands = record {
        is_open_now = ap is_open lies.is;
        works =
            ap (λ (s : Seat (Torn D) (torn b)). is_working (torn b) (disk_in s)) lies.is
            ∙ ap (λ z. is_waiting (shown z lies.disk.script)) lies.runs ∙ ap (λ o. is_waiting (shown false o)) lies.script;
        rests = lost4 ∙ lost2;
      };
      holds = λ print c held keeps.
          let was = keeps4.keeps.1 keeps in
          let left = behind was in
          record {
            own = left.0.fingerprint ∙ (held was).own;
            owned = left.0.owner ∙ (held was).owned;
            holds = read_either (log2_of (file b (disk_in s4))) _ _ left.1 ∙ ap (λ (s : Site). Ok s.log) (sym site);
          };
      seated = λ openings c e. subst (IsSeatOf openings c) (sym lies.is) tt;
    }

    pub keeps_cut : Keeps (torn b) (disk_in old) (disk_in s4)
    keeps_cut = keeps4

    pub leaves_cut : CrashLeaves (torn b) (disk_in old) (disk_in s4) (IsBeforeOrServed old call)
    leaves_cut = crash_as b (disk_in old) (IsBeforeOrServed old call) (disk_in s3) (disk_in s4) (inner4 ∙ ap (λ (x : Torn D). x.inner) (sym set3)) (lost4 ∙ ap (λ (x : Torn D). x.held) (sym set3)) (left (Err step.Stopped) made (disk_in s3) None set3)
