-- What a recovery comes to: its disk is armed, its log loaded, and the stop taken away.
use Rattle.std.proofs.Common.{◌≡◌, ◌∙◌, refl, sym, ap, subst, inl, inr, ℕ, zero, suc, ◌<◌, ◌≤◌, Bool, true, false, List, [], Option, Some, None, arith}
use Rattle.std.specs.Prelude.{◌&&◌, ◌↔◌, Ok}
use Rattle.ic_base.specs.declared.events.Fill.{Fill}
use Rattle.ic_base.specs.declared.events.Stop.{Stop}
use Rattle.def_log.specs.Frame.{fingerprint_in, owner_in, IsForeign}
use Rattle.def_two.specs.declared.moves.Record2.{Record2}
use Rattle.def_two.specs.Logs.{log2_of}
use Rattle.def_two.specs.Moves.{Openings}
use Rattle.def_two.specs.Refusals.{misfit2}
use Rattle.def_two.specs.CoreSteps.{IsLog2}
use Rattle.def_two.specs.World.{Site, is_log}
use Rattle.ic_disk.specs.Armings.{set_by}
use Rattle.ic_disk.specs.Causes.{Rose}
use Rattle.ic_disk.specs.Disk.{Keeps, CrashLeaves, Makes}
use Rattle.ic_disk.specs.Stops.{Script, image_at}
use Rattle.ic_disk.specs.TornDisks as disks
use Rattle.ic_disk.specs.TornDisks.{Torn, shown}
use Rattle.ic_disk.specs.declared.disk.Disk.{Ghosts}
use Rattle.ic_gate.specs.Reading.{load_calls}
use Rattle.ic_gate.specs.Refusals.{IsNotForeign}
use Rattle.ic_gate.specs.declared.refusals.LoadWhy.{LoadWhy}
use Rattle.ic_gate.specs.declared.refusals.LoadWhy.TheVariants as load
use Rattle.ic_two.specs.Loading.{bad_place, RefusesToComeUp}
use Rattle.ic_seat.specs.Recovering.{ComesUp, IsRecovered, IsCutInLoad, Recovers, FailsToLoad, FailsToRecover, is_halt}
use Rattle.ic_seat.specs.Refusing.{load_refusal}
use Rattle.ic_seat.specs.Seats.{site_of, disk_in, is_up, down_log, Stands, HoldsLog}
use Rattle.ic_seat.specs.Serving.{IsAllowed}
use Rattle.ic_seat.specs.Steps.{IsSameSeat}
use Rattle.ic_disk.specs.Torns.{torn, is_waiting, or_never, file, HasFault}
use Rattle.ic_seat.specs.declared.seat.Seat.{Seat}
use Rattle.ic_seat.specs.declared.seat.Seat.TheVariants.{Down}
use Rattle.ic_disk.proofs.Armed.{IsArmed, works_runs, none_held, runs_on, later_on, reached_one, not_stopped, works_armed, stopped_below, kept_by, crash_by}
use Rattle.ic_disk.proofs.Disks.{crash_weaker}
use Rattle.ic_seat.proofs.Served.{crash_as}
use Rattle.ic_seat.proofs.Forced.{allowed, unreached_is, reached_is}
use Rattle.ic_gate.proofs.WriteStops.{held_file}

-- a stop within a load leaves the file as it was
load_image : (call : ℕ) (f : List ℕ) (keep : ℕ) (fill : Fill) → 1 ≤ call → call ≤ 3 → image_at call load_calls f [] keep fill ≡ f
load_image zero f keep fill first within = absurd (omega (arith, first))
load_image (suc zero) f keep fill first within = refl
load_image (suc (suc zero)) f keep fill first within = refl
load_image (suc (suc (suc zero))) f keep fill first within = refl
load_image (suc (suc (suc (suc n)))) f keep fill first within = absurd (omega (arith, within))

-- a load that its stop cut off
pub is_both : (hit : Bool) (why : LoadWhy) → (hit && is_halt why) ≡ true → (hit ≡ true) × (why ≡ load.Stopped)
is_both true load.Stopped e = (refl, refl)
is_both true (load.Bad place) e = absurd (cc)
is_both true (load.Foreign kept) e = absurd (cc)
is_both true load.Failed e = absurd (cc)
is_both true load.Memory e = absurd (cc)
is_both false why e = absurd (cc)

no_fault : (why : LoadWhy) → why ≡ load.Stopped → why ≡ load.Failed → ⊥
no_fault why e f = let clash : load.Stopped ≡ load.Failed = sym e ∙ f in cc

module _ {D : Type 0} (b : Ghosts D) (tells_kept : (x : D) → b.keeps x → b.tells x) (openings : Openings) (c : ℕ) (print : List ℕ) (old : Torn D) (kept : Option (List Record2)) (stop : Option Stop)
    (stands : Stands (torn b) (Down old kept)) (may : IsAllowed stop) (a : Torn D) (set1 : a ≡ record old { script = Some (set_by (or_never stop)) }) where
  armed : IsArmed b (or_never stop) old a
  armed = record { set = set1; runs = works_runs b old stands.works }

  file1 : file b a ≡ file b old
  file1 = ap (file b) set1

  tells1 : b.tells old.inner → b.tells a.inner
  tells1 told = subst (λ (x : Torn D). b.tells x.inner) (sym set1) told

  -- what a crash may leave is a matter of the disk below and of what is held
  nothing_more : (y r : Torn D) (t : Option Script) → CrashLeaves (torn b) a r ((torn b).may_leave a) → y ≡ record r { script = t } → CrashLeaves (torn b) old y ((torn b).may_leave old)
  nothing_more y r t crash set = crash_by b old a r y _ t ((torn b).may_leave old) set1 set (crash_weaker (λ keeps image may. subst (λ x. (torn b).may_leave x image) set1 may) crash)

  -- the log is loaded, and one that is never reached is set behind it
  module _ (failed : Type 0) (s : Seat (Torn D) (torn b)) (up : ComesUp (torn b) openings c a print s) (disk : Keeps (torn b) a (disk_in s)) (made : Makes (torn b) load_calls true failed a (disk_in s))
      (s4 : Seat (Torn D) (torn b)) (set4 : disk_in s4 ≡ record (disk_in s) { script = Some (set_by (or_never None)) }) (site4 : site_of s4 ≡ site_of s) (same4 : IsSameSeat s s4) where
    runs : (disk_in s).stopped ≡ false
    runs = runs_on b (b.tells a.inner) failed load_calls (or_never stop) old a (disk_in s) armed (file b (disk_in s)) made.stop

    later : 1 ≤ (or_never stop).call → 3 < (or_never stop).call
    later = later_on b (b.tells a.inner) failed load_calls (or_never stop) old a (disk_in s) armed (file b (disk_in s)) made.stop

    held : (disk_in s).held ≡ []
    held = none_held (disk_in s).held (b.settled (disk_in s).inner) up.settled

    same : b.tells old.inner → file b (disk_in s4) ≡ file b old
    same told = ap (file b) set4 ∙ up.bytes (tells1 told) ∙ file1

    pub keeps_up : Keeps (torn b) old (disk_in s4)
    keeps_up = kept_by b old a (disk_in s) (disk_in s4) _ _ set1 set4 disk

    pub leaves_up : CrashLeaves (torn b) a (disk_in s) ((torn b).may_leave a) → CrashLeaves (torn b) old (disk_in s4) ((torn b).may_leave old)
    leaves_up crash = nothing_more (disk_in s4) (disk_in s) _ crash set4

    read : b.tells old.inner → log2_of (file b old) ≡ Ok (site_of s4).log
    read told = ap log2_of (sym file1) ∙ up.read (tells1 told) ∙ ap (λ (x : Site). Ok x.log) (sym site4)

    own : b.tells old.inner → fingerprint_in (file b old) ≡ print
    own told = ap fingerprint_in (sym file1) ∙ up.own (tells1 told)

    owned : b.tells old.inner → owner_in (file b old) ≡ c
    owned told = ap owner_in (sym file1) ∙ up.owned (tells1 told)

    recovered : IsRecovered b openings c print (Down old kept) stop s4
    recovered = record {
      was_down = refl;
      unreached = unreached_is stop 3 later (allowed stop may);
      up = ap (λ (x : Site). x.up) site4 ∙ up.up;
      good = ap (λ (x : Site). is_log openings c x.log) site4 ∙ up.good;
      heard = same4.heard ∙ up.heard;
      read = read;
      own = own;
      owned = owned;
      same = same;
    }

    holds : HoldsLog (torn b) print c (Down old kept) → HoldsLog (torn b) print c s4
    holds log keeps4 =
        let told = tells_kept old.inner (keeps_up.keeps.1 keeps4) in
        record { own = ap fingerprint_in (same told) ∙ own told; owned = ap owner_in (same told) ∙ owned told; holds = ap log2_of (same told) ∙ read told }

    pub recovers_up : Recovers b openings c print (Down old kept) stop s4
    recovers_up = record {
      ends = inl recovered;
      stands = record {
        is_open_now = same4.is_open_as ∙ up.stays_open;
        works = works_armed b (or_never None) (disk_in s) (disk_in s4) (record { set = set4; runs = runs });
        rests = ap (λ (x : Torn D). x.held) set4 ∙ held;
      };
      holds = holds;
      seated = λ e. same4.seated openings c up.seated;
    }

  -- it isn't
  module _ (why : LoadWhy) (r : Torn D) (disk : Keeps (torn b) a r) (made : Makes (torn b) load_calls false (why ≡ load.Failed) a r)
      (off : Torn D) (unset : off ≡ record r { script = None }) where
    pub keeps_off : Keeps (torn b) old off
    keeps_off = kept_by b old a r off _ _ set1 unset disk

    pub leaves_off : CrashLeaves (torn b) a r ((torn b).may_leave a) → CrashLeaves (torn b) old off ((torn b).may_leave old)
    leaves_off crash = nothing_more off r _ crash unset

    -- the stop was reached within the load
    module _ (hit : disks.is_reached r.script ≡ true) (is : why ≡ load.Stopped) (lost : off.held ≡ [])
        (on : Torn D) (powered : on ≡ record off { stopped = false; held = []; room = on.room }) (now : Torn D) (set4 : now ≡ record on { script = Some (set_by (or_never None)) }) where
      one : (1 ≤ (or_never stop).call) × ((or_never stop).call ≤ 3) × (b.tells a.inner → file b r ≡ image_at (or_never stop).call load_calls (b.seen old.inner) old.held (or_never stop).keep (or_never stop).fill)
      one = reached_one b (b.tells a.inner) (why ≡ load.Failed) load_calls (or_never stop) old a r armed (no_fault why is) hit (file b r) made.stop

      inner4 : now.inner ≡ r.inner
      inner4 = ap (λ (x : Torn D). x.inner) set4 ∙ ap (λ (x : Torn D). x.inner) powered ∙ ap (λ (x : Torn D). x.inner) unset

      held4 : now.held ≡ []
      held4 = ap (λ (x : Torn D). x.held) set4 ∙ ap (λ (x : Torn D). x.held) powered

      stopped4 : now.stopped ≡ false
      stopped4 = ap (λ (x : Torn D). x.stopped) set4 ∙ ap (λ (x : Torn D). x.stopped) powered

      script4 : now.script ≡ Some (set_by (or_never None))
      script4 = ap (λ (x : Torn D). x.script) set4

      held_r : r.held ≡ []
      held_r = ap (λ (x : Torn D). x.held) (sym unset) ∙ lost

      file4 : file b now ≡ file b r
      file4 = sym (held_file b now held4) ∙ ap b.seen inner4 ∙ held_file b r held_r

      same_cut : b.tells old.inner → file b now ≡ file b old
      same_cut told = file4 ∙ one.2 (tells1 told)
          ∙ ap (λ ws. image_at (or_never stop).call load_calls (b.seen old.inner) ws (or_never stop).keep (or_never stop).fill) stands.rests
          ∙ load_image (or_never stop).call (b.seen old.inner) (or_never stop).keep (or_never stop).fill one.0 one.1
          ∙ held_file b old stands.rests

      log_cut : (k : Option (List Record2)) → b.tells old.inner → down_log k (file b now) ≡ down_log k (file b old)
      log_cut k told = ap (down_log k) (same_cut told)

      pub keeps_cut : Keeps (torn b) old now
      keeps_cut =
          let same : now.inner ≡ off.inner = inner4 ∙ ap (λ (x : Torn D). x.inner) (sym unset) in
          record {
            tells = subst (λ i. b.tells old.inner ↔ b.tells i) (sym same) keeps_off.tells;
            keeps = subst (λ i. b.keeps old.inner ↔ b.keeps i) (sym same) keeps_off.keeps;
            later = subst (λ i. b.faults old.inner ≤ b.faults i) (sym same) keeps_off.later;
          }

      pub leaves_cut : CrashLeaves (torn b) a r ((torn b).may_leave a) → CrashLeaves (torn b) old now ((torn b).may_leave old)
      leaves_cut crash = crash_as b old ((torn b).may_leave old) off now (inner4 ∙ ap (λ (x : Torn D). x.inner) (sym unset)) (held4 ∙ sym lost) (leaves_off crash)

      cut : IsCutInLoad b (Down old kept) stop (Down now kept)
      cut = record {
        was_down = refl;
        reached = reached_is stop 3 one.0 one.1;
        down = refl;
        heard = refl;
        same = same_cut;
        log = log_cut kept;
      }

      pub recovers_cut : Recovers b openings c print (Down old kept) stop (Down now kept)
      recovers_cut = record {
        ends = inr (inl cut);
        stands = record {
          is_open_now = refl;
          works = ap (λ z. is_waiting (shown z now.script)) stopped4 ∙ ap (λ o. is_waiting (shown false o)) script4;
          rests = held4;
        };
        holds = λ log keeps4.
            let keeps = keeps_cut.keeps.1 keeps4 in
            let told = tells_kept old.inner keeps in
            let was : IsLog2 print c (file b old) (down_log kept (file b old)) = log keeps in
            record { own = ap fingerprint_in (same_cut told) ∙ was.own; owned = ap owner_in (same_cut told) ∙ was.owned; holds = ap log2_of (same_cut told) ∙ was.holds ∙ ap (λ l. Ok l) (sym (log_cut kept told)) };
        seated = λ e. e;
      }

    -- it wasn't, or the disk doesn't stand stopped by it
    module _ (hit : Bool) (is_hit : hit ≡ disks.is_reached r.script) (not_cut : (hit && is_halt why) ≡ true → off.stopped ≡ false) where
      halted : why ≡ load.Stopped → (torn b).stopped r → HasFault b old off
      halted is stopped = by hit is_hit refl
        where
          below : r.stopped ≡ false → HasFault b old off
          below clear = inr (subst (λ (x : Torn D). b.stopped x.inner) (sym unset) (stopped_below b r clear stopped))

          by : (h : Bool) → h ≡ disks.is_reached r.script → h ≡ hit → HasFault b old off
          by true e f = below (ap (λ (x : Torn D). x.stopped) (sym unset) ∙ not_cut (ap (λ z. z && is_halt why) (sym f) ∙ ap is_halt is))
          by false e f = below (not_stopped b (b.tells a.inner) (why ≡ load.Failed) load_calls (or_never stop) old a r armed (file b r) (sym e) made.stop)

      -- what a load leaves
      stays : (b.tells a.inner → file b r ≡ file b a) → b.tells old.inner → file b off ≡ file b old
      stays same told = ap (file b) unset ∙ same (tells1 told) ∙ file1

      fails_by : (w : LoadWhy) → why ≡ w → RefusesToComeUp (torn b) (misfit2 openings c) a print c r w → FailsToLoad b openings c print old off (load_refusal w)
      fails_by (load.Bad place) is f = λ told.
          (ap (bad_place (misfit2 openings c) c) (sym file1) ∙ f.place (tells1 told), subst (λ (l : List ℕ). IsNotForeign print l) file1 (f.not_foreign (tells1 told)), stays f.bytes told)
      fails_by (load.Foreign other) is f = λ told. (subst (λ (l : List ℕ). IsForeign print l other) file1 (f (tells1 told)).0, stays (λ t. (f t).1) told)
      fails_by load.Failed is f = inl (subst (λ (x : Torn D). Rose (b.faults old.inner) (b.faults x.inner)) (sym unset) (subst (λ (x : Torn D). Rose (b.faults x.inner) (b.faults r.inner)) set1 f))
      fails_by load.Stopped is f = halted is f
      fails_by load.Memory is f = stays f

      pub fails_up : RefusesToComeUp (torn b) (misfit2 openings c) a print c r why → FailsToRecover b openings c print (Down old kept) (Down off kept) (load_refusal why)
      fails_up f = record { was_down = refl; fails = fails_by why refl f }

-- one that is up already
pub up_already : {D : Type 0} (b : Ghosts D) (openings : Openings) (c : ℕ) (print : List ℕ) (x : Seat (Torn D) (torn b)) (stop : Option Stop) → Stands (torn b) x → is_up x ≡ true → Recovers b openings c print x stop x
up_already b openings c print x stop stands up = record {
  ends = inr (inr (record { was_up = up; same = refl }));
  stands = stands;
  holds = λ h. h;
  seated = λ e. e;
}
