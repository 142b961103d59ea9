-- A recovery whose stop lies within its load, or behind it.
use Rattle.std.proofs.Common.{◌≡◌, ◌∙◌, refl, sym, ap, subst, ◌⊎◌, inl, inr, ℕ, ◌+◌, zero, suc, ◌<◌, ◌≤◌, Bool, true, false, cond, List, [], length, Option, Some, None, arith}
use Rattle.std.specs.Prelude.{◌&&◌, nat_le, Result, Ok, Err, IfErr}
use Rattle.std.proofs.lemmas.Bool.Decides.{nat_tests}
use Rattle.ic_base.specs.declared.events.Fill.{Fill}
use Rattle.ic_base.specs.declared.events.Stop.{Stop}
use Rattle.def_log.specs.Frame.{IsForeign}
use Rattle.ic_base.specs.declared.record.Record.{Record}
use Rattle.def_log.specs.Loads.{placed_log_for, placed_tail_for}
use Rattle.def_log.specs.Log.{Placed}
use Rattle.ic_disk.specs.Armings.{set_by}
use Rattle.ic_disk.specs.Causes.{Rose}
use Rattle.ic_disk.specs.Disk.{Keeps, CrashLeaves, Makes}
use Rattle.ic_disk.specs.Stops.{DeviceCall, Obeys, Reaches, BreaksOff, image_at, counted_down}
use Rattle.ic_disk.specs.TornDisks.{Torn, is_reached}
use Rattle.ic_disk.specs.declared.disk.Disk.{Ghosts}
use Rattle.ic_gate.specs.Reading.{load_calls, tail_calls}
use Rattle.ic_gate.specs.Refusals.{IsNotForeign}
use Rattle.ic_gate.specs.declared.refusals.LoadRefused.{LoadRefused}
use Rattle.ic_gate.specs.declared.refusals.LoadWhy.{LoadWhy}
use Rattle.ic_gate.specs.declared.refusals.LoadWhy.TheVariants.{Bad, Foreign, Failed, Stopped, Memory}
use Rattle.ic_gate.specs.RecordLoads.{RefusesRecordsBy}
use Rattle.def_step.specs.World.{is_reached as is_reached_by}
use Rattle.ic_node.specs.ComingUp.{IsBeyondLoad, FailsToLoadTail, fails_to_come_up, is_halt, in_load}
use Rattle.ic_node.specs.Loading.{Rests, fails_to_load, FailsToLoad}
use Rattle.ic_disk.specs.Torns.{or_never, file, torn as torns}
use Rattle.ic_disk.proofs.Armed.{IsArmed, later_on, reached_one, not_stopped, shows, unreached, stopped_below, kept_by, crash_by}
use Rattle.ic_disk.proofs.Disks.{crash_weaker}
use Rattle.ic_node.proofs.Loads.{rests_of}
use Rattle.ic_node.proofs.DeviceCalls.{are_made}
use Rattle.ic_gate.proofs.WriteStops.{held_file}

-- a stop within a load leaves the file as it was
pub load_image : (call : ℕ) (f : List ℕ) (keep : ℕ) (fill : Fill) → 1 ≤ call → call ≤ 3 → image_at call load_calls f [] keep fill ≡ f
load_image zero f keep fill first within = absurd (omega (arith, first))
load_image (suc zero) f keep fill first within = refl
load_image (suc (suc zero)) f keep fill first within = refl
load_image (suc (suc (suc zero))) f keep fill first within = refl
load_image (suc (suc (suc (suc n)))) f keep fill first within = absurd (omega (arith, within))

pub tail_image : (call : ℕ) (f : List ℕ) (keep : ℕ) (fill : Fill) → 1 ≤ call → call ≤ 4 → image_at call tail_calls f [] keep fill ≡ f
tail_image zero f keep fill first within = absurd (omega (arith, first))
tail_image (suc zero) f keep fill first within = refl
tail_image (suc (suc zero)) f keep fill first within = refl
tail_image (suc (suc (suc zero))) f keep fill first within = refl
tail_image (suc (suc (suc (suc zero)))) f keep fill first within = refl
tail_image (suc (suc (suc (suc (suc n))))) f keep fill first within = absurd (omega (arith, within))

-- a load that its stop cut off, and one that it didn't
pub is_both : (hit : Bool) (why : LoadWhy) → (hit && is_halt why) ≡ true → (hit ≡ true) × (why ≡ Stopped)
is_both true Stopped e = (refl, refl)
is_both true (Bad place) e = cc
is_both true (Foreign kept) e = cc
is_both true Failed e = cc
is_both true Memory e = cc
is_both false why e = cc

pub not_both : (hit : Bool) (why : LoadWhy) → (hit && is_halt why) ≡ false → hit ≡ true → why ≡ Stopped → ⊥
not_both true Stopped e h w = cc
not_both true (Bad place) e h w = cc
not_both true (Foreign kept) e h w = cc
not_both true Failed e h w = cc
not_both true Memory e h w = cc
not_both false why e h w = cc

-- a load that is halted didn't fail
pub not_failed : (why : LoadWhy) → why ≡ Stopped → why ≡ Failed → ⊥
not_failed why is e = let clash : Stopped ≡ Failed = sym is ∙ e in cc

-- A load that isn't done, its stop taken off again: its disk is kept; where the stop cut it off, the file stays, else this is why.
pub record IsUnloaded {D : Type 0} (b : Ghosts D) (stop : Stop) (old : Torn D) (given : List ℕ) (owner : ℕ) (off : Torn D) (why : LoadWhy) (hit : Bool) : Type 0 where
  pub disk : Keeps (torns b) old off
  pub crash : CrashLeaves (torns b) old off ((torns b).may_leave old)
  pub calls : off.made ≤ old.made + stop.call
  pub same : (hit && is_halt why) ≡ true → b.tells old.inner → file b off ≡ file b old
  pub refused : (hit && is_halt why) ≡ false → FailsToLoadTail b old given owner (record { disk = off; why = why })

module _ {D : Type 0} (b : Ghosts D) (stop : Stop) (old armed : Torn D) (is : IsArmed b stop old armed) where
  told : b.tells old.inner → b.tells armed.inner
  told h = subst (λ (x : Torn D). b.tells x.inner) (sym is.set) h

  same_file : file b armed ≡ file b old
  same_file = ap (file b) is.set

  -- a load that is done doesn't reach its stop
  pub not_whole : (calls : List DeviceCall) (failed : Type 0) (new : Torn D) → 1 ≤ stop.call → stop.call ≤ length calls → Makes (torns b) calls true failed armed new → ⊥
  not_whole calls failed new first within made =
      let later = later_on b (b.tells armed.inner) failed calls stop old armed new is (file b new) made.stop first in
      omega (arith, later, within)

  -- a stop that doesn't lie within these calls isn't reached by them
  pub beyond_stop : (failed : Type 0) (calls : List DeviceCall) (bytes : List ℕ) (new : Torn D) → (stop.call ≡ 0) ⊎ (length calls < stop.call) → Obeys (b.tells armed.inner) failed calls ((torns b).stop armed) false bytes ((torns b).stop new) → new.stopped ≡ false
  beyond_stop failed calls bytes new beyond obeys = by (obeys.not_done (set_by stop) (shows b stop old armed is) refl refl)
    where
      no : (stop.call ≡ 0) ⊎ (length calls < stop.call) → 1 ≤ stop.call → stop.call ≤ length calls → ⊥
      no (inl none) first within = omega (arith, none, first)
      no (inr past) first within = omega (arith, past, within)

      by : Reaches (b.tells armed.inner) failed calls (set_by stop) ((torns b).stop armed) bytes ((torns b).stop new) ⊎ BreaksOff calls (set_by stop) ((torns b).stop new) → new.stopped ≡ false
      by (inl r) = absurd (no beyond r.first r.within)
      by (inr x) = (unreached new.stopped new.script (counted_down x.made (set_by stop)) x.script refl).0

  module _ (new off : Torn D) (unset : off ≡ record new { script = None }) where
    -- a stop that is reached within a load leaves the file
    cut_by : (calls : List DeviceCall) → (1 ≤ stop.call → stop.call ≤ length calls → image_at stop.call calls (b.seen old.inner) [] stop.keep stop.fill ≡ b.seen old.inner)
        → (failed : Type 0) → (failed → ⊥) → old.held ≡ [] → is_reached new.script ≡ true → Makes (torns b) calls false failed armed new → b.tells old.inner → file b off ≡ file b old
    cut_by calls image failed no_fault none hit made h =
        let one = reached_one b (b.tells armed.inner) failed calls stop old armed new is no_fault hit (file b new) made.stop in
        ap (file b) unset ∙ one.2 (told h)
        ∙ ap (λ ws. image_at stop.call calls (b.seen old.inner) ws stop.keep stop.fill) none
        ∙ image one.0 one.1
        ∙ held_file b old none

    -- why the records aren't loaded by such a reading, where its stop wasn't reached
    load_fails : ((disk : D) → b.keeps disk → b.tells disk) → (records_by : List ℕ → Result (List Placed) ℕ) (IsBadAt : List ℕ → ℕ → Type 0) → ((bytes : List ℕ) (place : ℕ) → records_by bytes ≡ Err place → IsBadAt bytes place)
        → (given : List ℕ) (why : LoadWhy) (hit : Bool) (calls : List DeviceCall) (failed : Type 0) → hit ≡ is_reached new.script → (hit ≡ true → why ≡ Stopped → ⊥) → RefusesRecordsBy (torns b) records_by armed given new why → Keeps (torns b) armed new → Makes (torns b) calls false failed armed new
        → fails_to_come_up b IsBadAt old given off why
    load_fails tells records_by IsBadAt bad given (Bad place) hit calls failed is_hit never refused keeps made =
        λ h. (bad (file b old) place (ap records_by (sym same_file) ∙ refused.place (told h)), subst (λ (l : List ℕ). IsNotForeign given l) same_file (refused.not_foreign (told h)))
    load_fails tells records_by IsBadAt bad given (Foreign kept) hit calls failed is_hit never refused keeps made = λ h. subst (λ (l : List ℕ). IsForeign given l kept) same_file (refused (told h)).0
    load_fails tells records_by IsBadAt bad given Failed hit calls failed is_hit never refused keeps made =
        subst (λ (x : Torn D). Rose (b.faults old.inner) (b.faults x.inner)) (sym unset) (subst (λ (x : Torn D). Rose (b.faults x.inner) (b.faults new.inner)) is.set refused.0)
    load_fails tells records_by IsBadAt bad given Stopped true calls failed is_hit never refused keeps made = absurd (never refl refl)
    load_fails tells records_by IsBadAt bad given Stopped false calls failed is_hit never refused keeps made =
        subst (λ (x : Torn D). b.stopped x.inner) (sym unset) (stopped_below b new (not_stopped b (b.tells armed.inner) failed calls stop old armed new is (file b new) (sym is_hit) made.stop) refused.0)
    load_fails tells records_by IsBadAt bad given Memory hit calls failed is_hit never refused keeps made = subst (Rests (torns b)) (sym unset) (rests_of b stop old armed is tells new keeps refused)

  -- a load that isn't done, before a stop within its device calls
  pub load_ends : ((disk : D) → b.keeps disk → b.tells disk) → (records_by : List ℕ → Result (List Placed) ℕ) (owner : ℕ) → ((bytes : List ℕ) (place : ℕ) → records_by bytes ≡ Err place → (placed_tail_for owner bytes ≡ Err place) ⊎ (placed_log_for owner bytes ≡ Err place))
      → (calls : List DeviceCall) → (1 ≤ stop.call → stop.call ≤ length calls → image_at stop.call calls (b.seen old.inner) [] stop.keep stop.fill ≡ b.seen old.inner) → 1 ≤ stop.call → old.held ≡ []
      → (told_as load : LoadRefused (Torn D)) → told_as ≡ load → (off : Torn D) → off ≡ record told_as.disk { script = None } → (hit : Bool) → hit ≡ is_reached told_as.disk.script
      → (given : List ℕ) (failed : Type 0) → (failed → load.why ≡ Failed) → RefusesRecordsBy (torns b) records_by armed given load.disk load.why → Keeps (torns b) armed load.disk → CrashLeaves (torns b) armed load.disk ((torns b).may_leave armed) → Makes (torns b) calls false failed armed load.disk
      → IsUnloaded b stop old given owner off told_as.why hit
  load_ends tells records_by owner bad calls image first none told_as load is_load off set_off hit reached given failed named refused keeps crash made =
      let unset : off ≡ record load.disk { script = None } = subst (λ (r : LoadRefused (Torn D)). off ≡ record r.disk { script = None }) is_load set_off in
      let is_hit : hit ≡ is_reached load.disk.script = subst (λ (r : LoadRefused (Torn D)). hit ≡ is_reached r.disk.script) is_load reached in
      let ends : IsUnloaded b stop old given owner off load.why hit = record {
        disk = kept_by b old armed load.disk off (Some (set_by stop)) None is.set unset keeps;
        crash = crash_weaker (λ kept image may. subst (λ (x : Torn D). (torns b).may_leave x image) is.set may) (crash_by b old armed load.disk off (Some (set_by stop)) None ((torns b).may_leave armed) is.set unset crash);
        calls = (are_made b stop old armed load.disk off None is.set is.runs unset made).by_stop first;
        same = λ cut. cut_by load.disk off unset calls image failed (λ f. not_failed load.why (is_both hit load.why cut).1 (named f)) none (sym is_hit ∙ (is_both hit load.why cut).0) made;
        refused = λ not. load_fails load.disk off unset tells records_by _ bad given load.why hit calls failed is_hit (not_both hit load.why not) refused keeps made;
      } in
      subst (λ (r : LoadRefused (Torn D)). IsUnloaded b stop old given owner off r.why hit) (sym is_load) ends

-- a load behind the stop that isn't done
pub loads_tail : {D : Type 0} (b : Ghosts D) (old : Torn D) (given : List ℕ) (owner : ℕ) (r : Result (Torn D × List Record) (LoadRefused (Torn D))) → IfErr r (FailsToLoad b old given owner) → IfErr r (FailsToLoadTail b old given owner)
loads_tail b old given owner (Ok loaded) fails = tt
loads_tail b old given owner (Err refused) fails = by refused.why fails
  where
    by : (why : LoadWhy) → fails_to_load b old given owner refused.disk why → FailsToLoadTail b old given owner (record { disk = refused.disk; why = why })
    by (Bad place) bad = λ h. (inr (bad h).0, (bad h).1)
    by (Foreign kept) foreign = foreign
    by Failed rose = rose
    by Stopped below = below
    by Memory rests = rests

-- where a stop lies
pub lies_within : (loads : ℕ) (stop : Option Stop) (s : Stop) → in_load loads stop ≡ Some s → (stop ≡ Some s) × (s.call ≤ loads)
lies_within loads None s is = absurd (cc)
lies_within loads (Some t) s is = by (nat_le t.call loads) refl is
  where
    by : (b : Bool) → nat_le t.call loads ≡ b → cond b (Some t) None ≡ Some s → (◌≡◌ {A = Option Stop} (Some t) (Some s)) × (s.call ≤ loads)
    by true e f = let same : t ≡ s = cc in let low : t.call ≤ loads = grind (arith, nat_tests) in (f, subst (λ (u : Stop). u.call ≤ loads) same low)
    by false e f = absurd (cc)

pub lies_beyond : (loads : ℕ) (stop : Option Stop) → in_load loads stop ≡ None → is_reached_by stop loads ≡ false
lies_beyond loads None is = refl
lies_beyond loads (Some t) is = by (nat_le t.call loads) refl is
  where
    by : (b : Bool) → nat_le t.call loads ≡ b → cond b (Some t) None ≡ None → nat_le t.call loads ≡ false
    by true e f = absurd (cc)
    by false e f = e

pub beyond_is : (loads : ℕ) (stop : Option Stop) → is_reached_by stop loads ≡ false → IsBeyondLoad loads (or_never stop)
beyond_is loads None e = inl refl
beyond_is loads (Some t) e = inr (grind (arith, nat_tests))
