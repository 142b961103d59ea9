-- The log of a component that is down, loaded once while a stop is set that is never reached.
use Rattle.std.proofs.Common.{◌≡◌, ◌∙◌, refl, sym, ap, subst, ℕ, true, false, List, Some}
use Rattle.std.specs.Prelude.{Ok}
use Rattle.ic_base.specs.declared.events.Stop.{Stop}
use Rattle.ic_base.specs.declared.record.Record.{Record}
use Rattle.def_log.specs.Frame.{fingerprint_in, owner_in, IsForeign}
use Rattle.def_log.specs.Images.{LeavesJust}
use Rattle.def_log.specs.Loads.{placed_log_for}
use Rattle.def_log.specs.Log.{Placed, log_of, records_in, ◌>>=◌}
use Rattle.ic_disk.specs.Armings.{set_by}
use Rattle.ic_disk.specs.Causes.{Rose}
use Rattle.ic_disk.specs.Disk.{Keeps, CrashLeaves, Makes}
use Rattle.ic_disk.proofs.Disks.{crash_weaker}
use Rattle.ic_disk.specs.TornDisks.{Torn}
use Rattle.ic_disk.specs.declared.disk.Disk.{Ghosts}
use Rattle.ic_gate.specs.Logs.{disk_of, is_closed}
use Rattle.ic_gate.specs.Reading.{load_calls, IsAtRest}
use Rattle.ic_gate.specs.Refusals.{IsNotForeign}
use Rattle.ic_gate.specs.declared.log.Log.{Log}
use Rattle.ic_gate.specs.declared.refusals.LoadWhy.{LoadWhy}
use Rattle.ic_gate.specs.declared.refusals.LoadWhy.TheVariants.{Bad, Foreign, Failed, Stopped, Memory}
use Rattle.ic_gate.specs.RecordLoads.{LoadsRecords, RefusesRecords}
use Rattle.ic_node.specs.Loading.{IsLoaded, Rests, fails_to_load}
use Rattle.ic_disk.specs.Torns.{file, torn}
use Rattle.ic_disk.proofs.Armed.{IsArmed, works_on, never_reached, kept_by, crash_by, stopped_below}

module _ {D : Type 0} (b : Ghosts D) (never : Stop) (old armed : Torn D) (is : IsArmed b never old armed) where
  told : b.tells old.inner → b.tells armed.inner
  told h = subst (λ (x : Torn D). b.tells x.inner) (sym is.set) h

  same_file : file b armed ≡ file b old
  same_file = ap (file b) is.set

  -- the records of the log that was loaded
  pub loaded_is : (given : List ℕ) (owner : ℕ) (log : Log (Torn D) (torn b)) (placed : List Placed) (kept : List Record) (failed : Type 0) → LoadsRecords (torn b) armed given owner (log, placed) → Makes (torn b) load_calls true failed armed (disk_of log) → kept ≡ records_in placed
      → ((torn b).keeps (disk_of log) → is_closed log ≡ false → LeavesJust ((torn b).may_leave (disk_of log)) (file b (disk_of log))) → (is_closed log ≡ false → (torn b).settled (disk_of log) ≡ true)
      → IsLoaded b old given owner (disk_of log, kept)
  loaded_is given owner log placed kept failed loads made alone durable settled = record {
    read = λ h. ap log_of (sym same_file) ∙ ap (λ r. r >>= λ rs. Ok (records_in rs)) (loads.read (told h)) ∙ ap (λ (l : List Record). Ok l) (sym alone);
    bytes = λ h. loads.bytes (told h) ∙ same_file;
    own = λ h. ap fingerprint_in (sym same_file) ∙ loads.own (told h);
    owned = λ h. ap owner_in (sym same_file) ∙ loads.owner_same (told h);
    works = works_on b (b.tells armed.inner) failed load_calls never old armed (disk_of log) is (file b (disk_of log)) made.stop;
    settled = settled loads.is_open;
    durable = λ keeps. durable keeps loads.is_open;
  }

  -- where nothing was changed, a crash leaves just what a read gives
  pub rests_of : ((disk : D) → b.keeps disk → b.tells disk) → (new : Torn D) → Keeps (torn b) armed new → IsAtRest (torn b) armed new → Rests (torn b) new
  rests_of tells new kept rests keeps = subst (LeavesJust ((torn b).may_leave new)) (sym (rests.bytes (tells armed.inner (kept.keeps.1 keeps)))) (rests.images (kept.keeps.1 keeps))

  -- why it isn't loaded
  pub not_loaded : ((disk : D) → b.keeps disk → b.tells disk) → (given : List ℕ) (owner : ℕ) (new : Torn D) (why : LoadWhy) (failed : Type 0) → never.call ≡ 0 → RefusesRecords (torn b) armed given owner new why → Keeps (torn b) armed new → Makes (torn b) load_calls false failed armed new → fails_to_load b old given owner new why
  not_loaded tells given owner new (Bad place) failed none refused keeps made = λ h. (ap (placed_log_for owner) (sym same_file) ∙ refused.place (told h), subst (λ (l : List ℕ). IsNotForeign given l) same_file (refused.not_foreign (told h)))
  not_loaded tells given owner new (Foreign kept) failed none refused keeps made = λ h. subst (λ (l : List ℕ). IsForeign given l kept) same_file (refused (told h)).0
  not_loaded tells given owner new Failed failed none refused keeps made = subst (λ (x : Torn D). Rose (b.faults x.inner) (b.faults new.inner)) is.set refused.0
  not_loaded tells given owner new Stopped failed none refused keeps made = stopped_below b new (never_reached b (b.tells armed.inner) failed load_calls never old armed new is none (file b new) made.stop) refused.0
  not_loaded tells given owner new Memory failed none refused keeps made = rests_of tells new keeps refused

  -- what is kept of the disk, and what a crash leaves, is the same without the stop
  pub kept_load : (new : Torn D) → Keeps (torn b) armed new → Keeps (torn b) old new
  kept_load new kept = kept_by b old armed new new (Some (set_by never)) new.script is.set refl kept

  pub crash_load : (new : Torn D) → CrashLeaves (torn b) armed new ((torn b).may_leave armed) → CrashLeaves (torn b) old new ((torn b).may_leave old)
  crash_load new left =
      crash_weaker (λ keeps image may. subst (λ (y : Torn D). (torn b).may_leave y image) is.set may)
      (crash_by b old armed new new (Some (set_by never)) new.script ((torn b).may_leave armed) is.set refl left)
