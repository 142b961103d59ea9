-- What it comes to that the log of a component that is down is loaded.
use Rattle.std.specs.Prelude.{◌≡◌, ℕ, true, List, Result, Ok, Err}
use Rattle.ic_base.specs.declared.record.Record.{Record}
use Rattle.def_log.specs.Frame.{fingerprint_in, owner_in, IsForeign}
use Rattle.def_log.specs.Images.{LeavesJust}
use Rattle.def_log.specs.Loads.{placed_log_for}
use Rattle.def_log.specs.Log.{log_of}
use Rattle.ic_disk.specs.Causes.{Rose}
use Rattle.ic_disk.specs.TornDisks.{Torn}
use Rattle.ic_disk.specs.declared.disk.Disk.{Ghosts}
use Rattle.ic_gate.specs.Refusals.{IsNotForeign}
use Rattle.ic_gate.specs.declared.refusals.LoadRefused.{LoadRefused}
use Rattle.ic_gate.specs.declared.refusals.LoadWhy.{LoadWhy}
use Rattle.ic_gate.specs.declared.refusals.LoadWhy.TheVariants.{Bad, Foreign, Failed, Stopped, Memory}
use Rattle.ic_disk.specs.Torns.{file, torn, is_working}
use Rattle.ic_node.specs.declared.done.NodeRefused.{NodeRefused}
use Rattle.ic_node.specs.declared.done.NodeRefused.TheVariants as refused

abbrev pub disk_loaded : {D : Type 0} → Result (D × List Record) (LoadRefused D) → D
disk_loaded (Ok loaded) = loaded.0
disk_loaded (Err refused) = refused.disk

-- why a log isn't loaded, as the refusal of an event
abbrev pub refusal_of : LoadWhy → NodeRefused
refusal_of (Bad place) = refused.Bad place
refusal_of (Foreign kept) = refused.Foreign kept
refusal_of Failed = refused.Failed
refusal_of Stopped = refused.Failed
refusal_of Memory = refused.Memory

-- a crash leaves just what a read gives
abbrev pub Rests : {D : Type 0} → Ghosts D → D → Type 0
Rests d disk = d.keeps disk → LeavesJust (d.may_leave disk) (d.seen disk)

module _ {D : Type 0} (b : Ghosts D) where
  -- these are the records of the component's log that the disk holds, and a crash leaves just that
  pub record IsLoaded (old : Torn D) (given : List ℕ) (owner : ℕ) (loaded : Torn D × List Record) : Type 0 where
    pub read : b.tells old.inner → log_of (file b old) ≡ Ok loaded.1
    pub bytes : b.tells old.inner → file b loaded.0 ≡ file b old
    pub own : b.tells old.inner → fingerprint_in (file b old) ≡ given
    pub owned : b.tells old.inner → owner_in (file b old) ≡ owner
    pub works : is_working (torn b) loaded.0 ≡ true
    pub settled : (torn b).settled loaded.0 ≡ true
    pub durable : Rests (torn b) loaded.0

  abbrev pub fails_to_load : Torn D → List ℕ → ℕ → Torn D → LoadWhy → Type 0
  fails_to_load old given owner new (Bad place) = b.tells old.inner → (placed_log_for owner (file b old) ≡ Err place) × IsNotForeign given (file b old)
  fails_to_load old given owner new (Foreign kept) = b.tells old.inner → IsForeign given (file b old) kept
  fails_to_load old given owner new Failed = Rose (b.faults old.inner) (b.faults new.inner)
  fails_to_load old given owner new Stopped = b.stopped new.inner
  fails_to_load old given owner new Memory = Rests (torn b) new

  -- why it isn't
  abbrev pub FailsToLoad : Torn D → List ℕ → ℕ → LoadRefused (Torn D) → Type 0
  FailsToLoad old given owner refused = fails_to_load old given owner refused.disk refused.why
