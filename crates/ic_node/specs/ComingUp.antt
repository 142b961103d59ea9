-- What a recovery comes to over the disk of a component that is down, whose stop doesn't lie within the load.
use Rattle.std.specs.Prelude.{◌≡◌, ◌⊎◌, ◌<◌, ℕ, ◌+◌, ◌-◌, true, false, List, [], length, take, Bool, cond, nat_le, Option, Some, None, Result, Ok, Err}
use Rattle.ic_base.specs.declared.events.Stop.{Stop}
use Rattle.ic_base.specs.declared.messages.ComId.{ComId}
use Rattle.ic_base.specs.declared.record.Record.{Record}
use Rattle.ic_base.specs.declared.scenario.Program.{Program}
use Rattle.def_log.specs.Frame.{IsForeign}
use Rattle.def_log.specs.Loads.{placed_log_for, placed_tail_for}
use Rattle.def_log.specs.Log.{tail_of}
use Rattle.def_step.specs.Pcom as step
use Rattle.def_step.specs.Pcom.{StepResult, recover_pcom}
use Rattle.def_step.specs.World.{up_answer}
use Rattle.ic_node.specs.Loading.{Rests}
use Rattle.ic_node.specs.declared.done.Done.{Done}
use Rattle.def_step.specs.Replay.{behind_checkpoint, has_image}
use Rattle.ic_disk.specs.Causes.{Rose}
use Rattle.ic_disk.specs.TornDisks.{Torn}
use Rattle.ic_disk.specs.declared.disk.Disk.{Ghosts}
use Rattle.ic_gate.specs.Refusals.{IsNotForeign}
use Rattle.ic_gate.specs.declared.refusals.LoadRefused.{LoadRefused}
use Rattle.ic_gate.specs.declared.refusals.LoadWhy.{LoadWhy}
use Rattle.ic_gate.specs.declared.refusals.LoadWhy.TheVariants.{Bad, Foreign, Failed, Stopped, Memory}
use Rattle.ic_pcom.specs.Recovering as pcom_recovery
use Rattle.ic_pcom.specs.Views as pcoms
use Rattle.ic_pcom.specs.declared.pcom.Pcom.{Pcom}
use Rattle.ic_pcom.specs.declared.step.Step.{Step}
use Rattle.ic_disk.specs.Torns.{file, torn, is_working}

module _ {D : Type 0} (b : Ghosts D) where
  -- why a component doesn't come up: the place at which its file is refused is given
  abbrev pub fails_to_come_up : (List ℕ → ℕ → Type 0) → Torn D → List ℕ → Torn D → LoadWhy → Type 0
  fails_to_come_up IsBadAt old print new (Bad place) = b.tells old.inner → IsBadAt (file b old) place × IsNotForeign print (file b old)
  fails_to_come_up IsBadAt old print new (Foreign kept) = b.tells old.inner → IsForeign print (file b old) kept
  fails_to_come_up IsBadAt old print new Failed = Rose (b.faults old.inner) (b.faults new.inner)
  fails_to_come_up IsBadAt old print new Stopped = b.stopped new.inner
  fails_to_come_up IsBadAt old print new Memory = Rests (torn b) new

  abbrev pub PcomFails : Program → ComId → Torn D → List ℕ → LoadRefused (Torn D) → Type 0
  PcomFails program c old print refused = fails_to_come_up (λ bytes place. pcom_recovery.bad_place program c bytes ≡ Some place) old print refused.disk refused.why

  -- the tail of a log isn't loaded, or behind it the log
  abbrev pub FailsToLoadTail : Torn D → List ℕ → ℕ → LoadRefused (Torn D) → Type 0
  FailsToLoadTail old print owner refused = fails_to_come_up (λ bytes place. (placed_tail_for owner bytes ≡ Err place) ⊎ (placed_log_for owner bytes ≡ Err place)) old print refused.disk refused.why

  module _ {d : Ghosts (Torn D)} where
    -- the Pcom that the tail of the log on the disk stands for, and what is told; the file stays
    pub record PcomIsUp (program : Program) (c : ComId) (old : Torn D) (up : Pcom (Torn D) d × Step) : Type 0 where
      pub records : List Record
      pub result : StepResult
      pub step : recover_pcom program c records ≡ Some result
      pub leads : pcoms.component_of up.0 ≡ result.pcom
      pub tells : up.1 ≡ pcoms.told_of result
      pub read : b.tells old.inner → tail_of (file b old) ≡ Ok records
      pub bytes : b.tells old.inner → file b (pcoms.disk_of up.0) ≡ file b old
      pub played : pcoms.played_of up.0 + length (pcoms.component_of up.0).rest ≡ length (behind_checkpoint records)
      pub which : pcoms.com_of up.0 ≡ c
      pub is_open : pcoms.is_closed up.0 ≡ false
      pub works : is_working (torn b) (pcoms.disk_of up.0) ≡ true

-- the device calls of a load don't reach the stop
abbrev pub IsBeyondLoad : ℕ → Stop → Type 0
IsBeyondLoad loads stop = (stop.call ≡ 0) ⊎ (loads < stop.call)

-- its disk, which is handed back where there is no component
abbrev pub pcom_disk : {D : Type 0} {d : Ghosts D} → Result (Pcom D d × Step) (LoadRefused D) → D
pcom_disk (Ok up) = pcoms.disk_of up.0
pcom_disk (Err refused) = refused.disk

-- what is told of a Pcom that came up
abbrev pub told_up : step.Pcom → Step → ℕ → Done
told_up p told played = record { answer = up_answer p; puts = told.puts; shown = told.shown; aborted = told.aborted; played = played }

-- a load was refused since its disk stands stopped
abbrev pub is_halt : LoadWhy → Bool
is_halt Stopped = true
is_halt (Bad place) = false
is_halt (Foreign kept) = false
is_halt Failed = false
is_halt Memory = false

-- the stop, where it lies within a load of so many device calls
abbrev pub in_load : ℕ → Option Stop → Option Stop
in_load loads None = None
in_load loads (Some stop) = cond (nat_le stop.call loads) (Some stop) None

-- the records through the last checkpoint
abbrev pub through_last : List Record → List Record
through_last kept = take (length kept - length (behind_checkpoint kept)) kept

-- what a Pcom with these records that comes up keeps of those that its disk held: the ones before its own, where these have a checkpoint
abbrev pub kept_before : List Record → List Record → List Record
kept_before kept own = cond (has_image own) (take (length kept - length own) kept) []
