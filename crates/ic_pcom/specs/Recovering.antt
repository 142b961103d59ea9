-- What a recovery comes to, and why there is none.
use Rattle.std.specs.Prelude.{◌≡◌, ℕ, ◌+◌, false, List, Option, Some, Result, Ok, Err, option_map, length}
use Rattle.ic_base.specs.declared.messages.ComId.{ComId}
use Rattle.ic_base.specs.declared.record.Record.{Record}
use Rattle.ic_base.specs.declared.scenario.Program.{Program}
use Rattle.def_log.specs.Changes.{gate_from}
use Rattle.def_log.specs.Frame.{fingerprint_in, owner_in, IsForeign}
use Rattle.def_log.specs.Loads.{placed_tail_for}
use Rattle.def_log.specs.Log.{Placed, tail_of, records_in}
use Rattle.def_log.specs.Sizes.{size_in}
use Rattle.def_log.specs.Tail.{tail_gate}
use Rattle.def_step.specs.Pcom.{StepResult, recover_pcom}
use Rattle.def_step.specs.Replay.{misfit_of, behind_checkpoint}
use Rattle.ic_disk.specs.Causes.{Rose}
use Rattle.ic_disk.specs.declared.disk.Disk.{Ghosts}
use Rattle.ic_gate.specs.Reading.{IsAtRest}
use Rattle.ic_gate.specs.Refusals.{IsNotForeign}
use Rattle.ic_gate.specs.declared.refusals.LoadWhy.{LoadWhy}
use Rattle.ic_gate.specs.declared.refusals.LoadWhy.TheVariants.{Bad, Foreign, Failed, Stopped, Memory}
use Rattle.def_run.specs.Refusals.{place_of}
use Rattle.ic_gate.specs.RecordFiles.{read_or_none}
use Rattle.ic_pcom.specs.Views.{component_of, com_of, disk_of, start_of, size_of, is_closed, played_of, told_of}
use Rattle.ic_pcom.specs.declared.pcom.Pcom.{Pcom}
use Rattle.ic_pcom.specs.declared.step.Step.{Step}

-- the place of the first misfit among the records of a log's tail
abbrev pub misfit_place : Program → ComId → Result (List Placed) ℕ → Option ℕ
misfit_place program c (Ok rs) = option_map (place_of rs) (misfit_of program c (records_in rs))
misfit_place program c (Err place) = Some place

-- the place at which the tail of a component's log is refused: its frame, its records, or a misfit
abbrev pub bad_place : Program → ComId → List ℕ → Option ℕ
bad_place program c bytes = misfit_place program c (placed_tail_for c.0 bytes)

-- how many records a recovery over a file has to play
abbrev pub to_play_in : List ℕ → ℕ
to_play_in bytes = length (behind_checkpoint (read_or_none (tail_of bytes)))

module _ {D : Type 0} (d : Ghosts D) where
  -- The Pcom that the tail of the log on the disk stands for, and what is told; the file stays. What stands before the tail isn't told:
  -- where the whole file has a size, it is the log's.
  pub record ComesUp (program : Program) (c : ComId) (old : D) (fingerprint : List ℕ) (new : Pcom D d) (told : Step) : Type 0 where
    pub records : List Record
    pub result : StepResult
    pub step : recover_pcom program c records ≡ Some result
    pub leads : component_of new ≡ result.pcom
    pub tells : told ≡ told_of result
    pub read : d.tells old → tail_of (d.seen old) ≡ Ok records
    pub start : d.tells old → tail_gate (d.seen old) ≡ start_of new
    pub sized : d.tells old → option_map (λ gate. gate + 1) (gate_from (start_of new) (d.seen old)) ≡ Some (size_of new)
    pub of_file : d.tells old → (size : ℕ) → size_in (d.seen old) ≡ Some size → size ≡ size_of new
    pub own : d.tells old → fingerprint_in (d.seen old) ≡ fingerprint
    pub owned : d.tells old → owner_in (d.seen old) ≡ c.0
    pub bytes : d.tells old → d.seen (disk_of new) ≡ d.seen old
    pub played : played_of new + length (component_of new).rest ≡ length (behind_checkpoint records)
    pub which : com_of new ≡ c
    pub is_open : is_closed new ≡ false

  -- the tail is refused at this place, and is of no other scenario; the file isn't changed
  pub record IsRefusedAt (program : Program) (c : ComId) (old : D) (fingerprint : List ℕ) (at : ℕ) (new : D) : Type 0 where
    pub place : d.tells old → bad_place program c (d.seen old) ≡ Some at
    pub not_foreign : d.tells old → IsNotForeign fingerprint (d.seen old)
    pub bytes : d.tells old → d.seen new ≡ d.seen old

  -- why it doesn't come up, and what then stands
  abbrev pub RefusesToComeUp : Program → ComId → D → List ℕ → D → LoadWhy → Type 0
  RefusesToComeUp program c old fingerprint new (Bad place) = IsRefusedAt program c old fingerprint place new
  RefusesToComeUp program c old fingerprint new (Foreign kept) = d.tells old → IsForeign fingerprint (d.seen old) kept × (d.seen new ≡ d.seen old)
  RefusesToComeUp program c old fingerprint new Failed = Rose (d.faults old) (d.faults new)
  RefusesToComeUp program c old fingerprint new Stopped = d.stopped new
  RefusesToComeUp program c old fingerprint new Memory = IsAtRest d old new
