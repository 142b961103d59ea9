-- What is restored, and why nothing is.
use Rattle.std.proofs.Common.{◌≡◌, ◌∙◌, ap, arith, ℕ, ◌+◌, ◌≤◌, List, length}
use Rattle.std.specs.Prelude.{Ok}
use Rattle.ic_base.specs.declared.messages.ComId.{ComId}
use Rattle.ic_base.specs.declared.scenario.Program.{Program}
use Rattle.def_log.specs.Log.{Placed, records_in, ◌>>=◌}
use Rattle.def_step.specs.Replay.{behind_checkpoint}
use Rattle.ic_disk.specs.Disk.{Keeps}
use Rattle.ic_disk.specs.declared.disk.Disk.{Ghosts}
use Rattle.ic_gate.specs.Logs.{disk_of}
use Rattle.ic_gate.specs.declared.log.Log.{Log}
use Rattle.ic_gate.specs.declared.refusals.LoadWhy.{LoadWhy}
use Rattle.ic_gate.specs.declared.refusals.LoadWhy.TheVariants.{Bad, Foreign, Failed, Stopped, Memory}
use Rattle.ic_gate.specs.RecordLoads.{LoadsTailRecords, RefusesTailRecords}
use Rattle.ic_gate.specs.RecordFiles.{read_or_none}
use Rattle.ic_gate.proofs.Headers.{read_rests}
use Rattle.ic_gate.proofs.TailLoads.{tail_of_own}
use Rattle.ic_pcom.specs.Plays.{FailsToPlay}
use Rattle.ic_pcom.specs.Recovering.{misfit_place, to_play_in}
use Rattle.ic_pcom.specs.Restorations.{RefusesToRestore}

module _ {D : Type 0} (d : Ghosts D) where
  -- a refusal of the records is one of the recovery
  pub not_restored : (program : Program) (c : ComId) (old : D) (given : List ℕ) (new : D) (why : LoadWhy) → RefusesTailRecords d old given c.0 new why → RefusesToRestore d program c old given new why
  not_restored program c old given new (Bad place) refused = record {
    place = λ told. ap (misfit_place program c) (refused.place told);
    not_foreign = refused.not_foreign;
    bytes = refused.bytes;
  }
  not_restored program c old given new (Foreign kept) refused = refused
  not_restored program c old given new Failed refused = refused
  not_restored program c old given new Stopped refused = refused
  not_restored program c old given new Memory refused = refused

  -- records that aren't played refuse the recovery
  pub not_played : ((x : D) → d.keeps x → d.tells x) → (program : Program) (c : ComId) (disk : D) (given : List ℕ) (log : Log D d) (placed : List Placed) (why : LoadWhy) → LoadsTailRecords d disk given c.0 (log, placed) → Keeps d disk (disk_of log) → FailsToPlay program c placed why → RefusesToRestore d program c disk given (disk_of log) why
  not_played tells program c disk given log placed (Bad place) loads kept fails = record {
    place = λ told. ap (misfit_place program c) (tail_of_own d disk given c.0 (log, placed) loads told) ∙ fails;
    not_foreign = λ told kept foreign. foreign.2 (foreign.1 ∙ loads.own told);
    bytes = loads.bytes;
  }
  not_played tells program c disk given log placed (Foreign other) loads kept fails = absurd fails
  not_played tells program c disk given log placed Failed loads kept fails = absurd fails
  not_played tells program c disk given log placed Stopped loads kept fails = absurd fails
  not_played tells program c disk given log placed Memory loads kept fails = read_rests d tells disk (disk_of log) loads.bytes (λ keeps. log.durable (kept.keeps.0 keeps) loads.is_open)

  -- no more is played than the records of the tail behind its last checkpoint
  pub played_within : (disk : D) (given : List ℕ) (owner : ℕ) (log : Log D d) (placed : List Placed) (old new : ℕ) → LoadsTailRecords d disk given owner (log, placed) → new ≤ old + length (behind_checkpoint (records_in placed)) → d.tells disk → new ≤ old + to_play_in (d.seen disk)
  played_within disk given owner log placed old new loads most told =
      let same : to_play_in (d.seen disk) ≡ length (behind_checkpoint (records_in placed)) = ap (λ r. length (behind_checkpoint (read_or_none (r >>= λ rs. Ok (records_in rs))))) (loads.read told) in
      omega (arith, most, same)
