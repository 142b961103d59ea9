-- Why the records of a log that was loaded are refused.
use Rattle.std.proofs.Common.{◌∙◌, ap, ℕ, List, Option}
use Rattle.ic_base.specs.declared.record.Batch.{Batch}
use Rattle.def_log.specs.Frame.{frame_of}
use Rattle.def_log.specs.Log.{◌>>=◌}
use Rattle.def_two.specs.Logs.{Placed2, placed2_in}
use Rattle.law_marks.proofs.Owners.{owned}
use Rattle.ic_disk.specs.declared.disk.Disk.{Ghosts}
use Rattle.ic_gate.specs.Calls.{Loads}
use Rattle.ic_gate.specs.Logs.{disk_of}
use Rattle.ic_gate.specs.Reading.{RefusesToLoad}
use Rattle.ic_gate.specs.declared.log.Log.{Log}
use Rattle.ic_gate.specs.declared.refusals.LoadWhy.{LoadWhy}
use Rattle.ic_gate.specs.declared.refusals.LoadWhy.TheVariants.{Bad, Foreign, Failed, Stopped, Memory}
use Rattle.ic_two.specs.Loading.{place_in, LoadsRecords, RefusesRecords, RefusesToComeUp}
use Rattle.ic_two.specs.Reading.{FailsToRead}
use Rattle.ic_two.specs.Replays.{FailsToPlay}

module _ {D : Type 0} (d : Ghosts D) where
  -- a refusal of the log is one of its records
  pub not_loaded : (old : D) (given : List ℕ) (owner : ℕ) (new : D) (why : LoadWhy) → RefusesToLoad d old given owner new why → RefusesRecords d old given owner new why
  not_loaded old given owner new (Bad place) refused = record { place = λ told. ap (λ f. f >>= placed2_in) (refused.frame told); not_foreign = refused.not_foreign; bytes = refused.bytes }
  not_loaded old given owner new (Foreign kept) refused = λ told. (refused.told told, refused.bytes told)
  not_loaded old given owner new Failed refused = refused
  not_loaded old given owner new Stopped refused = refused
  not_loaded old given owner new Memory refused = refused.bytes

  -- batches that aren't read refuse the load
  pub not_read : (disk : D) (given : List ℕ) (owner : ℕ) (log : Log D d) (batches : List Batch) (why : LoadWhy) → Loads d disk given owner (log, batches) → FailsToRead (placed2_in batches) why → RefusesRecords d disk given owner (disk_of log) why
  not_read disk given owner log batches (Bad place) loads fails = record {
    place = λ told. ap (λ f. f >>= placed2_in) (owned owner (d.seen disk) (frame_of (d.seen disk)) (loads.read.log.owner_same told) ∙ loads.read.frame told) ∙ fails;
    not_foreign = λ told kept foreign. foreign.2 (foreign.1 ∙ loads.read.log.fingerprint_same told);
    bytes = loads.read.log.bytes;
  }
  not_read disk given owner log batches (Foreign kept) loads fails = absurd fails
  not_read disk given owner log batches Failed loads fails = absurd fails
  not_read disk given owner log batches Stopped loads fails = absurd fails
  not_read disk given owner log batches Memory loads fails = loads.read.log.bytes

  -- records that give no component refuse its recovery
  pub not_played : (misfit : List Placed2 → Option ℕ) (disk : D) (given : List ℕ) (owner : ℕ) (log : Log D d) (placed : List Placed2) (why : LoadWhy) → LoadsRecords d disk given owner (log, placed) → FailsToPlay (misfit placed) why → RefusesToComeUp d misfit disk given owner (disk_of log) why
  not_played misfit disk given owner log placed (Bad place) loads fails = record {
    place = λ told. ap (place_in misfit) (ap (λ f. f >>= placed2_in) (owned owner (d.seen disk) (frame_of (d.seen disk)) (loads.owned told)) ∙ loads.read told) ∙ fails;
    not_foreign = λ told kept foreign. foreign.2 (foreign.1 ∙ loads.own told);
    bytes = loads.bytes;
  }
  not_played misfit disk given owner log placed (Foreign kept) loads fails = absurd fails
  not_played misfit disk given owner log placed Failed loads fails = absurd fails
  not_played misfit disk given owner log placed Stopped loads fails = absurd fails
  not_played misfit disk given owner log placed Memory loads fails = loads.bytes
