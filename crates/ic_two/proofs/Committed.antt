-- A record that was spelled: what it comes to once it is forced, and where it isn't.
use Rattle.std.proofs.Common.{◌≡◌, ◌∙◌, sym, ap, arith, ℕ, List, [], ◌∷◌, ◌++◌, length, false}
use Rattle.std.specs.Prelude.{Ok, Some, ◌+◌, option_map}
use Rattle.ic_base.specs.declared.limits.TheConstants.{FIRST_GATE}
use Rattle.def_log.specs.Sizes.{span, gate_behind, size_in}
use Rattle.def_two.specs.declared.moves.Record2.{Record2}
use Rattle.def_two.specs.Records.{spelling2, Fits2}
use Rattle.def_two.specs.Logs.{log2_of}
use Rattle.law_two_run.proofs.Meeting.{read-places}
use Rattle.ic_disk.specs.declared.disk.Disk.{Ghosts}
use Rattle.ic_gate.specs.declared.log.Log.{Log}
use Rattle.ic_gate.specs.declared.refusals.StepRefused.{StepRefused}
use Rattle.ic_gate.specs.declared.refusals.StepRefused.TheVariants.{Failed, Stopped, Full, Memory}
use Rattle.ic_two.specs.Committing.{Adds, Stays, FailsToAdd, IsOldOrAdded}
use Rattle.ic_two.specs.RecordLogs.{AddsRecord, FailsToAddRecord, IsBeforeOrBehind}
use Rattle.ic_two.specs.Views.{records_of, disk_of, is_closed}
use Rattle.ic_two.specs.declared.record_log.RecordLog2.{RecordLog2}
use Rattle.ic_two.proofs.Pushing.{read_is, pushed, old_or_behind}

-- a log of records has a size
pub size_there : (bytes : List ℕ) (rs : List Record2) → log2_of bytes ≡ Ok rs → (size : ℕ) × (size_in bytes ≡ Some size)
size_there bytes rs e =
    let z = read-places bytes rs e in
    (FIRST_GATE + span z.0 + 1, ap (λ f. option_map (λ gate. gate + 1) (gate_behind FIRST_GATE f)) z.1)

module _ {D : Type 0} {d : Ghosts D} where
  -- where a log isn't closed, a refusal leaves it as it was
  pub stays : (old new : Log D d) (bytes : List ℕ) (why : StepRefused) → FailsToAdd old bytes new why → new.closed ≡ false → Stays old new
  stays old new bytes Failed fails is = cc
  stays old new bytes Stopped fails is = cc
  stays old new bytes Full fails is = fails.0
  stays old new bytes Memory fails is = fails

  -- the file of an open log has its records
  pub standing : (l : RecordLog2 D d) → d.tells (disk_of l) → is_closed l ≡ false → log2_of (d.seen (disk_of l)) ≡ Ok (records_of l)
  standing l told up = read_is _ _ (l.whole told up) (l.on_disk told up)

  module _ (old : RecordLog2 D d) (r : Record2) (bytes : List ℕ) (up : is_closed old ≡ false) (fit : Fits2 r) (is : bytes ≡ spelling2 r) where
    -- the file behind the force
    pub stands : (log : Log D d) → Adds old.log bytes log → d.tells (disk_of old) → log2_of (d.seen log.disk) ≡ Ok (records_of old ++ r ∷ [])
    stands log adds told = pushed old.log.start _ _ _ r bytes (records_of old) fit is (adds.batch told) (standing old told up)

    pub added : (new : RecordLog2 D d) → records_of new ≡ records_of old ++ r ∷ [] → Adds old.log bytes new.log → AddsRecord old r new
    added new records adds = record {
      records = records;
      room = omega (arith, adds.fits, ap length is);
      size = omega (arith, adds.size, ap length is);
      is_open = adds.is_open;
      log = λ told. stands new.log adds told ∙ ap (λ (l : List Record2). Ok l) (sym records);
      whose = λ told. (adds.batch told).same;
    }

    pub image_of : (image : List ℕ) → d.tells (disk_of old) → IsOldOrAdded old.log bytes image → IsBeforeOrBehind (d.seen (disk_of old)) (records_of old) r image
    image_of image told left = old_or_behind old.log.start _ image _ r bytes (records_of old) fit is (standing old told up) left

    pub fails : (new : RecordLog2 D d) (why : StepRefused) → records_of new ≡ records_of old → FailsToAdd old.log bytes new.log why → FailsToAddRecord old r new why
    fails new Failed same f = f
    fails new Stopped same f = (f.0, f.1, omega (arith, f.2, ap length is))
    fails new Full same f = (record { records = same; size = f.0.size; bytes = f.0.seen; is_open = f.0.is_open }, omega (arith, f.1, ap length is))
    fails new Memory same f = record { records = same; size = f.size; bytes = f.seen; is_open = f.is_open }
