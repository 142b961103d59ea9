-- What a Tcom keeps of its log.
use Rattle.std.proofs.Common.{◌≡◌, false, arith}
use Rattle.ic_disk.specs.Disk.{Keeps}
use Rattle.ic_disk.specs.declared.disk.Disk.{Ghosts}
use Rattle.def_log.specs.Changes.{IsOfSame}
use Rattle.ic_gate.proofs.LogSizes.{size_is}
use Rattle.ic_gate.proofs.RecordFiles.{read_is}
use Rattle.ic_tcom.specs.Serving.{KeepsLog}
use Rattle.ic_tcom.specs.Views.{com_of, disk_of, is_closed}
use Rattle.ic_tcom.specs.declared.tcom.Tcom.{Tcom}

module _ {D : Type 0} {d : Ghosts D} where
  -- a disk that isn't touched is kept
  pub untouched : (disk : D) → Keeps d disk disk
  untouched disk = record { tells = (λ told. told, λ told. told); keeps = (λ keeps. keeps, λ keeps. keeps); later = omega arith }

  pub keeps_log : (old new : Tcom D d) → is_closed old ≡ false → com_of new ≡ com_of old → Keeps d (disk_of old) (disk_of new)
      → (d.tells (disk_of old) → is_closed new ≡ false → IsOfSame (d.seen (disk_of old)) (d.seen (disk_of new))) → KeepsLog old new
  keeps_log old new opened same kept whose = record {
    same = same;
    disk = kept;
    sized = λ told. size_is old.log _ told opened (read_is _ old.core.records (old.whole told opened) (old.on_disk told opened));
    log = λ told up. read_is _ new.core.records (new.whole (kept.tells.0 told) up) (new.on_disk (kept.tells.0 told) up);
    whose = whose;
  }
