-- The file of a Tcom that isn't closed holds its forced records.
use Rattle.std.proofs.Common.{◌≡◌, false}
use Rattle.std.specs.Prelude.{Ok}
use Rattle.def_log.specs.Log.{log_of}
use Rattle.ic_disk.specs.declared.disk.Disk.{Ghosts}
use Rattle.ic_gate.proofs.RecordFiles.{read_is}
use Rattle.ic_tcom.specs.Views as tcoms
use Rattle.ic_tcom.specs.declared.tcom.Tcom.{Tcom}

module _ {D : Type 0} {d : Ghosts D} where
  -- the file of one that isn't closed holds its forced records
  pub tcom_stood : (t : Tcom D d) → tcoms.is_closed t ≡ false → d.tells (tcoms.disk_of t) → log_of (d.seen (tcoms.disk_of t)) ≡ Ok (tcoms.component_of t).records
  tcom_stood t going told = read_is _ _ (t.whole told going) (t.on_disk told going)
