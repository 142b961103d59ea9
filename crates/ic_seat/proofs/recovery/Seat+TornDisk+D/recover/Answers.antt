use Rattle.std.proofs.Common.{sym, subst}
use Rattle.ic_disk.specs.Disk.{CrashLeaves}
use Rattle.ic_disk.specs.TornDisks.{Torn}
use Rattle.ic_disk.specs.Torns.{torn}
use Rattle.ic_seat.specs.Seats.{disk_in}
use Rattle.ic_seat.specs.declared.seat.Seat.{Seat}
use Rattle.ic_seat.proofs.recovery.Seat+TornDisk+D.recover.Goals as goal

pub returns-in-Down-clause-crash : goal.returns-in-Down-clause-crash
returns-in-Down-clause-crash g c = λ down.
    let d = torn g.D.Disk in
    let P : Seat (Torn g.row.D.Denot) d → Type 0 = λ s. CrashLeaves d (disk_in s) (disk_in c.come_up.result.0) (d.may_leave (disk_in s)) in
    subst P (sym c.in-Down.is) c.come_up.ensures.crash
