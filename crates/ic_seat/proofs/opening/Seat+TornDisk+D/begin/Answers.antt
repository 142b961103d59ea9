use Rattle.std.proofs.Common.{sym, subst}
use Rattle.ic_disk.specs.Disk.{Keeps}
use Rattle.ic_disk.specs.TornDisks.{Torn}
use Rattle.ic_moves.specs.Chiefs.{openings_of}
use Rattle.ic_seat.specs.Opening.{Starts, FailsToStart}
use Rattle.ic_seat.specs.Seats.{disk_in, Stands}
use Rattle.ic_disk.specs.Torns.{torn}
use Rattle.ic_seat.specs.declared.seat.Seat.{Seat}
use Rattle.ic_seat.specs.declared.seat.Seat.TheVariants.{Down}
use Rattle.ic_seat.proofs.Begun.{begun, begun_keeps, not_begun}
use Rattle.ic_seat.proofs.opening.Seat+TornDisk+D.begin.Goals as goal

pub returns-in-Ok-clause-step : goal.returns-in-Ok-clause-step
returns-in-Ok-clause-step g c =
    let b = g.D.Disk in
    let openings = openings_of c.args.books.now in
    let print = c.args.fingerprint.now in
    let e = c.in-Ok.ensures {u = tt} in
    let T : Seat (Torn g.row.D.Denot) (torn b) → Type 0 = λ s. Stands (torn b) s in
    let P : Seat (Torn g.row.D.Denot) (torn b) → Type 0 = λ s. Starts b openings c.args.c print s c.in-Ok.seat in
    subst P (sym c.in-Down.is) (begun b openings c.args.c print c.in-Down.disk c.in-Down.kept (subst T c.in-Down.is c.requires.stands) c.arm.new.self c.arm.ensures _ c.in-Ok.seat e.step e.calls)

pub returns-in-Ok-clause-disk : goal.returns-in-Ok-clause-disk
returns-in-Ok-clause-disk g c =
    let b = g.D.Disk in
    let T : Seat (Torn g.row.D.Denot) (torn b) → Type 0 = λ s. Stands (torn b) s in
    let P : Seat (Torn g.row.D.Denot) (torn b) → Type 0 = λ s. Keeps (torn b) (disk_in s) (disk_in c.in-Ok.seat) in
    subst P (sym c.in-Down.is) (begun_keeps b (openings_of c.args.books.now) c.args.c c.args.fingerprint.now c.in-Down.disk c.in-Down.kept (subst T c.in-Down.is c.requires.stands) c.arm.new.self c.arm.ensures (disk_in c.in-Ok.seat) (c.in-Ok.ensures {u = tt}).disk)

pub returns-in-Err-clause-disk : goal.returns-in-Err-clause-disk
returns-in-Err-clause-disk g c =
    let b = g.D.Disk in
    let T : Seat (Torn g.row.D.Denot) (torn b) → Type 0 = λ s. Stands (torn b) s in
    let P : Seat (Torn g.row.D.Denot) (torn b) → Type 0 = λ s. Keeps (torn b) (disk_in s) c.in-Err.refused.disk in
    subst P (sym c.in-Down.is) (begun_keeps b (openings_of c.args.books.now) c.args.c c.args.fingerprint.now c.in-Down.disk c.in-Down.kept (subst T c.in-Down.is c.requires.stands) c.arm.new.self c.arm.ensures c.in-Err.refused.disk (c.in-Err.ensures {u = tt}).disk)

pub returns-in-Err-clause-refused : goal.returns-in-Err-clause-refused
returns-in-Err-clause-refused g c =
    let b = g.D.Disk in
    let openings = openings_of c.args.books.now in
    let print = c.args.fingerprint.now in
    let e = c.in-Err.ensures {u = tt} in
    let T : Seat (Torn g.row.D.Denot) (torn b) → Type 0 = λ s. Stands (torn b) s in
    let P : Seat (Torn g.row.D.Denot) (torn b) → Type 0 = λ s. FailsToStart b s (Down c.in-Err.refused.disk c.in-Down.kept) c.in-Err.refused.why in
    subst P (sym c.in-Down.is) (not_begun b openings c.args.c print c.in-Down.disk c.in-Down.kept (subst T c.in-Down.is c.requires.stands) c.arm.new.self c.arm.ensures _ c.in-Err.refused.disk c.in-Err.refused.why e.refused e.calls)
