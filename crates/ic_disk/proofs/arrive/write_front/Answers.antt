use Rattle.std.proofs.Common.{◌≤◌, length, take, arith}
use Rattle.std.proofs.lemmas.List.{length-take}
use Rattle.def_log.specs.Images.{TornFrom}
use Rattle.def_log.proofs.Moments.{elapses_weaker}
use Rattle.ic_disk.proofs.Tears.{torn_more}
use Rattle.ic_disk.proofs.arrive.write_front.Goals as goal

pub returns-clause-crash : goal.returns-clause-crash
returns-clause-crash g c keeps =
    let disk = g.D.Disk in
    let bytes = c.args.bytes.now in
    let count = length (take c.min-count.result bytes) in
    let fits : count ≤ length bytes = omega (arith, length-take c.min-count.result bytes) in
    elapses_weaker disk.moment disk.left_since disk.may_leave c.args.disk.now c.write_at.new.self
    (TornFrom c.args.at count (disk.may_leave c.args.disk.now)) (TornFrom c.args.at (length bytes) (disk.may_leave c.args.disk.now))
    (λ image came. (came.0, came.1, torn_more c.args.at count (length bytes) came.0 image fits came.2))
    (c.write_at.ensures.crash keeps)
