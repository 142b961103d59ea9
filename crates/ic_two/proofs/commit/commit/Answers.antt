use Rattle.std.proofs.Common.{◌∙◌}
use Rattle.ic_disk.proofs.Disks.{makes_named, makes_same, rests_makes}
use Rattle.ic_gate.specs.Logs.{size_of, buffered_of, is_closed}
use Rattle.ic_two.proofs.DeviceCalls.{same_force}
use Rattle.ic_two.proofs.commit.commit.Goals as goal

pub returns-in-Ok-force-clause-calls : goal.returns-in-Ok-force-clause-calls
returns-in-Ok-force-clause-calls g c =
    let mid = c.append.new.self in
    let log = c.args.log.now in
    let e = c.in-Ok.ensures {u = tt} in
    rests_makes e.disk
    (makes_same (same_force (is_closed mid) (size_of mid) (size_of log) (buffered_of mid) (buffered_of log) c.args.bytes.now (e.log.closed ∙ c.requires.open) e.log.size e.step.buffered c.requires.alone)
    (makes_named _ (λ e. cc) (c.in-Ok-force.ensures {u = tt}).calls))
