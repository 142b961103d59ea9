use Rattle.std.proofs.Common.{◌≤◌, ◌∙◌, ap, rules, arith, length}
use Rattle.ic_run.proofs.Places.{lent_count}
use Rattle.test_live.proofs.chain.run.Goals as goal

pub run_threads-requires-clause-disks : goal.run_threads-requires-clause-disks
run_threads-requires-clause-disks g c κs within =
    let few : length c.in_ok-texts.texts.program.components ≤ length c.in_ok-disks.disks.items = search (rules, arith) in
    ap length c.in_ok-taken.ensures.taken ∙ lent_count c.in_ok-texts.texts.program.components c.in_ok-disks.disks.items few
