use Rattle.std.proofs.Common.{arith}
use Rattle.std.proofs.lemmas.Grind.{common_steps}
use Rattle.ic_replay.proofs.Runs.{reads}
use Rattle.ic_replay.proofs.feeding.feed_in_place.Goals as goal

pub play_record-requires-clause-new : goal.play_record-requires-clause-new
play_record-requires-clause-new g c =
    let read = reads c.args.records.now c.args.place c.in_ok-stored.stored (c.in_ok-stored.ensures {u = tt}) in
    grind (arith, common_steps, read)

pub returns-then-not-branch-clause-refused : goal.returns-then-not-branch-clause-refused
returns-then-not-branch-clause-refused g c =
    let read = reads c.args.records.now c.args.place c.in_ok-stored.stored (c.in_ok-stored.ensures {u = tt}) in
    grind (arith, common_steps, read)

pub returns-in-Ok-clause-fed : goal.returns-in-Ok-clause-fed
returns-in-Ok-clause-fed g c =
    let read = reads c.args.records.now c.args.place c.in_ok-stored.stored (c.in_ok-stored.ensures {u = tt}) in
    grind (arith, common_steps, read)

pub returns-clause-refused : goal.returns-clause-refused
returns-clause-refused g c =
    let read = reads c.args.records.now c.args.place c.in_ok-stored.stored (c.in_ok-stored.ensures {u = tt}) in
    grind (arith, common_steps, read)
