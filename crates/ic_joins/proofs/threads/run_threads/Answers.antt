use Rattle.ic_joins.proofs.Started.{berths-started, berths-told, failed-since, refused-since, events-are}
use Rattle.ic_joins.proofs.threads.run_threads.Goals as goal

pub run_live-requires-clause-started : goal.run_live-requires-clause-started
run_live-requires-clause-started g c κs within = berths-started g.D.Disk c.args.program.now c.args.fingerprint.now c.args.disks.items c.in-Ok.world c.in-Ok.ensures.step c.in-Ok-berths_of.components c.in-Ok-berths_of.ensures

pub run_live-requires-clause-plan : goal.run_live-requires-clause-plan
run_live-requires-clause-plan g c κs within = events-are c.args.program.now c.args.plan.now c.requires.events

pub returns-in-Ok-run_live-clause-joined : goal.returns-in-Ok-run_live-clause-joined
returns-in-Ok-run_live-clause-joined g c tell = c.in-Ok-run_live.ensures.joined (berths-told g.D.Disk c.args.program.now c.args.fingerprint.now c.args.disks.items c.in-Ok.world c.in-Ok.ensures.step c.in-Ok-berths_of.components c.in-Ok-berths_of.ensures tell)

pub returns-in-Ok-run_live-clause-since : goal.returns-in-Ok-run_live-clause-since
returns-in-Ok-run_live-clause-since g c = failed-since g.D.Disk c.args.program.now c.args.fingerprint.now c.args.disks.items c.in-Ok.world c.in-Ok.ensures.step c.in-Ok-berths_of.components c.in-Ok-berths_of.ensures c.in-Ok-run_live.returned.components c.in-Ok-run_live.ensures.since

pub returns-in-Err-run_live-clause-refused : goal.returns-in-Err-run_live-clause-refused
returns-in-Err-run_live-clause-refused g c =
    let r = c.in-Err-run_live.refused in
    refused-since g.D.Disk c.args.program.now c.args.fingerprint.now c.args.disks.items c.in-Ok.world c.in-Ok.ensures.step c.in-Ok-berths_of.components c.in-Ok-berths_of.ensures r.components r.received r.packets r.why c.in-Err-run_live.ensures.refused
