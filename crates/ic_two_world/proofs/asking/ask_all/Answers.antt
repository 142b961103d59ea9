use Rattle.std.proofs.Common.{arith, length, ◌<◌}
use Rattle.std.proofs.lemmas.Result.{err_from_is_err_and}
use Rattle.ic_two_world.proofs.Disks.{asked-all}
use Rattle.ic_two_world.proofs.Walking.{ask-kept, ask-step, ask-refused}
use Rattle.ic_two_world.proofs.asking.ask_all.Goals as goal

pub returns-in_err-ask_blank-clause-kept : goal.returns-in_err-ask_blank-clause-kept
returns-in_err-ask_blank-clause-kept g c =
    let within : c.loop-c.c < length c.loop-c.disks = omega (arith, c.loop-c-test.true, c.loop-c.auto.c-end, c.loop-c.invariant.kept.count) in
    ask-kept g.D.Disk c.args.disks.now c.loop-c.c c.loop-c.disks c.loop-c.invariant within _ c.ask_blank.new.disk c.ask_blank.ensures.disk

pub returns-in_err-ask_blank-clause-refused : goal.returns-in_err-ask_blank-clause-refused
returns-in_err-ask_blank-clause-refused g c =
    let p = err_from_is_err_and c.from_residual.result c.from_residual.ensures.1 in
    let within : c.loop-c.c < length c.loop-c.disks = omega (arith, c.loop-c-test.true, c.loop-c.auto.c-end, c.loop-c.invariant.kept.count) in
    rw (p.1, p.2) (ask-refused g.D.Disk c.args.disks.now c.loop-c.c c.loop-c.disks c.loop-c.invariant within _ c.ask_blank.new.disk c.ask_blank.ensures.disk c.in_err-ask_blank.field-0.0 c.in_err-ask_blank.ensures.refused)

pub loop-c-preserved : goal.loop-c-preserved
loop-c-preserved g c =
    let e = c.in_ok-ask_blank.ensures {u = tt} in
    let within : c.loop-c.c < length c.loop-c.disks = omega (arith, c.loop-c-test.true, c.loop-c.auto.c-end, c.loop-c.invariant.kept.count) in
    ask-step g.D.Disk c.args.disks.now c.loop-c.c c.loop-c.disks c.loop-c.invariant within _ c.ask_blank.new.disk c.ask_blank.ensures.disk e.old e.new

pub returns-clause-was : goal.returns-clause-was
returns-clause-was g c = (asked-all g.D.Disk c.args.disks.now c.loop-c.c c.loop-c.disks (omega (arith, c.loop-c.auto.c-end, c.loop-c-test.false)) c.loop-c.invariant).0

pub returns-clause-blank : goal.returns-clause-blank
returns-clause-blank g c = (asked-all g.D.Disk c.args.disks.now c.loop-c.c c.loop-c.disks (omega (arith, c.loop-c.auto.c-end, c.loop-c-test.false)) c.loop-c.invariant).1
