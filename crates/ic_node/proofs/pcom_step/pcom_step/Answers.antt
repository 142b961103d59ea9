use Rattle.std.proofs.Common.{◌≡◌, ◌∙◌, ap, arith, ◌-◌}
use Rattle.ic_pcom.specs.Views.{played_of}
use Rattle.ic_node.specs.Answering.{told_by}
use Rattle.ic_node.specs.Calling.{call_of}
use Rattle.ic_node.proofs.PcomStep.{played_more, image_stays, made_so, made_counts, unmade_so, unmade_counts}
use Rattle.ic_node.proofs.pcom_step.pcom_step.Goals as goal

pub overflow_sub-played : goal.overflow_sub-played
overflow_sub-played g c =
    let more = played_more g.met.D.Disk.keeping_tells c.args.program.now c.args.pcom.now (call_of c.args.call.now) c.args.number c.stepped.new.pcom c.args.steps.now c.stepped.new.steps c.in-Ok.told c.in-Ok.ensures.step in
    omega (arith, more, c.played.ensures, c.played-so_far.ensures)

pub returns-in-Ok-clause-step : goal.returns-in-Ok-clause-step
returns-in-Ok-clause-step g c =
    let p = c.args.pcom.now in
    let q = c.stepped.new.pcom in
    let counted : c.played.result - c.played-so_far.result ≡ played_of q - played_of p = ap (λ n. n - c.played-so_far.result) c.played.ensures ∙ ap (λ n. played_of q - n) c.played-so_far.ensures in
    let told = c.done.ensures ∙ ap (λ x. told_by x c.args.number (call_of c.args.call.now) c.in-Ok.told (c.played.result - c.played-so_far.result)) c.standing-before.ensures in
    λ earlier stands. made_so g.met.D.Disk.keeping_tells c.args.program.now c.args.pcom.now (call_of c.args.call.now) c.args.number c.stepped.new.pcom c.args.steps.now c.stepped.new.steps earlier stands c.in-Ok.told (c.played.result - c.played-so_far.result) c.done.result c.in-Ok.ensures counted told

pub returns-in-Ok-clause-up : goal.returns-in-Ok-clause-up
returns-in-Ok-clause-up g c =
    (c.in-Ok.ensures.step.is_open, c.in-Ok.ensures.log.same, image_stays g.met.D.Disk.keeping_tells c.args.program.now c.args.pcom.now (call_of c.args.call.now) c.args.number c.stepped.new.pcom c.args.steps.now c.stepped.new.steps c.in-Ok.told c.in-Ok.ensures.step)

pub returns-in-Ok-clause-steps : goal.returns-in-Ok-clause-steps
returns-in-Ok-clause-steps g c =
    made_counts g.met.D.Disk.keeping_tells c.args.program.now c.args.pcom.now (call_of c.args.call.now) c.args.number c.stepped.new.pcom c.args.steps.now c.stepped.new.steps c.in-Ok.told c.done.result c.in-Ok.ensures

pub returns-in-Err-clause-step : goal.returns-in-Err-clause-step
returns-in-Err-clause-step g c =
    λ earlier stands. unmade_so g.met.D.Disk.keeping_tells c.args.program.now c.args.pcom.now (call_of c.args.call.now) c.args.number c.stepped.new.pcom c.args.steps.now c.stepped.new.steps earlier stands c.in-Err.why c.requires.open c.in-Err.ensures

pub returns-in-Err-clause-steps : goal.returns-in-Err-clause-steps
returns-in-Err-clause-steps g c =
    unmade_counts g.met.D.Disk.keeping_tells c.args.program.now c.args.pcom.now (call_of c.args.call.now) c.args.number c.stepped.new.pcom c.args.steps.now c.stepped.new.steps c.in-Err.why c.in-Err.ensures
