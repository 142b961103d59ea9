use Rattle.std.proofs.Common.{refl, Some, None}
use Rattle.std.proofs.lemmas.Result.{err_from_is_err_and}
use Rattle.ic_run.proofs.Onward.{keeps-then}
use Rattle.ic_serve.specs.Worlds.{untaken}
use Rattle.ic_serve.proofs.Settled.{settled-then, take-up-keeps, give-up-keeps}
use Rattle.ic_serve.proofs.Stretches.{stops-serving, ends-world, stops-ending}
use Rattle.ic_serve.proofs.run.serve_world.Goals as goal

pub returns-in_err-take_up-clause-disks : goal.returns-in_err-take_up-clause-disks
returns-in_err-take_up-clause-disks g c =
    take-up-keeps g.D.Disk c.args.texts.now g.K.Sink c.args.first.now c.args.service.now c.args.world.now c.take_up.new.world c.args.out.now c.take_up.new.out c.in_err-take_up.field-0.0 c.in_err-take_up.ensures.short

pub returns-in_err-take_up-clause-short : goal.returns-in_err-take_up-clause-short
returns-in_err-take_up-clause-short g c =
    let p = err_from_is_err_and c.from_residual.result c.from_residual.ensures.1 in
    rw (p.1, p.2) (untaken c.in_err-take_up.ensures.short refl)

pub returns-in_err-line-clause-disks : goal.returns-in_err-line-clause-disks
returns-in_err-line-clause-disks g c = keeps-then c.args.world.now c.take_up.new.world c.serve_rest.new.world c.in_ok-take_up.ensures.world.disks c.in_err-line.ensures.short.disks

pub returns-in_err-line-clause-short : goal.returns-in_err-line-clause-short
returns-in_err-line-clause-short g c =
    let p = err_from_is_err_and c.from_residual-in_err-line.result c.from_residual-in_err-line.ensures.1 in
    rw (p.1, p.2) (stops-serving g.D.Disk g.K.Sink c.args.texts.now g.I.Lines c.args.first.now (record { source = c.args.lines.now; service = c.args.service.now; world = c.args.world.now; out = c.args.out.now }) (record { source = c.args.lines.now; service = c.take_up.new.service; world = c.take_up.new.world; out = c.take_up.new.out }) c.in_ok-take_up.ensures.up refl (record { source = c.serve_rest.new.lines; service = c.serve_rest.new.service; world = c.serve_rest.new.world; out = c.serve_rest.new.out }) c.in_err-line.field-0.0 c.in_err-line.ensures.short)

pub returns-in_err-give_up-in-Some-clause-disks : goal.returns-in_err-give_up-in-Some-clause-disks
returns-in_err-give_up-in-Some-clause-disks g c =
    keeps-then c.args.world.now c.take_up.new.world c.give_up.new.world c.in_ok-take_up.ensures.world.disks
    (keeps-then c.take_up.new.world c.serve_rest.new.world c.give_up.new.world c.in_ok-line.ensures.world.disks
    (give-up-keeps g.D.Disk c.args.texts.now c.serve_rest.new.service c.serve_rest.new.world c.give_up.new.world c.in_err-give_up-in-Some.field-0.0 c.in_err-give_up-in-Some.ensures.cut))

pub returns-in_err-give_up-in-Some-clause-short : goal.returns-in_err-give_up-in-Some-clause-short
returns-in_err-give_up-in-Some-clause-short g c =
    let p = err_from_is_err_and c.from_residual-in_err-give_up-in-Some.result c.from_residual-in_err-give_up-in-Some.ensures.1 in
    rw (p.1, p.2) (stops-ending g.D.Disk g.K.Sink c.args.texts.now g.I.Lines c.args.first.now (record { source = c.args.lines.now; service = c.args.service.now; world = c.args.world.now; out = c.args.out.now }) (record { source = c.args.lines.now; service = c.take_up.new.service; world = c.take_up.new.world; out = c.take_up.new.out }) c.in_ok-take_up.ensures.up refl (record { source = c.serve_rest.new.lines; service = c.serve_rest.new.service; world = c.serve_rest.new.world; out = c.serve_rest.new.out }) c.in_ok-line.field-0 (Some c.in-Some.line) c.in-Some.is c.in_ok-line.ensures.served (record { source = c.serve_rest.new.lines; service = c.give_up.new.service; world = c.give_up.new.world; out = c.serve_rest.new.out }) refl c.in_err-give_up-in-Some.field-0.0 (c.in_err-give_up-in-Some.ensures.cut, refl))

pub returns-in_err-conclude-in-None-clause-disks : goal.returns-in_err-conclude-in-None-clause-disks
returns-in_err-conclude-in-None-clause-disks g c = keeps-then c.args.world.now c.take_up.new.world c.serve_rest.new.world c.in_ok-take_up.ensures.world.disks c.in_ok-line.ensures.world.disks

pub returns-in_err-conclude-in-None-clause-short : goal.returns-in_err-conclude-in-None-clause-short
returns-in_err-conclude-in-None-clause-short g c =
    let p = err_from_is_err_and c.from_residual-in_err-conclude-in-None.result c.from_residual-in_err-conclude-in-None.ensures.1 in
    rw (p.1, p.2) (stops-ending g.D.Disk g.K.Sink c.args.texts.now g.I.Lines c.args.first.now (record { source = c.args.lines.now; service = c.args.service.now; world = c.args.world.now; out = c.args.out.now }) (record { source = c.args.lines.now; service = c.take_up.new.service; world = c.take_up.new.world; out = c.take_up.new.out }) c.in_ok-take_up.ensures.up refl (record { source = c.serve_rest.new.lines; service = c.serve_rest.new.service; world = c.serve_rest.new.world; out = c.serve_rest.new.out }) c.in_ok-line.field-0 None c.in-None.is c.in_ok-line.ensures.served (record { source = c.serve_rest.new.lines; service = c.serve_rest.new.service; world = c.serve_rest.new.world; out = c.conclude.new.out }) refl c.in_err-conclude-in-None.field-0.0 (c.in_err-conclude-in-None.ensures.refused, refl))

pub returns-in_ok-give_up-in-Some-clause-serves : goal.returns-in_ok-give_up-in-Some-clause-serves
returns-in_ok-give_up-in-Some-clause-serves g c =
    ends-world g.D.Disk g.K.Sink c.args.texts.now g.I.Lines c.args.first.now (record { source = c.args.lines.now; service = c.args.service.now; world = c.args.world.now; out = c.args.out.now }) (record { source = c.args.lines.now; service = c.take_up.new.service; world = c.take_up.new.world; out = c.take_up.new.out }) c.in_ok-take_up.ensures.up refl (record { source = c.serve_rest.new.lines; service = c.serve_rest.new.service; world = c.serve_rest.new.world; out = c.serve_rest.new.out }) c.in_ok-line.field-0 (Some c.in-Some.line) c.in-Some.is c.in_ok-line.ensures.served (record { source = c.serve_rest.new.lines; service = c.give_up.new.service; world = c.give_up.new.world; out = c.serve_rest.new.out }) refl (c.in_ok-give_up-in-Some.ensures.given_up, refl)
    (settled-then c.args.texts.now.program c.args.world.now c.take_up.new.world c.give_up.new.world c.in_ok-take_up.ensures.world (settled-then c.args.texts.now.program c.take_up.new.world c.serve_rest.new.world c.give_up.new.world c.in_ok-line.ensures.world c.in_ok-give_up-in-Some.ensures.world))

pub returns-in_ok-give_up-in-Some-clause-disks : goal.returns-in_ok-give_up-in-Some-clause-disks
returns-in_ok-give_up-in-Some-clause-disks g c =
    keeps-then c.args.world.now c.take_up.new.world c.give_up.new.world c.in_ok-take_up.ensures.world.disks
    (keeps-then c.take_up.new.world c.serve_rest.new.world c.give_up.new.world c.in_ok-line.ensures.world.disks c.in_ok-give_up-in-Some.ensures.world.disks)

pub returns-in_ok-conclude-in-None-clause-serves : goal.returns-in_ok-conclude-in-None-clause-serves
returns-in_ok-conclude-in-None-clause-serves g c =
    ends-world g.D.Disk g.K.Sink c.args.texts.now g.I.Lines c.args.first.now (record { source = c.args.lines.now; service = c.args.service.now; world = c.args.world.now; out = c.args.out.now }) (record { source = c.args.lines.now; service = c.take_up.new.service; world = c.take_up.new.world; out = c.take_up.new.out }) c.in_ok-take_up.ensures.up refl (record { source = c.serve_rest.new.lines; service = c.serve_rest.new.service; world = c.serve_rest.new.world; out = c.serve_rest.new.out }) c.in_ok-line.field-0 None c.in-None.is c.in_ok-line.ensures.served (record { source = c.serve_rest.new.lines; service = c.serve_rest.new.service; world = c.serve_rest.new.world; out = c.conclude.new.out }) refl (c.in_ok-conclude-in-None.ensures.printed, refl)
    (settled-then c.args.texts.now.program c.args.world.now c.take_up.new.world c.serve_rest.new.world c.in_ok-take_up.ensures.world c.in_ok-line.ensures.world)

pub returns-in_ok-conclude-in-None-clause-disks : goal.returns-in_ok-conclude-in-None-clause-disks
returns-in_ok-conclude-in-None-clause-disks g c = keeps-then c.args.world.now c.take_up.new.world c.serve_rest.new.world c.in_ok-take_up.ensures.world.disks c.in_ok-line.ensures.world.disks
