use Rattle.std.proofs.Common.{refl}
use Rattle.std.proofs.lemmas.Result.{err_from_is_err_and}
use Rattle.ic_report.specs.declared.ending.Why.TheVariants.{Memory}
use Rattle.ic_serve.specs.Serving.{no_line}
use Rattle.ic_serve.proofs.Lines.{at-end, not-read, short-of, pass-over, hand-on, serve-one, not-served}
use Rattle.ic_serve.proofs.Settled.{stays-settled, settled-then}
use Rattle.ic_serve.proofs.stretch.serve_rest.Goals as goal

pub loop-init : goal.loop-init
loop-init g c = (no_line, stays-settled c.args.texts.now.program c.args.world.now c.args.world.now c.requires.world c.requires.settled refl)

pub returns-in_err-read-clause-short : goal.returns-in_err-read-clause-short
returns-in_err-read-clause-short g c =
    let p = err_from_is_err_and c.from_residual.result c.from_residual.ensures.1 in
    rw (p.1, p.2) (not-read g.D.Disk g.K.Sink c.args.texts.now g.I.Lines (record { source = c.args.lines.now; service = c.args.service.now; world = c.args.world.now; out = c.args.out.now }) (record { source = c.loop.lines; service = c.loop.service; world = c.loop.world; out = c.loop.out }) c.loop.invariant.0 c.loop.invariant.1 c.read_next.new.lines c.read_next.new.service c.in_err-read.field-0.0 c.in_err-read.ensures.unread)

pub returns-in_default-clause-served : goal.returns-in_default-clause-served
returns-in_default-clause-served g c = at-end g.D.Disk g.K.Sink c.args.texts.now g.I.Lines (record { source = c.args.lines.now; service = c.args.service.now; world = c.args.world.now; out = c.args.out.now }) (record { source = c.loop.lines; service = c.loop.service; world = c.loop.world; out = c.loop.out }) c.loop.invariant.0 c.loop.invariant.1 c.read_next.new.lines c.read_next.new.service c.in_ok-read.field-0 c.in_ok-read.ensures.read c.in_default.is

pub returns-in_err-line-clause-short : goal.returns-in_err-line-clause-short
returns-in_err-line-clause-short g c =
    let p = err_from_is_err_and c.from_residual-in_err-line.result c.from_residual-in_err-line.ensures.1 in
    rw (p.1, p.2) (short-of g.D.Disk g.K.Sink c.args.texts.now g.I.Lines (record { source = c.args.lines.now; service = c.args.service.now; world = c.args.world.now; out = c.args.out.now }) (record { source = c.loop.lines; service = c.loop.service; world = c.loop.world; out = c.loop.out }) c.loop.invariant.0 c.loop.invariant.1 c.read_next.new.lines c.read_next.new.service Memory refl)

pub loop-preserved-in_default-2 : goal.loop-preserved-in_default-2
loop-preserved-in_default-2 g c = (pass-over g.D.Disk g.K.Sink c.args.texts.now g.I.Lines (record { source = c.args.lines.now; service = c.args.service.now; world = c.args.world.now; out = c.args.out.now }) (record { source = c.loop.lines; service = c.loop.service; world = c.loop.world; out = c.loop.out }) c.loop.invariant.0 c.loop.invariant.1 c.read_next.new.lines c.read_next.new.service c.in_ok-read.field-0 c.in-Some.read c.in_ok-read.ensures.read c.in-Some.is c.in_ok-line.field-0 c.in_ok-line.ensures.line c.in_default-2.is, c.loop.invariant.1)

pub returns-then-is_near_a_limit-clause-served : goal.returns-then-is_near_a_limit-clause-served
returns-then-is_near_a_limit-clause-served g c = hand-on g.D.Disk g.K.Sink c.args.texts.now g.I.Lines (record { source = c.args.lines.now; service = c.args.service.now; world = c.args.world.now; out = c.args.out.now }) (record { source = c.loop.lines; service = c.loop.service; world = c.loop.world; out = c.loop.out }) c.loop.invariant.0 c.loop.invariant.1 c.read_next.new.lines c.read_next.new.service c.in_ok-read.field-0 c.in-Some.read c.in_ok-read.ensures.read c.in-Some.is c.in_ok-line.field-0 c.in_ok-line.ensures.line c.in-Some-2.line c.in-Some-2.is c.in_ok-line.ensures.may

pub returns-in_err-serve_line-clause-short : goal.returns-in_err-serve_line-clause-short
returns-in_err-serve_line-clause-short g c =
    let p = err_from_is_err_and c.from_residual-in_err-serve_line.result c.from_residual-in_err-serve_line.ensures.1 in
    rw (p.1, p.2) (not-served g.D.Disk g.K.Sink c.args.texts.now g.I.Lines (record { source = c.args.lines.now; service = c.args.service.now; world = c.args.world.now; out = c.args.out.now }) (record { source = c.loop.lines; service = c.loop.service; world = c.loop.world; out = c.loop.out }) c.loop.invariant.0 c.loop.invariant.1 c.read_next.new.lines c.read_next.new.service c.in_ok-read.field-0 c.in-Some.read c.in_ok-read.ensures.read c.in-Some.is c.in_ok-line.field-0 c.in_ok-line.ensures.line c.in-Some-2.line c.in-Some-2.is c.serve_line.new.service c.serve_line.new.world c.serve_line.new.out c.in_err-serve_line.field-0.0 c.in_err-serve_line.ensures.short)

pub loop-preserved : goal.loop-preserved
loop-preserved g c = (
  serve-one g.D.Disk g.K.Sink c.args.texts.now g.I.Lines (record { source = c.args.lines.now; service = c.args.service.now; world = c.args.world.now; out = c.args.out.now }) (record { source = c.loop.lines; service = c.loop.service; world = c.loop.world; out = c.loop.out }) c.loop.invariant.0 c.loop.invariant.1 c.read_next.new.lines c.read_next.new.service c.in_ok-read.field-0 c.in-Some.read c.in_ok-read.ensures.read c.in-Some.is c.in_ok-line.field-0 c.in_ok-line.ensures.line c.in-Some-2.line c.in-Some-2.is c.serve_line.new.service c.serve_line.new.world c.serve_line.new.out c.in_ok-serve_line.ensures.served,
  settled-then c.args.texts.now.program c.args.world.now c.loop.world c.serve_line.new.world c.loop.invariant.1 c.in_ok-serve_line.ensures.world,
)

pub returns-clause-short : goal.returns-clause-short
returns-clause-short g c = short-of g.D.Disk g.K.Sink c.args.texts.now g.I.Lines (record { source = c.args.lines.now; service = c.args.service.now; world = c.args.world.now; out = c.args.out.now }) (record { source = c.loop.lines; service = c.loop.service; world = c.loop.world; out = c.loop.out }) c.loop.invariant.0 c.loop.invariant.1 c.loop.lines c.loop.service Memory refl
