use Rattle.std.proofs.Common.{refl}
use Rattle.std.specs.Prelude.{Ok, Err}
use Rattle.std.proofs.lemmas.Result.{err_from_is_err_and}
use Rattle.ic_run.proofs.Under.{all-under}
use Rattle.ic_world.specs.Opening.{disks_under}
use Rattle.ic_world.specs.Views.{components_of}
use Rattle.ic_serve.specs.Runs.{at_opening}
use Rattle.ic_serve.specs.declared.stretch.First.TheVariants.{Opening, Line as ALine}
use Rattle.ic_serve.proofs.Handed.{opened-goes-on}
use Rattle.ic_serve.proofs.Renewing.{first-over, first-served, unrenewed, finds, next-kept, next-over, next-served}
use Rattle.ic_serve.proofs.Stretches.{to-end, stops-short, no-more}
use Rattle.ic_serve.proofs.run.serve_worlds.Goals as goal

pub returns-in_err-next-clause-serves : goal.returns-in_err-next-clause-serves
returns-in_err-next-clause-serves g c disks opens =
    let p = err_from_is_err_and c.from_residual.result c.from_residual.ensures.1 in
    let why = c.in_err-next.field-0.0 in
    rw (p.1, p.2) (stops-short g.D.Disk g.K.Sink c.args.texts.now g.I.Lines (record { source = c.args.lines.now; service = c.args.service.now; disks = disks; out = c.args.out.now }) (record { source = c.args.lines.now; service = c.args.service.now; disks = disks; out = c.args.out.now }) Opening at_opening (record { source = c.serve_world.new.lines; service = c.serve_world.new.service; disks = disks_under (components_of c.serve_world.new.world); out = c.serve_world.new.out }) (Err why) (first-over g.D.Disk g.K.Sink c.args.texts.now g.I.Lines (record { source = c.args.lines.now; service = c.args.service.now; world = c.args.world.now; out = c.args.out.now }) c.requires.long (record { source = c.serve_world.new.lines; service = c.serve_world.new.service; world = c.serve_world.new.world; out = c.serve_world.new.out }) c.in_err-next.ensures.disks (Err why) tt c.in_err-next.ensures.short disks opens) why refl)

pub returns-in_err-next-clause-kept : goal.returns-in_err-next-clause-kept
returns-in_err-next-clause-kept g c = all-under g.D.Disk c.args.world.now c.serve_world.new.world c.in_err-next.ensures.disks

pub returns-in_default-clause-serves : goal.returns-in_default-clause-serves
returns-in_default-clause-serves g c disks opens =
    let next = c.in_ok-next.field-0 in
    to-end g.D.Disk g.K.Sink c.args.texts.now g.I.Lines (record { source = c.args.lines.now; service = c.args.service.now; disks = disks; out = c.args.out.now }) (record { source = c.args.lines.now; service = c.args.service.now; disks = disks; out = c.args.out.now }) Opening at_opening (record { source = c.serve_world.new.lines; service = c.serve_world.new.service; disks = disks_under (components_of c.serve_world.new.world); out = c.serve_world.new.out }) (Ok next) (first-over g.D.Disk g.K.Sink c.args.texts.now g.I.Lines (record { source = c.args.lines.now; service = c.args.service.now; world = c.args.world.now; out = c.args.out.now }) c.requires.long (record { source = c.serve_world.new.lines; service = c.serve_world.new.service; world = c.serve_world.new.world; out = c.serve_world.new.out }) c.in_ok-next.ensures.disks (Ok next) c.in_ok-next.ensures.serves tt disks opens) next refl c.in_default.is

pub returns-in_default-clause-kept : goal.returns-in_default-clause-kept
returns-in_default-clause-kept g c = all-under g.D.Disk c.args.world.now c.serve_world.new.world c.in_ok-next.ensures.disks

pub loop-init : goal.loop-init
loop-init g c = first-served g.D.Disk g.K.Sink c.args.texts.now g.I.Lines (record { source = c.args.lines.now; service = c.args.service.now; world = c.args.world.now; out = c.args.out.now }) c.requires.long (record { source = c.serve_world.new.lines; service = c.serve_world.new.service; world = c.serve_world.new.world; out = c.serve_world.new.out }) c.requires.count c.requires.print c.in_ok-next.ensures.disks c.in_ok-next.field-0 c.in-Some.next c.in-Some.is c.in_ok-next.ensures.serves c.in_ok-next.ensures.line

pub renew-requires : goal.renew-requires
renew-requires g c = record { going = c.loop.invariant.goes_on.going }

pub returns-in_err-renew-clause-serves : goal.returns-in_err-renew-clause-serves
returns-in_err-renew-clause-serves g c disks opens =
    let p = err_from_is_err_and c.from_residual-in_err-renew.result c.from_residual-in_err-renew.ensures.1 in
    rw (p.1, p.2) (unrenewed g.D.Disk g.K.Sink c.args.texts.now g.I.Lines (record { source = c.args.lines.now; service = c.args.service.now; world = c.args.world.now; out = c.args.out.now }) c.requires.long (record { source = c.loop.lines; service = c.loop.service; world = c.loop.world; out = c.loop.out }) (record { source = c.loop.lines; service = c.loop.service; world = c.loop.world; out = c.loop.out }) c.loop.line c.loop.invariant c.renew.new.self c.renew.ensures.disks disks opens)

pub returns-in_err-renew-clause-kept : goal.returns-in_err-renew-clause-kept
returns-in_err-renew-clause-kept g c = rw c.renew.ensures.disks c.loop.invariant.kept

pub serve_world-requires-in-loop-clause-world : goal.serve_world-requires-in-loop-clause-world
serve_world-requires-in-loop-clause-world g c =
    opened-goes-on g.D.Disk c.args.texts.now.program c.args.texts.now.fingerprint (ALine c.loop.line) (disks_under (components_of c.loop.world)) c.renew.new.self c.requires.small.components
    (finds g.D.Disk g.K.Sink c.args.texts.now g.I.Lines (record { source = c.args.lines.now; service = c.args.service.now; world = c.args.world.now; out = c.args.out.now }) c.requires.long (record { source = c.loop.lines; service = c.loop.service; world = c.loop.world; out = c.loop.out }) (record { source = c.loop.lines; service = c.loop.service; world = c.loop.world; out = c.loop.out }) c.loop.line c.loop.invariant c.renew.new.self c.in_ok-renew.ensures.step)

pub serve_world-requires-in-loop-clause-line : goal.serve_world-requires-in-loop-clause-line
serve_world-requires-in-loop-clause-line g c = c.loop.invariant.may

pub returns-in_err-next-2-clause-serves : goal.returns-in_err-next-2-clause-serves
returns-in_err-next-2-clause-serves g c disks opens =
    let p = err_from_is_err_and c.from_residual-in_err-next-2.result c.from_residual-in_err-next-2.ensures.1 in
    let why = c.in_err-next-2.field-0.0 in
    rw (p.1, p.2) (stops-short g.D.Disk g.K.Sink c.args.texts.now g.I.Lines (record { source = c.args.lines.now; service = c.args.service.now; disks = disks; out = c.args.out.now }) (record { source = c.loop.lines; service = c.loop.service; disks = disks_under (components_of c.loop.world); out = c.loop.out }) (ALine c.loop.line) (c.loop.invariant.serves disks opens) (record { source = c.serve_world-in-loop.new.lines; service = c.serve_world-in-loop.new.service; disks = disks_under (components_of c.serve_world-in-loop.new.world); out = c.serve_world-in-loop.new.out }) (Err why)
    (next-over g.D.Disk g.K.Sink c.args.texts.now g.I.Lines (record { source = c.args.lines.now; service = c.args.service.now; world = c.args.world.now; out = c.args.out.now }) c.requires.long (record { source = c.serve_world-in-loop.new.lines; service = c.serve_world-in-loop.new.service; world = c.serve_world-in-loop.new.world; out = c.serve_world-in-loop.new.out }) (record { source = c.loop.lines; service = c.loop.service; world = c.loop.world; out = c.loop.out }) c.loop.line c.loop.invariant c.renew.new.self c.in_ok-renew.ensures.step c.in_err-next-2.ensures.disks (Err why) tt c.in_err-next-2.ensures.short) why refl)

pub returns-in_err-next-2-clause-kept : goal.returns-in_err-next-2-clause-kept
returns-in_err-next-2-clause-kept g c = next-kept g.D.Disk g.K.Sink c.args.texts.now g.I.Lines (record { source = c.args.lines.now; service = c.args.service.now; world = c.args.world.now; out = c.args.out.now }) c.requires.long (record { source = c.serve_world-in-loop.new.lines; service = c.serve_world-in-loop.new.service; world = c.serve_world-in-loop.new.world; out = c.serve_world-in-loop.new.out }) (record { source = c.loop.lines; service = c.loop.service; world = c.loop.world; out = c.loop.out }) c.loop.line c.loop.invariant c.renew.new.self c.in_ok-renew.ensures.step c.in_err-next-2.ensures.disks

pub returns-in-None-clause-serves : goal.returns-in-None-clause-serves
returns-in-None-clause-serves g c disks opens =
    let next = c.in_ok-next-2.field-0 in
    to-end g.D.Disk g.K.Sink c.args.texts.now g.I.Lines (record { source = c.args.lines.now; service = c.args.service.now; disks = disks; out = c.args.out.now }) (record { source = c.loop.lines; service = c.loop.service; disks = disks_under (components_of c.loop.world); out = c.loop.out }) (ALine c.loop.line) (c.loop.invariant.serves disks opens) (record { source = c.serve_world-in-loop.new.lines; service = c.serve_world-in-loop.new.service; disks = disks_under (components_of c.serve_world-in-loop.new.world); out = c.serve_world-in-loop.new.out }) (Ok next)
    (next-over g.D.Disk g.K.Sink c.args.texts.now g.I.Lines (record { source = c.args.lines.now; service = c.args.service.now; world = c.args.world.now; out = c.args.out.now }) c.requires.long (record { source = c.serve_world-in-loop.new.lines; service = c.serve_world-in-loop.new.service; world = c.serve_world-in-loop.new.world; out = c.serve_world-in-loop.new.out }) (record { source = c.loop.lines; service = c.loop.service; world = c.loop.world; out = c.loop.out }) c.loop.line c.loop.invariant c.renew.new.self c.in_ok-renew.ensures.step c.in_ok-next-2.ensures.disks (Ok next) c.in_ok-next-2.ensures.serves tt) next refl c.in-None.is

pub returns-in-None-clause-kept : goal.returns-in-None-clause-kept
returns-in-None-clause-kept g c = next-kept g.D.Disk g.K.Sink c.args.texts.now g.I.Lines (record { source = c.args.lines.now; service = c.args.service.now; world = c.args.world.now; out = c.args.out.now }) c.requires.long (record { source = c.serve_world-in-loop.new.lines; service = c.serve_world-in-loop.new.service; world = c.serve_world-in-loop.new.world; out = c.serve_world-in-loop.new.out }) (record { source = c.loop.lines; service = c.loop.service; world = c.loop.world; out = c.loop.out }) c.loop.line c.loop.invariant c.renew.new.self c.in_ok-renew.ensures.step c.in_ok-next-2.ensures.disks

pub loop-preserved : goal.loop-preserved
loop-preserved g c =
    next-served g.D.Disk g.K.Sink c.args.texts.now g.I.Lines (record { source = c.args.lines.now; service = c.args.service.now; world = c.args.world.now; out = c.args.out.now }) c.requires.long (record { source = c.serve_world-in-loop.new.lines; service = c.serve_world-in-loop.new.service; world = c.serve_world-in-loop.new.world; out = c.serve_world-in-loop.new.out }) (record { source = c.loop.lines; service = c.loop.service; world = c.loop.world; out = c.loop.out }) c.loop.line c.loop.invariant c.renew.new.self c.in_ok-renew.ensures.step c.in_ok-next-2.ensures.disks c.in_ok-next-2.field-0 c.in-Some-2.next c.in-Some-2.is c.in_ok-next-2.ensures.serves c.in_ok-next-2.ensures.line

pub returns-clause-serves : goal.returns-clause-serves
returns-clause-serves g c disks opens = no-more g.D.Disk g.K.Sink c.args.texts.now g.I.Lines (record { source = c.args.lines.now; service = c.args.service.now; disks = disks; out = c.args.out.now }) (record { source = c.loop.lines; service = c.loop.service; disks = disks_under (components_of c.loop.world); out = c.loop.out }) (ALine c.loop.line) (c.loop.invariant.serves disks opens)

pub returns-clause-kept : goal.returns-clause-kept
returns-clause-kept g c = c.loop.invariant.kept
