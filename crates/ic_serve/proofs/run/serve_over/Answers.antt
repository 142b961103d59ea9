use Rattle.std.proofs.Common.{◌≡◌, ◌∙◌, ap, refl, arith, ◌++◌}
use Rattle.std.specs.Prelude.{Err}
use Rattle.ic_world.specs.Opening.{disks_under}
use Rattle.ic_world.specs.Views.{components_of}
use Rattle.ic_world.proofs.Makings.{kept-all, kept-count, kept-trans}
use Rattle.ic_serve.specs.Runs.{at_opening, unopened}
use Rattle.ic_serve.specs.declared.stretch.First.TheVariants.{Opening}
use Rattle.ic_serve.proofs.Handed.{refused-kept, opened-new, opened-goes-on}
use Rattle.ic_serve.proofs.Stretches.{stops-short, no-more}
use Rattle.ic_serve.proofs.run.serve_over.Goals as goal

pub returns-in_default-clause-serves : goal.returns-in_default-clause-serves
returns-in_default-clause-serves g c = record { service = c.new-service.result; fresh = c.new-service.ensures; behind = c.new-service.result; serves = no-more g.D.Disk g.K.Sink c.args.texts.now g.I.Lines (record { source = c.args.lines.now; service = c.new-service.result; disks = c.args.disks.items; out = c.args.out.now }) (record { source = c.args.lines.now; service = c.new-service.result; disks = c.args.disks.items; out = c.args.out.now }) Opening at_opening }

pub returns-in_default-clause-kept : goal.returns-in_default-clause-kept
returns-in_default-clause-kept g c = kept-all g.D.Disk c.args.disks.items

pub returns-in-Err-clause-serves : goal.returns-in-Err-clause-serves
returns-in-Err-clause-serves g c =
    let why = c.why_of_start-why.result in
    record {
      service = c.new-service.result;
      fresh = c.new-service.ensures;
      behind = c.new-service.result;
      serves = stops-short g.D.Disk g.K.Sink c.args.texts.now g.I.Lines (record { source = c.args.lines.now; service = c.new-service.result; disks = c.args.disks.items; out = c.args.out.now }) (record { source = c.args.lines.now; service = c.new-service.result; disks = c.args.disks.items; out = c.args.out.now }) Opening at_opening (record { source = c.args.lines.now; service = c.new-service.result; disks = c.in-Err.refused.disks.items; out = c.args.out.now }) (Err why) (unopened c.in-Err.refused c.why_of_start-why.ensures c.in-Err.ensures.refused refl refl) why refl;
    }

pub returns-in-Err-clause-kept : goal.returns-in-Err-clause-kept
returns-in-Err-clause-kept g c = refused-kept g.D.Disk c.args.texts.now.program c.args.texts.now.fingerprint Opening c.args.disks.items c.in-Err.refused c.in-Err.ensures.refused

pub serve_worlds-ended-requires : goal.serve_worlds-ended-requires
serve_worlds-ended-requires g c =
    let n = opened-new g.D.Disk c.args.texts.now.program c.args.texts.now.fingerprint Opening c.args.disks.items c.in-Ok-open.world c.in-Ok-open.ensures.step in
    record {
      world = opened-goes-on g.D.Disk c.args.texts.now.program c.args.texts.now.fingerprint Opening c.args.disks.items c.in-Ok-open.world c.requires.small.components c.in-Ok-open.ensures.step;
      small = c.requires.small;
      count = n.2.count;
      print = n.2.is_own;
      long = c.in-Ok-open.ensures.print;
    }

pub into_disks-requires : goal.into_disks-requires
into_disks-requires g c =
    let n = opened-new g.D.Disk c.args.texts.now.program c.args.texts.now.fingerprint Opening c.args.disks.items c.in-Ok-open.world c.in-Ok-open.ensures.step in
    omega (
      arith,
      c.in-Ok.ensures.len,
      c.in-Ok.ensures.capacity,
      c.len.ensures,
      kept-count g.D.Disk c.args.disks.items n.0 n.1,
      kept-count g.D.Disk n.0 (disks_under (components_of c.in-Ok-open.world)) n.2.disks,
      kept-count g.D.Disk (disks_under (components_of c.in-Ok-open.world)) (disks_under (components_of c.serve_worlds-ended.new.world)) c.serve_worlds-ended.ensures.kept,
      c.args.disks.ok,
    )

pub returns-clause-serves : goal.returns-clause-serves
returns-clause-serves g c =
    let back : c.into_disks.new.back.items ≡ disks_under (components_of c.serve_worlds-ended.new.world) = c.into_disks.ensures ∙ ap (λ l. l ++ disks_under (components_of c.serve_worlds-ended.new.world)) c.in-Ok.ensures.items in
    record {
      service = c.new-service.result;
      fresh = c.new-service.ensures;
      behind = c.serve_worlds-ended.new.service;
      serves = rw back (c.serve_worlds-ended.ensures.serves c.args.disks.items c.in-Ok-open.ensures.step);
    }

pub returns-clause-kept : goal.returns-clause-kept
returns-clause-kept g c =
    let back : c.into_disks.new.back.items ≡ disks_under (components_of c.serve_worlds-ended.new.world) = c.into_disks.ensures ∙ ap (λ l. l ++ disks_under (components_of c.serve_worlds-ended.new.world)) c.in-Ok.ensures.items in
    let n = opened-new g.D.Disk c.args.texts.now.program c.args.texts.now.fingerprint Opening c.args.disks.items c.in-Ok-open.world c.in-Ok-open.ensures.step in
    let under = disks_under (components_of c.in-Ok-open.world) in
    let end = disks_under (components_of c.serve_worlds-ended.new.world) in
    rw back (kept-trans g.D.Disk c.args.disks.items n.0 end n.1 (kept-trans g.D.Disk n.0 under end n.2.disks c.serve_worlds-ended.ensures.kept))
