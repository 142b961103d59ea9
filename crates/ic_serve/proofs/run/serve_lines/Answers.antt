use Rattle.std.proofs.Common.{◌∙◌, sym, ap, subst, refl, arith, ◌≤◌, ◌+◌, length, inl}
use Rattle.ic_run.proofs.Places.{lent_count, all_count}
use Rattle.ic_run.proofs.Programs.{enough_back}
use Rattle.ic_serve.proofs.Handed.{back-count}
use Rattle.ic_serve.proofs.Called.{enough, lent-kept, hands-back, served-all, stopped-short}
use Rattle.ic_serve.proofs.run.serve_lines.Goals as goal

pub returns-in_default-clause-runs : goal.returns-in_default-clause-runs
returns-in_default-clause-runs g c = inl (record { memory = refl; stay = (c.in_default.ensures {u = tt}).kept; unread = refl; silent = refl })

pub serve_over-taken-requires-clause-disks : goal.serve_over-taken-requires-clause-disks
serve_over-taken-requires-clause-disks g c =
    ap length (c.in-Ok.ensures {u = tt}).taken
    ∙ lent_count c.args.texts.now.program.components c.args.disks.now.items (enough g.D.Disk g.K.Sink c.args.texts.now g.I.Lines c.args.disks.now.items c.requires.small.components c.requires.disks)

pub put_back-requires-clause-count : goal.put_back-requires-clause-count
put_back-requires-clause-count g c =
    let few = enough g.D.Disk g.K.Sink c.args.texts.now g.I.Lines c.args.disks.now.items c.requires.small.components c.requires.disks in
    let kept = lent-kept g.D.Disk g.K.Sink c.args.texts.now g.I.Lines c.args.disks.now.items c.requires.small.components c.requires.disks c.args.lines.now c.serve_over-taken.new.lines c.args.out.now c.serve_over-taken.new.out c.serve_over-taken.result.0.items c.serve_over-taken.result.1 (c.in-Ok.ensures {u = tt}).taken c.serve_over-taken.ensures.serves c.serve_over-taken.ensures.kept in
    back-count g.D.Disk c.args.texts.now.program c.args.disks.now.items few c.serve_over-taken.result.0.items kept

pub put_back-requires-clause-enough : goal.put_back-requires-clause-enough
put_back-requires-clause-enough g c =
    let few = enough g.D.Disk g.K.Sink c.args.texts.now g.I.Lines c.args.disks.now.items c.requires.small.components c.requires.disks in
    subst (λ n. length c.args.texts.now.program.components ≤ n + length c.serve_over-taken.result.0.items) (sym (ap length (c.in-Ok.ensures {u = tt}).left))
    (enough_back c.args.texts.now.program c.args.disks.now.items c.serve_over-taken.result.0.items few (put_back-requires-clause-count g c))

pub put_back-requires-clause-room : goal.put_back-requires-clause-room
put_back-requires-clause-room g c =
    let few = enough g.D.Disk g.K.Sink c.args.texts.now g.I.Lines c.args.disks.now.items c.requires.small.components c.requires.disks in
    omega (
      arith,
      put_back-requires-clause-count g c,
      ap length (c.in-Ok.ensures {u = tt}).left,
      all_count c.args.texts.now.program.components c.args.disks.now.items few,
      lent_count c.args.texts.now.program.components c.args.disks.now.items few,
      (c.in-Ok.ensures {u = tt}).room,
      c.args.disks.now.ok.0,
      c.args.disks.now.ok.1,
      c.take_disks.new.disks.ok.0,
      c.serve_over-taken.result.0.ok.0,
    )

pub returns-in-Ok-ended-clause-runs : goal.returns-in-Ok-ended-clause-runs
returns-in-Ok-ended-clause-runs g c =
    served-all g.D.Disk g.K.Sink c.args.texts.now g.I.Lines c.args.disks.now.items c.requires.small.components c.requires.disks c.args.lines.now c.serve_over-taken.new.lines c.args.out.now c.serve_over-taken.new.out c.serve_over-taken.result.0.items c.serve_over-taken.result.1 (c.in-Ok.ensures {u = tt}).taken c.serve_over-taken.ensures.serves c.serve_over-taken.ensures.kept
    (c.in-Ok.ensures {u = tt}).left c.put_back.ensures tt c.in-Ok-ended.is

pub returns-in-Ok-ended-clause-disks : goal.returns-in-Ok-ended-clause-disks
returns-in-Ok-ended-clause-disks g c =
    hands-back g.D.Disk g.K.Sink c.args.texts.now g.I.Lines c.args.disks.now.items c.requires.small.components c.requires.disks c.args.lines.now c.serve_over-taken.new.lines c.args.out.now c.serve_over-taken.new.out c.serve_over-taken.result.0.items c.serve_over-taken.result.1 (c.in-Ok.ensures {u = tt}).taken c.serve_over-taken.ensures.serves c.serve_over-taken.ensures.kept
    (c.in-Ok.ensures {u = tt}).left c.put_back.ensures

pub returns-in-Err-clause-runs : goal.returns-in-Err-clause-runs
returns-in-Err-clause-runs g c =
    stopped-short g.D.Disk g.K.Sink c.args.texts.now g.I.Lines c.args.disks.now.items c.requires.small.components c.requires.disks c.args.lines.now c.serve_over-taken.new.lines c.args.out.now c.serve_over-taken.new.out c.serve_over-taken.result.0.items c.serve_over-taken.result.1 (c.in-Ok.ensures {u = tt}).taken c.serve_over-taken.ensures.serves c.serve_over-taken.ensures.kept
    (c.in-Ok.ensures {u = tt}).left c.put_back.ensures c.end_as.new.out c.in-Err.why c.end_as.result c.in-Err.is c.end_as.ensures

pub returns-in-Err-clause-disks : goal.returns-in-Err-clause-disks
returns-in-Err-clause-disks g c =
    hands-back g.D.Disk g.K.Sink c.args.texts.now g.I.Lines c.args.disks.now.items c.requires.small.components c.requires.disks c.args.lines.now c.serve_over-taken.new.lines c.args.out.now c.serve_over-taken.new.out c.serve_over-taken.result.0.items c.serve_over-taken.result.1 (c.in-Ok.ensures {u = tt}).taken c.serve_over-taken.ensures.serves c.serve_over-taken.ensures.kept
    (c.in-Ok.ensures {u = tt}).left c.put_back.ensures
