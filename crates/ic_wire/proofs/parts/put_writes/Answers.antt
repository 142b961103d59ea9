use Rattle.std.proofs.lemmas.Option.{slice_get-get_or}
use Rattle.def_log.specs.Spelling.{write, IsWrite}
use Rattle.ic_wire.proofs.Ranges.{spells_on, fits_on}
use Rattle.ic_wire.proofs.parts.put_writes.Goals as goal

pub loop-written-preserved : goal.loop-written-preserved
loop-written-preserved c =
    let i = c.loop-written.written-index in (
      spells_on write c.args.out.now.items c.loop-written.out.items c.put_write.new.out.items c.args.writes.now i _ (slice_get-get_or c.args.writes.now i _ c.loop-written-test.true) c.loop-written.invariant.0 c.in_ok-put_write.ensures.spelled,
      fits_on IsWrite c.args.writes.now i _ (slice_get-get_or c.args.writes.now i _ c.loop-written-test.true) c.loop-written.invariant.1 c.in_ok-put_write.ensures.fit,
    )
