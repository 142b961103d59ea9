use Rattle.ic_threads.proofs.Marks.{seen-next, told-next}
use Rattle.ic_threads.proofs.outputs.add_outputs_of.Goals as goal

pub loop-showing-preserved : goal.loop-showing-preserved
loop-showing-preserved c =
    let p = c.args.program.now in
    let i = c.loop-showing.showing-index in
    let x = c.showing-item.result in
    let seen = c.loop-showing.seen.showings in (
      seen-next p c.args.level c.args.c c.args.showings.now i x seen c.add_showing.new.seen.showings c.loop-showing-test.true c.showing-item.is c.loop-showing.invariant.0 c.in_ok-add_showing.ensures.seen,
      told-next p c.args.level c.args.c c.args.showings.now i x seen c.args.outputs.now c.loop-showing.outputs c.add_showing.new.outputs c.loop-showing-test.true c.showing-item.is c.loop-showing.invariant.0 c.loop-showing.invariant.1 c.in_ok-add_showing.ensures.told,
    )
