use Rattle.std.proofs.Common.{ap, arith, drop, length-drop}
use Rattle.def_state.specs.Shelf.{Shelf}
use Rattle.ic_replay.proofs.Sending.{made_behind}
use Rattle.ic_replay.proofs.applying.add_all.Goals as goal

pub add-requires-clause-limit : goal.add-requires-clause-limit
add-requires-clause-limit c =
    let left = drop c.loop-out.out-index c.args.outs.now in
    omega (arith, made_behind c.args.at c.loop-out.shelf.shelf left, ap (λ (x : Shelf). x.made) c.loop-out.invariant.added, length-drop c.loop-out.out-index c.args.outs.now, c.requires.limits)
