use Rattle.std.proofs.Common.{subst, List}
use Rattle.ic_base.specs.declared.messages.ComId.{ComId}
use Rattle.ic_base.specs.declared.messages.Output.{Output}
use Rattle.ic_world.specs.Assembling.{Assembles}
use Rattle.ic_joins.proofs.Assembled.{are-placed, hold-logs, made-for}
use Rattle.ic_joins.proofs.Joined.{stands-joined}
use Rattle.ic_joins.proofs.assembling.assemble.Goals as goal

pub assemble-requires-clause-placed : goal.assemble-requires-clause-placed
assemble-requires-clause-placed g c = are-placed c.args.program.now c.args.fingerprint.now c.args.components c.args.progresses.now c.requires.returned c.in_ok-all.all.items c.in_ok-all.ensures

pub assemble-requires-clause-logs : goal.assemble-requires-clause-logs
assemble-requires-clause-logs g c = hold-logs c.args.program.now c.args.fingerprint.now c.args.components c.args.progresses.now c.requires.returned c.in_ok-all.all.items c.in_ok-all.ensures

pub assemble-requires-clause-made : goal.assemble-requires-clause-made
assemble-requires-clause-made g c = made-for c.args.program.now c.args.fingerprint.now c.args.components c.args.progresses.now c.requires.returned c.in_ok-all.all.items c.in_ok-all.ensures c.requires.playable c.args.shown

pub returns-in-Ok-clause-joined : goal.returns-in-Ok-clause-joined
returns-in-Ok-clause-joined g c plan joined =
    let P : List (ComId × Output) → Type 0 = λ s. Assembles c.args.program.now c.args.fingerprint.now c.in_ok-all.all.items s c.in-Ok.world in
    stands-joined c.args.program.now c.args.fingerprint.now plan c.args.components c.args.progresses.now c.requires.returned joined c.in_ok-all.all.items c.in_ok-all.ensures c.in-Ok.world (subst P c.requires.shown c.in-Ok.ensures.step)
