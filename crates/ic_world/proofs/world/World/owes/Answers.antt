use Rattle.std.proofs.Common.{◌∙◌, ap, sym, false}
use Rattle.def_step.specs.Settle as settle
use Rattle.ic_world.specs.Reading.{at_node}
use Rattle.ic_world.specs.Views.{world_of}
use Rattle.ic_world.proofs.ComponentReads.{there, nowhere, none-past}
use Rattle.ic_world.proofs.world.World.owes.Goals as goal

pub returns-in-Some : goal.returns-in-Some
returns-in-Some g c =
    let read = c.in-Some.ensures.lookup.3 in
    c.owes_from.ensures ∙ ap (at_node false (settle.owes (world_of c.args.self.now))) (sym (there c.args.self.now c.args.c c.deref.result.now c.from.result c.deref.ensures.value c.from.ensures c.in-Some.x.now read.0 (read.1 c.in-Some.x.now)))

pub returns-in-None : goal.returns-in-None
returns-in-None g c =
    ap (at_node false (settle.owes (world_of c.args.self.now))) (sym (nowhere c.args.self.now c.args.c c.deref.result.now c.from.result c.deref.ensures.value c.from.ensures (none-past c.get.result _ _ c.in-None.is c.get.ensures.lookup.3)))
