use Rattle.std.proofs.Common.{◌∙◌, ap, sym, Option}
use Rattle.std.specs.Prelude.{not, option_and_then}
use Rattle.def_state.specs.Inbox.{is_taken}
use Rattle.def_step.specs.Settle as settle
use Rattle.def_step.specs.World.{Node}
use Rattle.ic_world.proofs.ComponentReads.{there, nowhere, none-past}
use Rattle.ic_world.proofs.world.World.is_missed.Goals as goal

pub returns-in-Some : goal.returns-in-Some
returns-in-Some g c =
    let read = c.in-Some.ensures.lookup.3 in
    let m = c.args.msg.now in
    c.lacks.ensures
    ∙ ap (λ (o : Option Node). settle.passes (λ p. not (is_taken p.vol.inbox (record { peer = m.from; k = m.k }))) (option_and_then settle.pcom_of o)) (sym (there c.args.self.now m.to c.deref.result.now c.from.result c.deref.ensures.value c.from.ensures c.in-Some.x.now read.0 (read.1 c.in-Some.x.now)))

pub returns-in-None : goal.returns-in-None
returns-in-None g c =
    let m = c.args.msg.now in
    ap (λ (o : Option Node). settle.passes (λ p. not (is_taken p.vol.inbox (record { peer = m.from; k = m.k }))) (option_and_then settle.pcom_of o)) (sym (nowhere c.args.self.now m.to c.deref.result.now c.from.result c.deref.ensures.value c.from.ensures (none-past c.get.result _ _ c.in-None.is c.get.ensures.lookup.3)))
