use Rattle.std.proofs.Common.{◌∙◌, sym, arith}
use Rattle.def_state.specs.Outbox.{unstable}
use Rattle.def_step.specs.Pcom.{forced_end}
use Rattle.def_step.specs.Settle as settle
use Rattle.ic_pcom.specs.Views.{component_of}
use Rattle.ic_world.specs.Views.{world_of}
use Rattle.ic_world.proofs.Firsts.{none-more, one-found, none-found, none-behind, unstable-few}
use Rattle.ic_world.proofs.world.World.misses_one.Goals as goal

pub returns-in_default : goal.returns-in_default
returns-in_default g c =
    let p = component_of c.args.pcom.now in
    none-found (settle.is_missed (world_of c.args.self.now)) (unstable p.vol.outbox (forced_end p)) c.loop-i.i c.loop-i.invariant (sym c.in_default.ensures)

pub returns-then-is_missed : goal.returns-then-is_missed
returns-then-is_missed g c =
    let p = component_of c.args.pcom.now in
    one-found (settle.is_missed (world_of c.args.self.now)) (unstable p.vol.outbox (forced_end p)) c.loop-i.i c.in-Some.msg c.loop-i.invariant (sym c.in-Some.ensures) (sym c.is_missed.ensures ∙ c.if-is_missed.true)

pub loop-i-preserved : goal.loop-i-preserved
loop-i-preserved g c =
    let p = component_of c.args.pcom.now in
    none-more (settle.is_missed (world_of c.args.self.now)) (unstable p.vol.outbox (forced_end p)) c.loop-i.i c.in-Some.msg c.loop-i.invariant (sym c.in-Some.ensures) (sym c.is_missed.ensures ∙ c.if-is_missed.false)

pub returns : goal.returns
returns g c =
    let p = component_of c.args.pcom.now in
    none-behind (settle.is_missed (world_of c.args.self.now)) (unstable p.vol.outbox (forced_end p)) c.loop-i.i c.loop-i.invariant (omega (arith, c.loop-i-test.false, c.held-i-end.ensures, unstable-few p.vol.outbox (forced_end p)))
