use Rattle.def_state.specs.Outbox.{unstable}
use Rattle.def_step.specs.Pcom.{forced_end}
use Rattle.def_step.specs.Settle as settle
use Rattle.ic_pcom.specs.Views.{component_of}
use Rattle.ic_world.specs.Views.{world_of}
use Rattle.ic_world.proofs.Firsts.{NoneOf}
use Rattle.ic_world.proofs.world.World.misses_one.Given as goal

abbrev pub invariant-loop-i : goal.invariant-loop-i
invariant-loop-i g l = NoneOf (settle.is_missed (world_of l.self)) (unstable (component_of l.pcom).vol.outbox (forced_end (component_of l.pcom))) l.i
