use Rattle.std.proofs.Common.{◌≡◌, take}
use Rattle.std.specs.Prelude.{filter_map}
use Rattle.def_facts.specs.Logs.{message_in}
use Rattle.ic_world.specs.Views.{world_of}
use Rattle.ic_failover.proofs.gathering.messages.Given as goal

abbrev pub invariant-loop-number : goal.invariant-loop-number
invariant-loop-number g l = l.msgs ≡ filter_map message_in (take l.number (world_of l.world).packets)
