use Rattle.std.proofs.Common.{map, take}
use Rattle.def_client.specs.Clients.{item_of}
use Rattle.ic_settle.specs.Policies.{intervals_of}
use Rattle.ic_clients.specs.Working.{AllWorkedOff}
use Rattle.ic_clients.proofs.working.work_all.Given as goal

abbrev pub invariant-loop-event : goal.invariant-loop-event
invariant-loop-event g l = AllWorkedOff g.K.Sink l.program (intervals_of l.policy) l.level (map item_of (take l.event-index l.events)) l.front.taken l.fn.world l.world l.fn.out l.out l.told
