use Rattle.std.proofs.Common.{◌≡◌, take}
use Rattle.ic_live.specs.Berthed.{list_of}
use Rattle.ic_live.proofs.lists.list_of.Given as goal

abbrev pub invariant-loop-event : goal.invariant-loop-event
invariant-loop-event l = l.list ≡ list_of l.c (take l.event-index l.plan)
