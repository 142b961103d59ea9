use Rattle.std.proofs.Common.{◌≡◌, true, take}
use Rattle.ic_replay.specs.Limits.{are_within, links_behind}
use Rattle.ic_replay.proofs.limits.are_sends_within.Given as goal

abbrev pub invariant-loop-i : goal.invariant-loop-i
invariant-loop-i l = are_within (links_behind l.outbox.seen.links (take l.i l.sends)) ≡ true
