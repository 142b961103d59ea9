use Rattle.std.proofs.Common.{◌≡◌, ◌≤◌, ◌+◌, drop}
use Rattle.def_state.specs.Outbox.{send_all}
use Rattle.ic_replay.proofs.applying.send_all.Given as goal

abbrev pub invariant-loop-send : goal.invariant-loop-send
invariant-loop-send l = record {
  sent : send_all l.«com» l.clock l.at l.outbox.seen (drop l.send-index l.sends) ≡ send_all l.«com» l.clock l.at l.fn.outbox.seen l.sends;
  room : l.fn.outbox.spare ≤ l.outbox.spare + l.send-index;
}
