use Rattle.std.proofs.Common.{◌≡◌, ◌+◌, ◌≤◌, ◌++◌, map, length}
use Rattle.std.specs.Vec.{vec_capacity}
use Rattle.def_state.specs.Inbox.{acks, all_told}
use Rattle.def_step.specs.Pcom.{ack_packet}
use Rattle.ic_pcom.proofs.output.put_acks.Given as goal

abbrev pub invariant-loop-ack : goal.invariant-loop-ack
invariant-loop-ack l = record {
  packets : l.packets.items ++ map (ack_packet l.com) (acks l.inbox.seen l.forced) ≡ l.fn.packets.items ++ map (ack_packet l.com) (acks l.fn.inbox.seen l.forced);
  told : all_told l.inbox.seen l.forced ≡ all_told l.fn.inbox.seen l.forced;
  room : length l.packets.items + length (acks l.inbox.seen l.forced) ≤ vec_capacity l.packets;
  capacity : vec_capacity l.packets ≡ vec_capacity l.fn.packets;
}

abbrev pub decreases-loop-ack : goal.decreases-loop-ack
decreases-loop-ack l = length (acks l.inbox.seen l.forced)
