use Rattle.std.proofs.Common.{◌≡◌, ◌+◌, ◌≤◌, ◌++◌, map, length}
use Rattle.std.specs.Vec.{vec_capacity}
use Rattle.ic_base.specs.declared.messages.Packet.TheVariants.{Data}
use Rattle.def_state.specs.Outbox.{due_messages, all_put}
use Rattle.ic_pcom.proofs.output.put_messages.Given as goal

abbrev pub invariant-loop-msg : goal.invariant-loop-msg
invariant-loop-msg l = record {
  packets : l.packets.items ++ map Data (due_messages l.outbox.seen l.forced) ≡ l.fn.packets.items ++ map Data (due_messages l.fn.outbox.seen l.forced);
  put : all_put l.outbox.seen l.forced ≡ all_put l.fn.outbox.seen l.forced;
  room : length l.packets.items + length (due_messages l.outbox.seen l.forced) ≤ vec_capacity l.packets;
  capacity : vec_capacity l.packets ≡ vec_capacity l.fn.packets;
}

abbrev pub decreases-loop-msg : goal.decreases-loop-msg
decreases-loop-msg l = length (due_messages l.outbox.seen l.forced)
