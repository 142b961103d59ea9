use Rattle.std.proofs.Common.{◌≡◌, ◌+◌, ◌-◌, ◌≤◌, ◌++◌, length, take, vec_len, vec_capacity}
use Rattle.std.specs.List.{range_with_len}
use Rattle.ic_network.specs.Lanes.{numbers_from}
use Rattle.ic_moves.specs.Networks.{IsKept}
use Rattle.ic_moves.proofs.network.Network2.put.Given as goal

abbrev pub invariant-loop-p : goal.invariant-loop-p
invariant-loop-p l = record {
  packets : l.self-inside.packets.items ≡ l.fn.self.packets ++ take l.p-index l.puts;
  waiting : numbers_from 1 l.self-inside.waits.items ≡ l.fn.self.waiting ++ range_with_len (length l.fn.self.packets + 1) l.p-index;
  kept : IsKept l.self-inside.packets.items l.self-inside.waits.items l.self-inside.passed.items l.self-inside.first;
  packets_room : vec_len l.self-inside.packets + length l.puts ≤ vec_capacity l.self-inside.packets + l.p-index;
  waits_room : vec_len l.self-inside.waits + length l.puts ≤ vec_capacity l.self-inside.waits + l.p-index;
}
