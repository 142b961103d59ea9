use Rattle.std.proofs.Common.{◌≡◌, ◌+◌, ◌≤◌, take}
use Rattle.ic_network.specs.Networks.{with_puts}
use Rattle.ic_network.proofs.network.Network.put_all.Given as goal

abbrev pub invariant-loop-packet : goal.invariant-loop-packet
invariant-loop-packet l = record {
  put : l.self.network ≡ with_puts l.fn.self.network (take l.packet-index l.packets);
  room : l.fn.self.spare ≤ l.self.spare + l.packet-index;
}
