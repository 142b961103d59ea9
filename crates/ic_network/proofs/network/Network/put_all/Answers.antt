use Rattle.std.proofs.Common.{◌≡◌, ◌∙◌, ap, ◌+◌, [], ◌∷◌, ◌++◌, take, arith}
use Rattle.std.proofs.lemmas.Grind.{common_steps}
use Rattle.ic_network.specs.Networks.{with_put, with_puts}
use Rattle.ic_network.proofs.Sorting.{puts-next}
use Rattle.ic_network.proofs.network.Network.put_all.Goals as goal

pub loop-packet-preserved : goal.loop-packet-preserved
loop-packet-preserved c =
    let one : take c.loop-packet.packet-index c.args.packets.now ++ c.packet-item.result ∷ [] ≡ take (c.loop-packet.packet-index + 1) c.args.packets.now = grind (arith, common_steps) in
    record {
      put = c.put.ensures.put ∙ ap (λ n. with_put n c.packet-item.result) c.loop-packet.invariant.put ∙ puts-next c.args.self.now.network (take c.loop-packet.packet-index c.args.packets.now) c.packet-item.result ∙ ap (with_puts c.args.self.now.network) one;
      room = omega (arith, c.put.ensures.room, c.loop-packet.invariant.room);
    }
