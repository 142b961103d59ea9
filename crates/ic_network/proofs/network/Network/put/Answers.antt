use Rattle.std.proofs.Common.{◌≡◌, ◌∙◌, ap, ℕ, ◌+◌, List, [], ◌∷◌, ◌++◌, length, arith}
use Rattle.ic_base.specs.declared.messages.Packet.{Packet}
use Rattle.ic_network.specs.Lanes.{numbers_from}
use Rattle.ic_network.specs.Networks.{Network, with_put}
use Rattle.ic_network.proofs.Counting.{few-wait}
use Rattle.ic_network.proofs.Listing.{listed-push}
use Rattle.ic_network.proofs.Sorting.{sorted-put}
use Rattle.ic_network.proofs.network.Network.put.Goals as goal

pub overflow_add-self : goal.overflow_add-self
overflow_add-self c = omega (arith, c.self.invariant.counted, few-wait 1 c.self.inside.lanes.waits, c.self.invariant.waits_len, c.self.inside.packets.ok)

pub invariant_of-self : goal.invariant_of-self
invariant_of-self c = sorted-put _ _ _ _ c.args.packet.now _ _ _ c.sender_of.result c.receiver_of.result c.lane_of.result c.self.invariant c.push_reserved.ensures.items c.push.ensures.lanes c.push.ensures.waits c.sender_of.ensures c.receiver_of.ensures c.lane_of.ensures.lane

pub returns-clause-put : goal.returns-clause-put
returns-clause-put c =
    let P : List Packet → Network = λ ps. record { packets = ps; waiting = numbers_from 1 c.push.new.self.waits } in
    let Q : List ℕ → Network = λ ws. record { packets = c.self.inside.packets.items ++ c.args.packet.now ∷ []; waiting = ws } in
    let number : 1 + length c.self.inside.lanes.waits ≡ length c.self.inside.packets.items + 1 = omega (arith, c.self.invariant.waits_len) in
    ap P c.push_reserved.ensures.items
    ∙ ap Q (ap (numbers_from 1) c.push.ensures.waits ∙ listed-push 1 c.self.inside.lanes.waits ∙ ap (λ i. numbers_from 1 c.self.inside.lanes.waits ++ i ∷ []) number)
    ∙ ap (λ v. with_put v.network c.args.packet.now) c.self.view_is
