use Rattle.std.proofs.Common.{◌≡◌, ◌∙◌, ◌++◌, ◌∷◌, [], List, ap, sym, subst, refl, ◌+◌, ◌≤◌, ◌<◌, length, vec_len, arith}
use Rattle.std.specs.Vec.{vec_capacity}
use Rattle.ic_base.specs.declared.messages.Packet.{Packet}
use Rattle.def_state.specs.Inbox.{Ack, Inbox, acks, all_told}
use Rattle.def_step.specs.Pcom.{ack_packet}
use Rattle.ic_in.specs.Views.{seen_ack}
use Rattle.ic_in.proofs.OneByOne.{tells-the_first}
use Rattle.ic_pcom.proofs.OneMore.{one-more, one-fits, rest-fits, less-left, none-more}
use Rattle.ic_pcom.proofs.Unmoved.{nothing-told}
use Rattle.ic_pcom.proofs.output.put_acks.Goals as goal

pub push_reserved-requires : goal.push_reserved-requires
push_reserved-requires c =
    let i : Inbox = c.loop-ack.inbox.seen in
    let a : Ack = seen_ack c.in-Some.ack in
    let long : vec_len c.loop-ack.packets ≡ length c.loop-ack.packets.items = omega arith in
    let fits : length c.loop-ack.packets.items < vec_capacity c.loop-ack.packets = one-fits (ack_packet c.args.com) c.loop-ack.packets.items a (acks i c.args.forced) _ _ ((tells-the_first i c.args.forced).first a (sym c.in-Some.ensures.ack)) refl
    (vec_capacity c.loop-ack.packets) c.loop-ack.invariant.room in
    omega arith

pub loop-ack-smaller : goal.loop-ack-smaller
loop-ack-smaller c =
    let i : Inbox = c.loop-ack.inbox.seen in
    let a : Ack = seen_ack c.in-Some.ack in
    let left : acks i c.args.forced ≡ a ∷ acks c.next_ack.new.self.seen c.args.forced =
    (tells-the_first i c.args.forced).first a (sym c.in-Some.ensures.ack) ∙ ap (λ j. a ∷ acks j c.args.forced) (sym c.in-Some.ensures.told) in
    less-left (ack_packet c.args.com) c.loop-ack.packets.items a (acks i c.args.forced) _ _ left refl

pub loop-ack-preserved : goal.loop-ack-preserved
loop-ack-preserved c =
    let i : Inbox = c.loop-ack.inbox.seen in
    let a : Ack = seen_ack c.in-Some.ack in
    let before : List Packet = c.loop-ack.packets.items in
    let left : acks i c.args.forced ≡ a ∷ acks c.next_ack.new.self.seen c.args.forced =
    (tells-the_first i c.args.forced).first a (sym c.in-Some.ensures.ack) ∙ ap (λ j. a ∷ acks j c.args.forced) (sym c.in-Some.ensures.told) in
    let put : c.push_reserved.new.self.items ≡ before ++ ack_packet c.args.com a ∷ [] =
    c.push_reserved.ensures.items ∙ ap (λ p. before ++ p ∷ []) c.ack_packet.ensures in
    let fits : length c.push_reserved.new.self.items + length (acks c.next_ack.new.self.seen c.args.forced) ≤ vec_capacity c.loop-ack.packets =
    rest-fits (ack_packet c.args.com) before a (acks i c.args.forced) _ _ left put (vec_capacity c.loop-ack.packets) c.loop-ack.invariant.room in
    record {
      packets = one-more (ack_packet c.args.com) before a (acks i c.args.forced) _ _ left put _ c.loop-ack.invariant.packets;
      told = ap (λ j. all_told j c.args.forced) c.in-Some.ensures.told ∙ (tells-the_first i c.args.forced).rest ∙ c.loop-ack.invariant.told;
      room = subst (λ room. length c.push_reserved.new.self.items + length (acks c.next_ack.new.self.seen c.args.forced) ≤ room) (sym c.push_reserved.ensures.capacity) fits;
      capacity = c.push_reserved.ensures.capacity ∙ c.loop-ack.invariant.capacity;
    }

pub returns-clause-packets : goal.returns-clause-packets
returns-clause-packets c =
    none-more (ack_packet c.args.com) _ (acks c.loop-ack.inbox.seen c.args.forced) _ ((tells-the_first c.loop-ack.inbox.seen c.args.forced).none (sym c.in_default.ensures.ack)) c.loop-ack.invariant.packets

pub returns-clause-told : goal.returns-clause-told
returns-clause-told c =
    c.in_default.ensures.told
    ∙ nothing-told c.loop-ack.inbox.seen c.args.forced (sym c.in_default.ensures.ack)
    ∙ c.loop-ack.invariant.told
