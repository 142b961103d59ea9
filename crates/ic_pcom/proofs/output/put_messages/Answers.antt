use Rattle.std.proofs.Common.{◌≡◌, ◌∙◌, ◌++◌, ◌∷◌, [], List, ap, sym, subst, refl, ◌+◌, ◌≤◌, ◌<◌, length, vec_len, arith}
use Rattle.std.specs.Vec.{vec_capacity}
use Rattle.ic_base.specs.declared.messages.Msg.{Msg}
use Rattle.ic_base.specs.declared.messages.Packet.{Packet}
use Rattle.ic_base.specs.declared.messages.Packet.TheVariants.{Data}
use Rattle.def_state.specs.Outbox.{Outbox, due_messages, all_put}
use Rattle.ic_out.proofs.OneByOne.{takes-the_first}
use Rattle.ic_pcom.proofs.OneMore.{one-more, one-fits, rest-fits, less-left, none-more}
use Rattle.ic_pcom.proofs.Unmoved.{nothing-put}
use Rattle.ic_pcom.proofs.output.put_messages.Goals as goal

pub push_reserved-requires : goal.push_reserved-requires
push_reserved-requires c =
    let i : Outbox = c.loop-msg.outbox.seen in
    let a : Msg = c.in-Some.msg in
    let long : vec_len c.loop-msg.packets ≡ length c.loop-msg.packets.items = omega arith in
    let fits : length c.loop-msg.packets.items < vec_capacity c.loop-msg.packets = one-fits Data c.loop-msg.packets.items a (due_messages i c.args.forced) _ _ ((takes-the_first i c.args.forced).first a (sym c.in-Some.ensures.due)) refl
    (vec_capacity c.loop-msg.packets) c.loop-msg.invariant.room in
    omega arith

pub loop-msg-smaller : goal.loop-msg-smaller
loop-msg-smaller c =
    let i : Outbox = c.loop-msg.outbox.seen in
    let a : Msg = c.in-Some.msg in
    let left : due_messages i c.args.forced ≡ a ∷ due_messages c.next_due.new.self.seen c.args.forced =
    (takes-the_first i c.args.forced).first a (sym c.in-Some.ensures.due) ∙ ap (λ j. a ∷ due_messages j c.args.forced) (sym c.in-Some.ensures.marked) in
    less-left Data c.loop-msg.packets.items a (due_messages i c.args.forced) _ _ left refl

pub loop-msg-preserved : goal.loop-msg-preserved
loop-msg-preserved c =
    let i : Outbox = c.loop-msg.outbox.seen in
    let a : Msg = c.in-Some.msg in
    let before : List Packet = c.loop-msg.packets.items in
    let left : due_messages i c.args.forced ≡ a ∷ due_messages c.next_due.new.self.seen c.args.forced =
    (takes-the_first i c.args.forced).first a (sym c.in-Some.ensures.due) ∙ ap (λ j. a ∷ due_messages j c.args.forced) (sym c.in-Some.ensures.marked) in
    let put : c.push_reserved.new.self.items ≡ before ++ Data a ∷ [] =
    c.push_reserved.ensures.items in
    let fits : length c.push_reserved.new.self.items + length (due_messages c.next_due.new.self.seen c.args.forced) ≤ vec_capacity c.loop-msg.packets =
    rest-fits Data before a (due_messages i c.args.forced) _ _ left put (vec_capacity c.loop-msg.packets) c.loop-msg.invariant.room in
    record {
      packets = one-more Data before a (due_messages i c.args.forced) _ _ left put _ c.loop-msg.invariant.packets;
      put = ap (λ j. all_put j c.args.forced) c.in-Some.ensures.marked ∙ (takes-the_first i c.args.forced).rest ∙ c.loop-msg.invariant.put;
      room = subst (λ room. length c.push_reserved.new.self.items + length (due_messages c.next_due.new.self.seen c.args.forced) ≤ room) (sym c.push_reserved.ensures.capacity) fits;
      capacity = c.push_reserved.ensures.capacity ∙ c.loop-msg.invariant.capacity;
    }

pub returns-clause-packets : goal.returns-clause-packets
returns-clause-packets c =
    none-more Data _ (due_messages c.loop-msg.outbox.seen c.args.forced) _ ((takes-the_first c.loop-msg.outbox.seen c.args.forced).none (sym c.in_default.ensures.due)) c.loop-msg.invariant.packets

pub returns-clause-put : goal.returns-clause-put
returns-clause-put c =
    c.in_default.ensures.marked
    ∙ nothing-put c.loop-msg.outbox.seen c.args.forced (sym c.in_default.ensures.due)
    ∙ c.loop-msg.invariant.put
