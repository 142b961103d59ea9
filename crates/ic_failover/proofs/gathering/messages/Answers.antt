use Rattle.std.proofs.Common.{◌∙◌, ◌++◌, sym, ap, arith, option_to_list}
use Rattle.std.specs.Prelude.{option_and_then}
use Rattle.std.proofs.lemmas.List.{append-nil}
use Rattle.def_facts.specs.Logs.{message_in}
use Rattle.ic_world.specs.Views.{world_of}
use Rattle.ic_failover.proofs.Gathered.{messages_more, none_of}
use Rattle.ic_failover.proofs.gathering.messages.Goals as goal

pub loop-number-preserved : goal.loop-number-preserved
loop-number-preserved g c =
    messages_more (world_of c.args.world.now).packets c.loop-number.number c.message_of.result c.loop-number.msgs c.push.new.self (omega (arith, c.loop-number-test.true, c.put_out-number-end.ensures)) (c.message_of.ensures ∙ ap (option_and_then message_in) c.packet.ensures)
    c.loop-number.invariant ((c.in_ok-push.ensures {u = tt}).ok ∙ ap (λ o. c.loop-number.msgs ++ option_to_list o) (sym c.in-Some.is))

pub loop-number-preserved-in_default : goal.loop-number-preserved-in_default
loop-number-preserved-in_default g c =
    messages_more (world_of c.args.world.now).packets c.loop-number.number c.message_of.result c.loop-number.msgs c.loop-number.msgs (omega (arith, c.loop-number-test.true, c.put_out-number-end.ensures)) (c.message_of.ensures ∙ ap (option_and_then message_in) c.packet.ensures)
    c.loop-number.invariant (sym (append-nil c.loop-number.msgs) ∙ ap (λ o. c.loop-number.msgs ++ option_to_list o) (sym (none_of c.message_of.result c.in_default.not-Some)))
