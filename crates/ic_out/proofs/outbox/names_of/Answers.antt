use Rattle.std.proofs.Common.{◌∙◌, ap}
use Rattle.std.specs.List.{list_any}
use Rattle.def_state.specs.Names.{same_identity}
use Rattle.ic_out.specs.Views.{message_name}
use Rattle.ic_out.proofs.Images.{rising-new_at}
use Rattle.ic_out.proofs.outbox.names_of.Goals as goal

pub push-requires-clause-new : goal.push-requires-clause-new
push-requires-clause-new c =
    ap (list_any (same_identity (message_name c.msg-item.result))) c.loop-msg.invariant.0
    ∙ rising-new_at c.args.held.now c.loop-msg.msg-index c.msg-item.result c.requires c.loop-msg-test.true c.msg-item.is
