use Rattle.std.proofs.Common.{◌∙◌, ap, cond, Option, None}
use Rattle.ic_base.specs.declared.messages.Packet.{Packet}
use Rattle.def_state.specs.Txn.{pending}
use Rattle.ic_ckpt.specs.declared.state.State.{State}
use Rattle.ic_ckpt.specs.Views.{seen}
use Rattle.ic_pcom.proofs.InTurn.{tail-in_turn}
use Rattle.ic_pcom.proofs.output.put_out.Goals as goal

pub returns-clause-packets : goal.returns-clause-packets
returns-clause-packets c log rest at =
    let came : State → Option Packet = λ s. cond c.args.came (pending c.args.com (seen s).txn s.clock) None in
    tail-in_turn c.args.com c.args.came log rest (seen c.args.state.now) c.args.forced at c.args.packets.now.items _ _ _ _ c.owed_drop.result c.came_to.result
    c.put_acks.ensures.packets c.put_messages.ensures.packets c.owed_drop.ensures.drop c.put.ensures.packets (c.came_to.ensures.packet ∙ ap came c.owed_drop.ensures.paid) c.put-2.ensures.packets
