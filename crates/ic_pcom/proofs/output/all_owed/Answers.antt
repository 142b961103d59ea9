use Rattle.std.proofs.Common.{◌∙◌, ap, option_to_list, ◌++◌}
use Rattle.std.proofs.lemmas.Result.{IfOk-weaker}
use Rattle.ic_ckpt.specs.Views.{seen}
use Rattle.ic_pcom.proofs.InTurn.{owed-in_turn}
use Rattle.ic_pcom.proofs.output.all_owed.Goals as goal

pub returns : goal.returns
returns c =
    IfOk-weaker c.followed_by-2.result _ _
    (λ all is log rest at.
    owed-in_turn c.args.com (record { log = log; vol = seen c.args.state.now; rest = rest }) c.args.forced at _ _ _ all c.in_ok-messages.ensures (c.last_drop.ensures log rest at) c.in_ok-packets.ensures
    (is ∙ ap (λ p. c.in_ok-packets.packets ++ option_to_list p) c.pending.ensures))
    c.followed_by-2.ensures
