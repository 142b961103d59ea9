use Rattle.std.proofs.Common.{◌≡◌, ◌∙◌, sym, ap, rules, arith}
use Rattle.def_step.specs.Pcom.{Resends}
use Rattle.def_step.specs.World.{Runs}
use Rattle.ic_node.specs.Nodes.{node_with}
use Rattle.ic_node.specs.Views.{node_of, com_of}
use Rattle.ic_pcom.specs.Views.{component_of}
use Rattle.std.proofs.lemmas.Result.{IfOk-weaker}
use Rattle.law_tail.specs.Wholes.{with_earlier}
use Rattle.ic_turn.proofs.Rules.{would-over, resends-at}
use Rattle.ic_turn.proofs.choosing.resends.Goals as goal

pub returns-in-Per : goal.returns-in-Per
returns-in-Per g c =
    let x = c.args.x.now in
    let is : node_of x ≡ Runs (with_earlier x.kept (component_of c.in-Per.pcom)) = ap (node_with x.kept) (sym c.node.ensures ∙ c.in-Per.is) in
    IfOk-weaker c.would_resend.result _ _ (λ does h program. resends-at program (com_of x) (node_of x) (with_earlier x.kept (component_of c.in-Per.pcom)) c.args.number does (search (rules, arith)) is (h program (com_of x) ∙ sym (would-over program (com_of x) x.kept (component_of c.in-Per.pcom) Resends))) c.would_resend.ensures
