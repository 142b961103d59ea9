use Rattle.std.proofs.Common.{◌∙◌, sym, ap}
use Rattle.def_step.specs.Settle as settle
use Rattle.ic_node.specs.Nodes.{node_with}
use Rattle.ic_pcom.specs.Views.{component_of}
use Rattle.ic_node.proofs.Earlier.{shows_over}
use Rattle.ic_node.proofs.component.Component.has_due.Goals as goal

pub returns-in-Per : goal.returns-in-Per
returns-in-Per g c =
    c.has_due.ensures ∙ sym (shows_over c.args.self.now.kept (component_of c.in-Per.pcom)) ∙ sym (ap (λ n. settle.has_due (node_with c.args.self.now.kept n)) c.in-Per.is)
