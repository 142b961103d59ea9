use Rattle.std.proofs.Common.{◌∙◌, sym, ap, length, append_assoc}
use Rattle.def_step.specs.Replay.{behind_checkpoint}
use Rattle.def_step.specs.Settle as settle
use Rattle.ic_node.specs.Nodes.{node_with}
use Rattle.ic_pcom.specs.Views.{component_of}
use Rattle.ic_node.proofs.component.Component.since_checkpoint.Goals as goal

pub returns-in-Per : goal.returns-in-Per
returns-in-Per g c =
    let l = (component_of c.in-Per.pcom).log in
    c.since_last.ensures ∙ ap (λ rs. length (behind_checkpoint rs)) (sym (append_assoc c.args.self.now.kept l.forced l.buffered))
    ∙ sym (ap (λ n. settle.since_checkpoint (node_with c.args.self.now.kept n)) c.in-Per.is)
