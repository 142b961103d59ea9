use Rattle.std.proofs.Common.{◌∙◌, sym, ap, subst, ◌<◌, ◌+◌, length, length-append, Some, arith}
use Rattle.ic_base.specs.declared.limits.TheConstants.{LOG_BYTES}
use Rattle.def_run.specs.CoreSteps.{forced_of}
use Rattle.ic_node.specs.Nodes.{node_with}
use Rattle.ic_pcom.specs.Views.{component_of}
use Rattle.ic_node.proofs.Counts.{few_forced}
use Rattle.ic_node.proofs.component.Component.forced.Goals as goal

pub count_both-requires : goal.count_both-requires
count_both-requires g c =
    record { few = subst (λ n. n < LOG_BYTES + LOG_BYTES) (sym c.forced.ensures) (let few = few_forced c.in-Per.pcom in omega (arith, few)) }

pub returns-in-Per : goal.returns-in-Per
returns-in-Per g c =
    c.count_both.ensures ∙ ap (λ n. length c.args.self.now.kept + n) c.forced.ensures
    ∙ sym (length-append c.args.self.now.kept (component_of c.in-Per.pcom).log.forced) ∙ sym (ap (λ n. length (forced_of (Some (node_with c.args.self.now.kept n)))) c.in-Per.is)
