use Rattle.std.proofs.Common.{◌≡◌, ◌∙◌, sym, ap, List, ◌++◌}
use Rattle.std.proofs.lemmas.List.{append_assoc}
use Rattle.ic_base.specs.declared.record.Record.{Record}
use Rattle.def_run.specs.Reports.{log_of_node}
use Rattle.def_step.specs.Pcom.{all_of}
use Rattle.ic_node.specs.Nodes.{node_with}
use Rattle.ic_pcom.specs.Views.{component_of}
use Rattle.ic_node.proofs.component.Component.records.Goals as goal

pub returns-in_ok-append-in-Per : goal.returns-in_ok-append-in-Per
returns-in_ok-append-in-Per g c =
    let kept = c.args.self.now.kept in
    let p = component_of c.in-Per.pcom in
    let own : c.into_vec-own.result.items ≡ all_of p.log = c.into_vec-own.ensures ∙ (c.in_ok-records-in-Per-2.ensures ∙ c.records-in-Per.ensures) in
    let first : c.into_vec-all.result.items ≡ kept = c.into_vec-all.ensures ∙ c.in_ok-records-in-Per.ensures in
    let both : c.from_vec.result ≡ kept ++ all_of p.log = c.from_vec.ensures ∙ (c.in_ok-append-in-Per.ensures.items ∙ ap (λ (xs : List Record). xs ++ c.into_vec-own.result.items) first ∙ ap (λ (xs : List Record). kept ++ xs) own) in
    both ∙ sym (append_assoc kept p.log.forced p.log.buffered) ∙ sym (ap (λ n. log_of_node (node_with kept n)) c.in-Per.is)
