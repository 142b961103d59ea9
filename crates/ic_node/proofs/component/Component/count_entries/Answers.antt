use Rattle.std.proofs.Common.{◌≡◌, ◌∙◌, sym, ap, List, ◌+◌, length}
use Rattle.std.proofs.lemmas.List.{append_assoc}
use Rattle.ic_base.specs.declared.record.Record.{Record}
use Rattle.def_plain.specs.History.{log_entries}
use Rattle.def_run.specs.Reports.{log_of_node}
use Rattle.def_step.specs.Pcom.{all_of}
use Rattle.ic_node.specs.Nodes.{node_with}
use Rattle.ic_pcom.specs.Views.{component_of}
use Rattle.ic_node.proofs.Entries.{both_counted}
use Rattle.ic_node.proofs.component.Component.count_entries.Goals as goal

pub returns-in-Per : goal.returns-in-Per
returns-in-Per g c = λ t.
    let kind = c.args.kind in
    let kept : List Record = c.args.self.now.kept in
    let p = component_of c.in-Per.pcom in
    let before = c.entries_in-before.result in
    let behind = c.entries_in.result in
    let earlier : before ≡ length (log_entries kind t kept) = c.entries_in-before.ensures.count t in
    let own : behind ≡ length (log_entries kind t (all_of p.log)) = c.entries_in.ensures.count t ∙ ap (λ (rs : List Record). length (log_entries kind t rs)) c.records.ensures in
    let both : before + behind ≡ length (log_entries kind t kept) + length (log_entries kind t (all_of p.log)) = ap (λ n. n + behind) earlier ∙ ap (λ n. length (log_entries kind t kept) + n) own in
    both ∙ sym (both_counted kind t kept (all_of p.log)) ∙ ap (λ (rs : List Record). length (log_entries kind t rs)) (sym (append_assoc kept p.log.forced p.log.buffered))
    ∙ ap (λ n. length (log_entries kind t (log_of_node (node_with kept n)))) (sym c.in-Per.is)
