use Rattle.std.proofs.Common.{◌≡◌, ◌∙◌, sym, ap}
use Rattle.std.specs.List.{list_any}
use Rattle.std.proofs.lemmas.List.Sums.{sum_by-append}
use Rattle.def_state.specs.Outbox.{unstable}
use Rattle.def_state.specs.Positions.{record_length, end_of}
use Rattle.def_step.specs.Pcom.{forced_end}
use Rattle.def_step.specs.Settle as settle
use Rattle.law_tail.specs.Wholes.{with_earlier}
use Rattle.law_tail.proofs.Shifted.{unstable-shifted}
use Rattle.ic_node.specs.Nodes.{node_with}
use Rattle.ic_pcom.specs.Views.{component_of}
use Rattle.ic_world.specs.Views.{world_of}
use Rattle.ic_world.proofs.world.World.owes_from.Goals as goal

-- of the whole log, and of its tail, the same messages wait for a stable mark
pub returns-in-Per : goal.returns-in-Per
returns-in-Per g c =
    let kept = c.args.x.now.kept in
    let p = component_of c.in-Per.pcom in
    let same : unstable (with_earlier kept p).vol.outbox (forced_end (with_earlier kept p)) ≡ unstable p.vol.outbox (forced_end p) =
    ap (unstable (with_earlier kept p).vol.outbox) (sum_by-append record_length kept p.log.forced)
    ∙ unstable-shifted (end_of kept) p.vol.outbox (forced_end p) in
    c.misses_one.ensures
    ∙ ap (list_any (settle.is_missed (world_of c.args.self.now))) (sym same)
    ∙ sym (ap (λ n. settle.owes (world_of c.args.self.now) (node_with kept n)) (sym c.node.ensures ∙ c.in-Per.is))
