use Rattle.std.proofs.Common.{◌∙◌, ap, rules, arith, length, ◌≤◌}
use Rattle.std.specs.List.Sorted.{IsPartitionedBy}
use Rattle.std.proofs.lemmas.List.Sorted.{IsPartitionPoint-from_clause}
use Rattle.def_state.specs.Inbox.{comes_before}
use Rattle.ic_index.specs.Entries.{name_of, count_before}
use Rattle.ic_index.proofs.Searching.{in-parts, prefix-from_point}
use Rattle.ic_index.proofs.sorted.Sorted.place.Goals as goal

pub returns-clause-before : goal.returns-clause-before
returns-clause-before g c =
    let parted : IsPartitionedBy (λ e. comes_before (name_of e) (record { peer = c.args.peer; k = c.args.k })) c.self.inside.entries.items = in-parts (record { peer = c.args.peer; k = c.args.k }) c.self.inside.entries.items c.self.invariant in
    let point = IsPartitionPoint-from_clause (λ e. comes_before (name_of e) (record { peer = c.args.peer; k = c.args.k })) c.self.inside.entries.items c.partition_point.result c.partition_point.ensures.partitioned parted (λ a r q k. search rules) in
    let within : c.partition_point.result ≤ length c.self.inside.entries.items = let ok = c.self.inside.entries.ok.0 in omega (arith, c.partition_point.ensures.bound) in
    prefix-from_point (λ e. comes_before (name_of e) (record { peer = c.args.peer; k = c.args.k })) c.self.inside.entries.items c.partition_point.result within point
    ∙ ap (λ v. count_before (record { peer = c.args.peer; k = c.args.k }) v.seen) c.self.view_is
