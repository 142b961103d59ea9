use Rattle.std.proofs.Common.{◌∙◌, ap, sym, arith, rules, length, ◌≤◌, Some}
use Rattle.std.specs.Prelude.{slice_get}
use Rattle.std.specs.List.Sorted.{IsPartitionedBy}
use Rattle.std.proofs.lemmas.List.Sorted.{IsPartitionPoint-from_clause}
use Rattle.std.proofs.lemmas.Bool.{both_ways}
use Rattle.def_state.specs.Names.{Identity}
use Rattle.ic_index.specs.Rows.{number_kept}
use Rattle.ic_index.proofs.Searching.{prefix-from_point}
use Rattle.ic_index.proofs.Arriving.{is_below, numbers-parted, stands-nowhere, stands-at_number, is-at}
use Rattle.ic_index.proofs.arrivals.Arrivals.position.Goals as goal

pub returns-in_err-number-clause-once : goal.returns-in_err-number-clause-once
returns-in_err-number-clause-once c =
    λ i h. absurd (stands-nowhere (number_kept c.self.inside.numbers) c.self.inside.order.items i (record { peer = c.args.peer; k = c.args.k }) c.self.invariant.1 (sym c.get.ensures.value ∙ sym c.copied.ensures ∙ c.in_err-number.was) (ap (λ v. slice_get v.seen i) c.self.view_is ∙ h))

pub returns-then-is_at-clause-once : goal.returns-then-is_at-clause-once
returns-then-is_at-clause-once c =
    λ i h.
    let n = c.in_ok-number.number in
    let x : Identity = record { peer = c.args.peer; k = c.args.k } in
    let rows = c.self.inside.order.items in
    let parted : IsPartitionedBy (is_below n) rows = numbers-parted c.self.inside.next n rows c.self.invariant.0 in
    let point = IsPartitionPoint-from_clause (is_below n) rows c.partition_point-i.result c.partition_point-i.ensures.partitioned parted (λ a r q k. search rules) in
    let within : c.partition_point-i.result ≤ length rows = let ok = c.self.inside.order.ok.0 in omega (arith, c.partition_point-i.ensures.bound) in
    let at = prefix-from_point (is_below n) rows c.partition_point-i.result within point in
    let stands = stands-at_number c.self.inside.next (number_kept c.self.inside.numbers) rows i n x c.self.invariant.0 c.self.invariant.1 (sym c.get.ensures.value ∙ sym c.copied.ensures ∙ c.in_ok-number.was) (ap (λ v. slice_get v.seen i) c.self.view_is ∙ h) in
    ap (λ k. Some k) (at ∙ stands)

pub returns-else-is_at-clause-once : goal.returns-else-is_at-clause-once
returns-else-is_at-clause-once c =
    λ i h.
    let n = c.in_ok-number.number in
    let x : Identity = record { peer = c.args.peer; k = c.args.k } in
    let rows = c.self.inside.order.items in
    let parted : IsPartitionedBy (is_below n) rows = numbers-parted c.self.inside.next n rows c.self.invariant.0 in
    let point = IsPartitionPoint-from_clause (is_below n) rows c.partition_point-i.result c.partition_point-i.ensures.partitioned parted (λ a r q k. search rules) in
    let within : c.partition_point-i.result ≤ length rows = let ok = c.self.inside.order.ok.0 in omega (arith, c.partition_point-i.ensures.bound) in
    let at = prefix-from_point (is_below n) rows c.partition_point-i.result within point in
    let stands = stands-at_number c.self.inside.next (number_kept c.self.inside.numbers) rows i n x c.self.invariant.0 c.self.invariant.1 (sym c.get.ensures.value ∙ sym c.copied.ensures ∙ c.in_ok-number.was) (ap (λ v. slice_get v.seen i) c.self.view_is ∙ h) in
    let there = is-at c.args.self.now.seen i c.partition_point-i.result x h (at ∙ stands) in
    absurd (both_ways c.is_at.result c.if-is_at.false (c.is_at.ensures ∙ there))
