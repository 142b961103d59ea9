use Rattle.std.proofs.Common.{◌≡◌, ◌∙◌, ap, sym, arith, true, length}
use Rattle.std.specs.Prelude.{is_some}
use Rattle.std.specs.List.{remove}
use Rattle.std.proofs.lemmas.Grind.{common_steps}
use Rattle.ic_index.specs.Entries.{is_in_order}
use Rattle.ic_index.proofs.Searching.{value-there, value-nowhere, without-at_place, without-nowhere, in_order-without, stands-within}
use Rattle.ic_index.proofs.sorted.Sorted.remove.Goals as goal

pub returns-then-not-is_at-clause-gone : goal.returns-then-not-is_at-clause-gone
returns-then-not-is_at-clause-gone g c = sym (without-nowhere (record { peer = c.args.peer; k = c.args.k }) c.args.self.now.seen c.place-i.result c.place-i.ensures.in_order c.place-i.ensures.before (cc))

pub returns-then-not-is_at-clause-was : goal.returns-then-not-is_at-clause-was
returns-then-not-is_at-clause-was g c = sym (ap is_some (value-nowhere (record { peer = c.args.peer; k = c.args.k }) c.args.self.now.seen c.place-i.result c.place-i.ensures.in_order c.place-i.ensures.before (cc)))

pub invariant_of-self : goal.invariant_of-self
invariant_of-self g c =
    let within = stands-within (record { peer = c.args.peer; k = c.args.k }) c.args.self.now.seen c.place-i.result (cc) in
    let same = ap (λ v. length v.seen) c.self.view_is in
    let removed : c.remove.new.self.items ≡ remove c.self.inside.entries.items c.place-i.result = grind (arith, common_steps) in
    ap is_in_order (removed ∙ ap (λ v. remove v.seen c.place-i.result) c.self.view_is ∙ without-at_place (record { peer = c.args.peer; k = c.args.k }) c.args.self.now.seen c.place-i.result c.place-i.ensures.before (cc))
    ∙ in_order-without (record { peer = c.args.peer; k = c.args.k }) c.args.self.now.seen c.place-i.ensures.in_order

pub returns-clause-gone : goal.returns-clause-gone
returns-clause-gone g c =
    let within = stands-within (record { peer = c.args.peer; k = c.args.k }) c.args.self.now.seen c.place-i.result (cc) in
    let same = ap (λ v. length v.seen) c.self.view_is in
    let removed : c.remove.new.self.items ≡ remove c.self.inside.entries.items c.place-i.result = grind (arith, common_steps) in
    removed ∙ ap (λ v. remove v.seen c.place-i.result) c.self.view_is ∙ without-at_place (record { peer = c.args.peer; k = c.args.k }) c.args.self.now.seen c.place-i.result c.place-i.ensures.before (cc)

pub returns-clause-was : goal.returns-clause-was
returns-clause-was g c =
    let within = stands-within (record { peer = c.args.peer; k = c.args.k }) c.args.self.now.seen c.place-i.result (cc) in
    let same = ap (λ v. length v.seen) c.self.view_is in
    let gone : is_some c.remove.result ≡ true = grind (arith, common_steps) in
    c.is_some.ensures ∙ gone ∙ sym (value-there (record { peer = c.args.peer; k = c.args.k }) c.args.self.now.seen c.place-i.result c.place-i.ensures.before (cc))
