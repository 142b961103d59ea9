use Rattle.std.proofs.Common.{◌≡◌, ◌∙◌, ◌++◌, ◌∷◌, [], sym, ap, rules, arith, append_assoc, append-nil, filter, is_some, length}
use Rattle.std.proofs.lemmas.List.Elements.{filter-append}
use Rattle.std.specs.Vec.Iter.{into_iter_items}
use Rattle.ic_node.specs.Views.{disk_of}
use Rattle.ic_node.specs.declared.component.Component.{Component}
use Rattle.ic_world.proofs.Lists.{nil-of}
use Rattle.ic_joins.proofs.berths.berths_of.Goals as goal

pub loop-x-preserved : goal.loop-x-preserved
loop-x-preserved g c =
    let f = λ (x : Component g.row.D.Denot g.D.Disk). is_some (disk_of x) in
    let rest = into_iter_items c.next.new.self in
    let one = filter f (c.in-Some.x ∷ []) in
    ap (λ l. l ++ filter f rest) c.in_ok-add_berth.ensures
    ∙ append_assoc c.loop-x.berths one (filter f rest)
    ∙ ap (λ l. c.loop-x.berths ++ l) (sym (filter-append f (c.in-Some.x ∷ []) rest) ∙ ap (filter f) (sym c.in-Some.ensures.items))
    ∙ c.loop-x.invariant

pub returns : goal.returns
returns g c =
    let f = λ (x : Component g.row.D.Denot g.D.Disk). is_some (disk_of x) in
    let none : length (into_iter_items c.loop-x.components) ≡ 0 = search (rules, arith) in
    sym (append-nil c.loop-x.berths) ∙ ap (λ l. c.loop-x.berths ++ filter f l) (sym (nil-of (into_iter_items c.loop-x.components) none)) ∙ c.loop-x.invariant
