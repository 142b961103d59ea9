use Rattle.std.proofs.Common.{◌≡◌, ◌∙◌, ◌++◌, sym, ap, rules, arith, append_assoc, append-nil, length}
use Rattle.std.specs.Vec.Iter.{into_iter_items}
use Rattle.ic_node.specs.Views.{disk_of}
use Rattle.ic_world.specs.Opening.{disks_under, inner_of}
use Rattle.ic_world.proofs.Lists.{nil-of}
use Rattle.ic_threads.proofs.refusing.disks_of.Goals as goal

pub loop-x-preserved : goal.loop-x-preserved
loop-x-preserved g c =
    let rest = disks_under (into_iter_items c.next.new.self) in
    ap (λ l. l ++ rest) c.in_ok-add_disk.ensures
    ∙ append_assoc c.loop-x.disks.items (inner_of (disk_of c.in-Some.x)) rest
    ∙ ap (λ l. c.loop-x.disks.items ++ disks_under l) (sym c.in-Some.ensures.items)
    ∙ c.loop-x.invariant

pub returns : goal.returns
returns g c =
    let none : length (into_iter_items c.loop-x.rest) ≡ 0 = search (rules, arith) in
    sym (append-nil c.loop-x.disks.items) ∙ ap (λ l. c.loop-x.disks.items ++ disks_under l) (sym (nil-of (into_iter_items c.loop-x.rest) none)) ∙ c.loop-x.invariant
