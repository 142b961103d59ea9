use Rattle.std.proofs.Common.{ap, arith, length}
use Rattle.ic_disk.specs.Past.{ListedWrites}
use Rattle.ic_disk.proofs.Writes.{length-writes_of}
use Rattle.ic_disk.proofs.flush.flush.Goals as goal

pub returns-in_err-arrive-clause-at_most : goal.returns-in_err-arrive-clause-at_most
returns-in_err-arrive-clause-at_most g c =
    let places = c.held.inside.places.items in
    let view = ap (λ (l : ListedWrites). length l.writes) c.held.view_is in
    omega (arith, c.arrive.ensures.at_most, ap length c.deref.ensures.value, view, length-writes_of places c.held.inside.bytes.items)

pub returns-clause-at_most : goal.returns-clause-at_most
returns-clause-at_most g c =
    let places = c.held.inside.places.items in
    let view = ap (λ (l : ListedWrites). length l.writes) c.held.view_is in
    omega (arith, c.sync.ensures.calls, c.arrive.ensures.at_most, ap length c.deref.ensures.value, view, length-writes_of places c.held.inside.bytes.items)
