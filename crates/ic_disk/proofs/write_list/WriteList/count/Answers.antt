use Rattle.std.proofs.Common.{◌≡◌, ◌∙◌, sym, ap, length, vec_len, arith}
use Rattle.ic_disk.specs.Past.{ListedWrites}
use Rattle.ic_disk.specs.TornDisks.{total}
use Rattle.ic_disk.proofs.Writes.{total-writes_of}
use Rattle.ic_disk.proofs.write_list.WriteList.count.Goals as goal

pub returns : goal.returns
returns c =
    let long : vec_len c.self.inside.bytes ≡ length c.self.inside.bytes.items = omega arith in
    c.len.ensures ∙ long ∙ sym (total-writes_of c.self.inside.places.items c.self.inside.bytes.items c.self.invariant) ∙ ap (λ (l : ListedWrites). total l.writes) c.self.view_is
