use Rattle.std.proofs.Common.{◌≡◌, ◌∙◌, sym, ap, length, vec_len, arith}
use Rattle.std.specs.Prelude.{◌==◌}
use Rattle.ic_disk.specs.Past.{ListedWrites}
use Rattle.ic_disk.specs.TornDisks.{is_none_held}
use Rattle.ic_disk.proofs.Writes.{is_none-writes_of}
use Rattle.ic_disk.proofs.write_list.WriteList.is_empty.Goals as goal

pub returns : goal.returns
returns c =
    let long : vec_len c.self.inside.places ≡ length c.self.inside.places.items = omega arith in
    c.is_empty.ensures ∙ ap (λ n. n == 0) long ∙ sym (is_none-writes_of c.self.inside.places.items c.self.inside.bytes.items) ∙ ap (λ (l : ListedWrites). is_none_held l.writes) c.self.view_is
