use Rattle.std.proofs.Common.{◌≡◌, ◌++◌, ◌∷◌, [], List, ℕ, length, ap, ◌∙◌}
use Rattle.ic_disk.specs.Past.{ListedWrites, writes_of}
use Rattle.ic_disk.proofs.Writes.{writes_of-push}
use Rattle.ic_disk.proofs.write_list.WriteList.add.Goals as goal

pub returns-clause-writes : goal.returns-clause-writes
returns-clause-writes c =
    let bytes : c.extend_from_slice.new.self.items ≡ c.self.inside.bytes.items ++ c.args.bytes.now = rw c.unwrap.ensures at c.extend_from_slice.ensures.items in
    ap (λ (l : List (ℕ × ℕ)). writes_of l c.extend_from_slice.new.self.items) c.push_reserved.ensures.items
    ∙ ap (writes_of (c.self.inside.places.items ++ (c.args.at, length c.args.bytes.now) ∷ [])) bytes
    ∙ writes_of-push c.self.inside.places.items c.args.at c.self.inside.bytes.items c.args.bytes.now c.self.invariant
    ∙ ap (λ (p : ListedWrites). p.writes ++ (c.args.at, c.args.bytes.now) ∷ []) c.self.view_is
