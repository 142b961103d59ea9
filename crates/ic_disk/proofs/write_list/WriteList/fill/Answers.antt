use Rattle.std.proofs.Common.{◌≡◌, ◌∙◌, ap, sym, ℕ, ◌-◌, List, ◌++◌, length, take, replicate, length-append, arith}
use Rattle.std.proofs.lemmas.List.{length-take, length-replicate}
use Rattle.ic_disk.specs.Past.{ListedWrites, writes_of, filled}
use Rattle.ic_disk.proofs.Writes.{written_back, writes_of-filled}
use Rattle.ic_disk.proofs.write_list.WriteList.fill.Goals as goal

pub returns-clause-writes : goal.returns-clause-writes
returns-clause-writes c =
    let old = c.self.inside.bytes.items in
    let new = c.fill_behind.new.bytes in
    let value : c.deref_mut.result.now ≡ old = c.deref_mut.ensures.value in
    let is : new ≡ take c.args.keep old ++ replicate (length old - c.args.keep) c.args.byte =
    c.fill_behind.ensures ∙ ap (λ (l : List ℕ). take c.args.keep l ++ replicate (length l - c.args.keep) c.args.byte) value in
    let long : length new ≡ length old =
    omega (arith, ap length is, length-append (take c.args.keep old) (replicate (length old - c.args.keep) c.args.byte), length-take c.args.keep old, length-replicate (length old - c.args.keep) c.args.byte) in
    let count : c.self.inside.bytes.len ≡ length old = sym c.deref_mut.ensures.len ∙ ap length value in
    ap (writes_of c.self.inside.places.items) (written_back c.self.inside.bytes.len new old long count ∙ is)
    ∙ writes_of-filled c.args.byte c.self.inside.places.items c.args.keep old c.self.invariant
    ∙ ap (λ (p : ListedWrites). filled c.args.keep c.args.byte p.writes) c.self.view_is
