use Rattle.std.proofs.Common.{◌≡◌, ◌∙◌, ap, ℕ, ◌+◌, length, vec_len, Option, Some, None, arith}
use Rattle.std.specs.Prelude.{SomeIff, IfSome}
use Rattle.ic_disk.specs.Past.{ListedWrites}
use Rattle.ic_disk.specs.TornDisks.{need}
use Rattle.ic_disk.proofs.Writes.{need-writes_of}
use Rattle.ic_disk.proofs.write_list.WriteList.need.Goals as goal

counted : (found : Option ℕ) (P : Type 0) (sum is : ℕ) → sum ≡ is → SomeIff found P sum → IfSome found (λ n. n ≡ is)
counted None P sum is e given = tt
counted (Some n) P sum is e given = given.1 ∙ e

pub returns : goal.returns
returns c =
    let is = need-writes_of c.self.inside.places.items c.self.inside.bytes.items c.self.invariant in
    let places : vec_len c.self.inside.places ≡ length c.self.inside.places.items = omega arith in
    let bytes : vec_len c.self.inside.bytes ≡ length c.self.inside.bytes.items = omega arith in
    let sum : c.in_ok-checked_mul.field-0 + c.len-2.result ≡ need c.args.self.now.writes =
    omega (arith, (c.in_ok-checked_mul.ensures {u = tt}).1, c.len.ensures, c.len-2.ensures, places, bytes, is, ap (λ (l : ListedWrites). need l.writes) c.self.view_is) in
    counted c.checked_add.result _ (c.in_ok-checked_mul.field-0 + c.len-2.result) (need c.args.self.now.writes) sum c.checked_add.ensures
