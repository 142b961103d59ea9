use Rattle.std.proofs.Common.{ap, length, arith}
use Rattle.std.specs.Prelude.{filter, not}
use Rattle.std.proofs.lemmas.List.{length-map}
use Rattle.ic_index.proofs.Passing.{passing-behind}
use Rattle.ic_out.specs.Views.{held_of, is_unput}
use Rattle.ic_out.proofs.outbox.Outbox.left_to_put.Goals as goal

pub returns-clause-enough : goal.returns-clause-enough
returns-clause-enough c =
    let rows = c.self.inside.rows.items in
    let kept = c.self.invariant in
    let seen = ap (λ v. length (filter is_unput v.seen.held)) c.self.view_is in
    omega (arith, seen, c.len.ensures, passing-behind held_of is_unput rows c.self.inside.first kept.within (λ k d low high. ap not (kept.put k d low high)))

pub returns-clause-few : goal.returns-clause-few
returns-clause-few c =
    let seen = ap (λ v. length v.seen.held) c.self.view_is in
    omega (arith, seen, c.len.ensures, length-map c.self.inside.rows.items held_of)
