use Rattle.std.proofs.Common.{ap, length, arith}
use Rattle.std.specs.Prelude.{filter}
use Rattle.std.proofs.lemmas.List.{length-map}
use Rattle.ic_index.proofs.Passing.{passing-behind}
use Rattle.ic_in.specs.Views.{receipt_of, is_waiting}
use Rattle.ic_in.proofs.inbox.Inbox.left_to_tell.Goals as goal

pub returns-clause-enough : goal.returns-clause-enough
returns-clause-enough c =
    let rows = c.self.inside.rows.items in
    let kept = c.self.invariant in
    let seen = ap (λ v. length (filter is_waiting v.seen.receipts)) c.self.view_is in
    omega (arith, seen, c.len.ensures, passing-behind receipt_of is_waiting rows c.self.inside.first kept.within kept.told)

pub returns-clause-few : goal.returns-clause-few
returns-clause-few c =
    let seen = ap (λ v. length v.seen.receipts) c.self.view_is in
    omega (arith, seen, c.len.ensures, length-map c.self.inside.rows.items receipt_of)
