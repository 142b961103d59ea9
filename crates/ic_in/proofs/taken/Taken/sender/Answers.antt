use Rattle.std.proofs.Common.{◌≡◌, ap, subst, List, true}
use Rattle.def_state.specs.Names.{Identity}
use Rattle.ic_in.specs.Senders.{are_components, sender_of, with_number, with_bound}
use Rattle.ic_in.proofs.Grouping.{bound-at}
use Rattle.ic_in.proofs.taken.Taken.sender.Goals as goal

pub returns : goal.returns
returns c =
    let P : List Identity → Type 0 = λ t. are_components t ≡ true → with_number c.at.result ≡ with_bound (sender_of t c.args.i) in
    subst P (ap (λ v. v.seen) c.self.view_is) (bound-at c.self.inside.bounds.seen c.self.inside.above.seen c.args.i c.at.result c.at.ensures c.self.invariant)
