use Rattle.std.proofs.Common.{◌∙◌, ap, sym, arith}
use Rattle.std.specs.Prelude.{is_some}
use Rattle.std.specs.List.{list_any}
use Rattle.def_state.specs.Names.{Identity, same_identity}
use Rattle.ic_in.proofs.Recorded.{taken-is, recorded-past, recorded-low}
use Rattle.ic_in.proofs.taken.Taken.contains.Goals as goal

pub returns-then-bound-k : goal.returns-then-bound-k
returns-then-bound-k c =
    let x : Identity = record { peer = c.args.from; k = c.args.k } in
    c.is_some.ensures
    ∙ ap is_some c.get.ensures
    ∙ sym (recorded-past c.self.inside.bounds.seen c.self.inside.above.seen x (omega arith))
    ∙ sym (taken-is c.self.inside.bounds.seen c.self.inside.above.seen x c.self.invariant)
    ∙ ap (λ v. list_any (same_identity x) v.seen) c.self.view_is

pub returns : goal.returns
returns c =
    let x : Identity = record { peer = c.args.from; k = c.args.k } in
    sym (recorded-low c.self.inside.bounds.seen c.self.inside.above.seen x c.self.invariant (omega arith))
    ∙ sym (taken-is c.self.inside.bounds.seen c.self.inside.above.seen x c.self.invariant)
    ∙ ap (λ v. list_any (same_identity x) v.seen) c.self.view_is
