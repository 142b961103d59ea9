use Rattle.std.proofs.Common.{◌∙◌, ap, arith}
use Rattle.def_two.specs.Moves.{amounts, comes}
use Rattle.ic_moves.proofs.Bounds.{in_is, in_bounded}
use Rattle.ic_moves.proofs.book.BookCore.held_in.Goals as goal

pub coming-requires : goal.coming-requires
coming-requires c =
    let core = c.args.self.now in
    let same = ap (amounts (comes core.number c.args.key)) c.as_slice.ensures.value ∙ in_is core c.args.key c.requires.of_log in
    omega (arith, same, in_bounded core c.args.key c.requires.of_log)

pub returns-clause-sum : goal.returns-clause-sum
returns-clause-sum c =
    let core = c.args.self.now in
    c.coming.ensures ∙ ap (amounts (comes core.number c.args.key)) c.as_slice.ensures.value ∙ in_is core c.args.key c.requires.of_log

pub returns-clause-bounded : goal.returns-clause-bounded
returns-clause-bounded c =
    let core = c.args.self.now in
    let same = c.coming.ensures ∙ ap (amounts (comes core.number c.args.key)) c.as_slice.ensures.value ∙ in_is core c.args.key c.requires.of_log in
    omega (arith, same, in_bounded core c.args.key c.requires.of_log)
