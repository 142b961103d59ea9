use Rattle.std.proofs.Common.{◌∙◌, ap, arith}
use Rattle.def_two.specs.Moves.{amounts, leaves}
use Rattle.ic_moves.proofs.Bounds.{out_is, out_covered, in_bounded}
use Rattle.ic_moves.proofs.book.BookCore.held_out.Goals as goal

pub leaving-requires : goal.leaving-requires
leaving-requires c =
    let core = c.args.self.now in
    let same = ap (amounts (leaves core.number c.args.key)) c.as_slice.ensures.value ∙ out_is core c.args.key c.requires.of_log in
    omega (arith, same, out_covered core c.args.key c.requires.of_log, in_bounded core c.args.key c.requires.of_log)

pub returns-clause-sum : goal.returns-clause-sum
returns-clause-sum c =
    let core = c.args.self.now in
    c.leaving.ensures ∙ ap (amounts (leaves core.number c.args.key)) c.as_slice.ensures.value ∙ out_is core c.args.key c.requires.of_log

pub returns-clause-covered : goal.returns-clause-covered
returns-clause-covered c =
    let core = c.args.self.now in
    let same = c.leaving.ensures ∙ ap (amounts (leaves core.number c.args.key)) c.as_slice.ensures.value ∙ out_is core c.args.key c.requires.of_log in
    omega (arith, same, out_covered core c.args.key c.requires.of_log)
