use Rattle.std.proofs.Common.{◌∙◌, rules, tests}
use Rattle.std.proofs.lemmas.Iterator.{YieldsList-from_slice}
use Rattle.std.proofs.lemmas.Iterator.Search.{find_from_yields_List}
use Rattle.def_two.specs.Moves.{is_number}
use Rattle.ic_moves.proofs.moves.numbered.Goals as goal

pub returns : goal.returns
returns c =
    let xs = c.args.moves.now in
    c.copied.ensures ∙ find_from_yields_List (is_number c.args.n) _ _ c.find.result c.find.ensures.ran (YieldsList-from_slice xs c.iter.ensures.rest) (λ x b q k. search (rules, tests))
