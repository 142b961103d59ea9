use Rattle.std.proofs.Common.{◌∙◌, ap, ℤ, to_z, of_z}
use Rattle.std.specs.Int.{w64}
use Rattle.std.proofs.lemmas.Int.{to_z-of_z}
use Rattle.def_two.specs.Script as script
use Rattle.def_two.specs.Script.{apart}
use Rattle.ic_script.proofs.Moves.{move_found}
use Rattle.ic_script.proofs.line.move_of.Goals as goal

pub returns-in_ok-stop-in-len5-up-clause-line : goal.returns-in_ok-stop-in-len5-up-clause-line
returns-in_ok-stop-in-len5-up-clause-line c =
    let line = c.args.line.now in
    let from = c.in_ok-from-in-len5-up.from.now in
    let source = c.in_ok-source-in-len5-up.source in
    let to = c.in_ok-to-in-len5-up.to.now in
    let target = c.in_ok-target-in-len5-up.target in
    let amount = c.in_ok-amount-in-len5-up.amount in
    let stop = c.in_ok-stop-in-len5-up.stop in
    c.move_line.ensures.line
    ∙ ap (λ (z : ℤ). apart from to (script.MoveOf from z to (to_z w64 (of_z w64 target)) amount stop)) (to_z-of_z w64 source c.in_ok-source-in-len5-up.ensures.fits)
    ∙ ap (λ (z : ℤ). apart from to (script.MoveOf from source to z amount stop)) (to_z-of_z w64 target c.in_ok-target-in-len5-up.ensures.fits)
    ∙ move_found from source to target amount stop line c.args.tokens.now _ c.in-len5-up.len_at_least c.in_ok-from-in-len5-up.ensures (c.in_ok-source-in-len5-up.ensures.number line) c.in_ok-to-in-len5-up.ensures
    (c.in_ok-target-in-len5-up.ensures.number line) (c.in_ok-amount-in-len5-up.ensures.number line) c.in_ok-stop-in-len5-up.ensures.stop
