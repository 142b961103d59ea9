use Rattle.std.proofs.Common.{◌∙◌, ◌++◌, ◌+◌, sym, ap, rules, arith, append_assoc, drop, map, List}
use Rattle.ic_base.specs.declared.messages.ComId.{ComId}
use Rattle.ic_base.specs.declared.messages.Output.{Output}
use Rattle.ic_node.specs.Views.{com_of}
use Rattle.ic_turn.specs.Progresses.{shown_of}
use Rattle.ic_joins.specs.Showing.{showings_of}
use Rattle.ic_joins.proofs.Shown.{showings-next}
use Rattle.ic_joins.proofs.showing.showings_of.Goals as goal

pub loop-at-preserved : goal.loop-at-preserved
loop-at-preserved g c =
    let i = c.loop-at.at in
    let x = c.index-components-at.result in
    let p = c.index-progresses-at.result in
    let rest = showings_of (drop (i + 1) c.args.components.now) (drop (i + 1) c.args.progresses.now) in
    let F : ComId × List Output → List (ComId × Output) = λ z. map (λ (o : Output). (z.0, o)) z.1 in
    ap (λ l. l ++ rest) (c.in_ok-add_showings.ensures ∙ ap (λ l. c.loop-at.showings ++ l) (ap F (λ j. (c.com.ensures j, c.shown.ensures j))))
    ∙ append_assoc c.loop-at.showings (F (com_of x, shown_of p)) rest
    ∙ ap (λ l. c.loop-at.showings ++ l) (sym (showings-next c.args.components.now c.args.progresses.now i x p (search (rules, arith)) (search (rules, arith)) c.index-components-at.is c.index-progresses-at.is))
    ∙ c.loop-at.invariant
