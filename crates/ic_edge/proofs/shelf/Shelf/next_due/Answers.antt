use Rattle.std.proofs.Common.{◌∙◌, ap, rules, tests, leb, None, Some}
use Rattle.std.proofs.lemmas.Iterator.Consumers.{YieldsList-from_deque}
use Rattle.std.proofs.lemmas.Iterator.Search.{find_from_yields_List}
use Rattle.def_state.specs.Shelf as state
use Rattle.ic_edge.specs.RoomyShelf.{RoomyShelf}
use Rattle.def_state.specs.Shelf.{Waiting}
use Rattle.ic_edge.proofs.Waitings.{due_found}
use Rattle.ic_edge.proofs.shelf.Shelf.next_due.Goals as goal

pub returns-in_err-due : goal.returns-in_err-due
returns-in_err-due c =
    let found = find_from_yields_List (λ (w : Waiting). leb w.at c.args.forced) _ _ c.find.result c.find.ensures.ran (YieldsList-from_deque c.self.inside.waiting.items c.iter.ensures.rest) (λ x b q k. search (rules, tests)) in
    c.from_residual.ensures ∙ due_found _ c.self.inside.made c.args.forced c.find.result None found c.in_err-due.was ∙ ap (λ (v : RoomyShelf). state.next_due v.shelf c.args.forced) c.self.view_is

pub returns : goal.returns
returns c =
    let found = find_from_yields_List (λ (w : Waiting). leb w.at c.args.forced) _ _ c.find.result c.find.ensures.ran (YieldsList-from_deque c.self.inside.waiting.items c.iter.ensures.rest) (λ x b q k. search (rules, tests)) in
    ap (λ (w : Waiting). Some w.output) c.due.view_is ∙ due_found _ c.self.inside.made c.args.forced c.find.result (Some c.in_ok-due.due) found c.in_ok-due.was ∙ ap (λ (v : RoomyShelf). state.next_due v.shelf c.args.forced) c.self.view_is
