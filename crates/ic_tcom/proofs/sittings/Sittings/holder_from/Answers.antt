use Rattle.std.proofs.Common.{◌∙◌, ap, sym, rules, tests, not, filter, List, find}
use Rattle.std.specs.Prelude.{◌&&◌}
use Rattle.std.proofs.lemmas.Iterator.{YieldsList-from_slice}
use Rattle.std.proofs.lemmas.Iterator.Search.{find_from_yields_List}
use Rattle.def_step.specs.Tcom.{Sitting, is_below}
use Rattle.ic_tcom.specs.Roomy.{Roomy}
use Rattle.ic_tcom.specs.Sittings.{holds_for_another}
use Rattle.ic_tcom.proofs.Sessions.{find-filter}
use Rattle.ic_tcom.proofs.sittings.Sittings.holder_from.Goals as goal

pub returns : goal.returns
returns c =
    let xs = c.self.inside.list.items in
    let kept = λ (s : Sitting). not (is_below c.args.peer c.args.n s) in
    let sought = holds_for_another c.args.peer c.args.n c.args.key in
    find_from_yields_List (λ (s : Sitting). kept s && sought s) _ _ c.find.result c.find.ensures.ran (YieldsList-from_slice xs (c.iter.ensures.rest ∙ c.deref.ensures.value)) (λ x b q k. search (rules, tests))
    ∙ sym (find-filter sought kept xs)
    ∙ ap (λ (v : Roomy (List Sitting)). find sought (filter kept v.held)) c.self.view_is
