use Rattle.std.proofs.Common.{◌∙◌, ap, sym, rules, tests, List, find, slice_get}
use Rattle.std.specs.Prelude.{◌&&◌}
use Rattle.std.specs.Option.{option_and_then}
use Rattle.std.proofs.lemmas.Iterator.{YieldsList-from_slice}
use Rattle.std.proofs.lemmas.Iterator.Search.{position_from_yields_List}
use Rattle.def_state.specs.Names.{same_session}
use Rattle.def_step.specs.Tcom.{Sitting, sits_for}
use Rattle.ic_tcom.specs.Roomy.{Roomy}
use Rattle.ic_tcom.proofs.Sessions.{position_finds}
use Rattle.ic_tcom.proofs.sittings.Sittings.place_of.Goals as goal

pub returns-clause-found : goal.returns-clause-found
returns-clause-found c =
    let xs = c.self.inside.list.items in
    let sought = λ (s : Sitting). same_session c.args.session s.session && sits_for c.args.peer c.args.n s in
    let at = position_from_yields_List sought _ _ c.position.result c.position.ensures.ran (YieldsList-from_slice xs (c.iter.ensures.rest ∙ c.deref.ensures.value)) (λ x b q k. search (rules, tests)) in
    ap (λ (v : Roomy (List Sitting)). option_and_then (slice_get v.held) c.position.result) (sym c.self.view_is)
    ∙ ap (option_and_then (slice_get xs)) at
    ∙ position_finds sought xs
    ∙ ap (λ (v : Roomy (List Sitting)). find sought v.held) c.self.view_is
