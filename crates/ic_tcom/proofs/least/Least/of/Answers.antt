use Rattle.std.proofs.Common.{◌∙◌, ap, rules, tests, None, Some, ℕ}
use Rattle.std.proofs.lemmas.Iterator.{YieldsList-from_slice}
use Rattle.std.proofs.lemmas.Iterator.Search.{find_from_yields_List}
use Rattle.ic_base.specs.declared.messages.ComId.{ComId}
use Rattle.ic_base.specs.Programs.{same_com}
use Rattle.def_state.specs.Names.{Numbers, number_of}
use Rattle.ic_tcom.specs.Roomy.{Roomy}
use Rattle.ic_tcom.proofs.Numbers.{number_sought}
use Rattle.ic_tcom.proofs.least.Least.of.Goals as goal

pub returns-in-Some : goal.returns-in-Some
returns-in-Some c =
    let found = find_from_yields_List (λ (x : ComId × ℕ). same_com c.args.c x.0) _ _ c.find.result c.find.ensures.ran (YieldsList-from_slice c.deref.result.now (c.iter.ensures.rest)) (λ x b q k. search (rules, tests)) in
    number_sought c.args.c _ _ (Some c.in-Some.kept) c.find.result found c.in-Some.is c.deref.ensures.value ∙ ap (λ (v : Roomy Numbers). number_of 1 v.held c.args.c) c.self.view_is

pub returns-in-None : goal.returns-in-None
returns-in-None c =
    let found = find_from_yields_List (λ (x : ComId × ℕ). same_com c.args.c x.0) _ _ c.find.result c.find.ensures.ran (YieldsList-from_slice c.deref.result.now (c.iter.ensures.rest)) (λ x b q k. search (rules, tests)) in
    number_sought c.args.c _ _ None c.find.result found c.in-None.is c.deref.ensures.value ∙ ap (λ (v : Roomy Numbers). number_of 1 v.held c.args.c) c.self.view_is
