use Rattle.std.proofs.Common.{leb, rules, tests, length, refl, Some, None, ℕ}
use Rattle.std.proofs.lemmas.Iterator.{YieldsList-from_slice}
use Rattle.std.proofs.lemmas.Iterator.Search.{position_from_yields_List}
use Rattle.ic_base.specs.declared.messages.ComId.{ComId}
use Rattle.ic_tcom.proofs.Numbers.{place_sought}
use Rattle.ic_tcom.proofs.least.place_of.Goals as goal

pub returns-in-Some-clause-place : goal.returns-in-Some-clause-place
returns-in-Some-clause-place c =
    let at = position_from_yields_List (λ (x : ComId × ℕ). leb c.args.c.0 x.0.0) _ _ c.position.result c.position.ensures.ran (YieldsList-from_slice c.args.numbers.now c.iter.ensures.rest) (λ x b q k. search (rules, tests)) in
    place_sought c.args.c c.args.numbers.now c.position.result (Some c.in-Some.place) c.in-Some.place at c.in-Some.is refl

pub returns-in-None-clause-place : goal.returns-in-None-clause-place
returns-in-None-clause-place c =
    let at = position_from_yields_List (λ (x : ComId × ℕ). leb c.args.c.0 x.0.0) _ _ c.position.result c.position.ensures.ran (YieldsList-from_slice c.args.numbers.now c.iter.ensures.rest) (λ x b q k. search (rules, tests)) in
    place_sought c.args.c c.args.numbers.now c.position.result None (length c.args.numbers.now) at c.in-None.is refl
