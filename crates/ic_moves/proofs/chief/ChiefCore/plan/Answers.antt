use Rattle.std.proofs.Common.{◌≡◌, ◌∙◌, ap, sym, not, None}
use Rattle.def_two.specs.Moves.{numbered}
use Rattle.def_two.specs.Chief.{ruling_of}
use Rattle.def_two.specs.Records.{IsCounted2}
use Rattle.law_two.proofs.Lists.{is-none}
use Rattle.ic_moves.specs.Chiefs.{docket_of, IsVerdictOn, IsNext}
use Rattle.ic_moves.proofs.Verdicts.{weaker, verdict_next, verdict_counted}
use Rattle.ic_moves.proofs.chief.ChiefCore.plan.Goals as goal

pub returns-in-Some-clause-fits : goal.returns-in-Some-clause-fits
returns-in-Some-clause-fits c =
    let d = docket_of c.args.self.now in
    let n = c.in-Vote.n in
    let m = c.in-Some.m in
    let book = c.in-Vote.book in
    let is = ap (numbered n) (sym c.as_slice.ensures.value) ∙ sym c.numbered.ensures ∙ c.in-Some.is in
    let party = sym c.is_party.ensures ∙ c.if-is_party.true in
    let undecided : ruling_of d n ≡ None = sym c.ruling_of.ensures ∙ is-none c.ruling_of.result (c.is_none.ensures ∙ ap not c.if-is_none.true) in
    weaker (IsVerdictOn m book) (IsNext d) c.plan_vote.result (λ r v. verdict_next d n m book r is party v undecided) c.plan_vote.ensures.verdict

pub returns-in-Some-clause-counted : goal.returns-in-Some-clause-counted
returns-in-Some-clause-counted c =
    let d = docket_of c.args.self.now in
    let n = c.in-Vote.n in
    let m = c.in-Some.m in
    let book = c.in-Vote.book in
    let is = ap (numbered n) (sym c.as_slice.ensures.value) ∙ sym c.numbered.ensures ∙ c.in-Some.is in
    let party = sym c.is_party.ensures ∙ c.if-is_party.true in
    weaker (IsVerdictOn m book) IsCounted2 c.plan_vote.result (λ r v. verdict_counted d n m book r is party v c.requires.counted) c.plan_vote.ensures.verdict
