use Rattle.std.proofs.Common.{◌∙◌, ap, sym, arith, max}
use Rattle.def_step.specs.Tcom.{Verdict}
use Rattle.ic_tcom.proofs.Taken.{taken_below, taken_known, taken}
use Rattle.ic_tcom.proofs.last.take_in.Goals as goal

pub returns-then-verdict-from-clause-last : goal.returns-then-verdict-from-clause-last
returns-then-verdict-from-clause-last c =
    let i = c.verdict.inside in
    let v : Verdict = record { peer = i.peer; n = i.n; stamp = i.stamp } in
    let from = c.max-from.ensures ∙ ap (λ n. max n i.n) c.of.ensures in
    rw (← c.verdict.view_is, c.put.ensures) (λ all h. taken_below all c.args.least.now.held c.args.last.now.held v c.max-from.result from h c.if-verdict-from.true)

pub returns-in-Some-clause-last : goal.returns-in-Some-clause-last
returns-in-Some-clause-last c =
    let i = c.verdict.inside in
    let v : Verdict = record { peer = i.peer; n = i.n; stamp = i.stamp } in
    let from = c.max-from.ensures ∙ ap (λ n. max n i.n) c.of.ensures in
    rw (← c.verdict.view_is, c.put.ensures) (λ all h. taken_known all c.args.least.now.held c.args.last.now.held v c.max-from.result from h c.in-Some.field-0 (omega (arith, c.if-verdict-from.false)) (sym c.stamp_of.ensures ∙ c.in-Some.is))

pub returns-clause-last : goal.returns-clause-last
returns-clause-last c =
    let i = c.verdict.inside in
    let v : Verdict = record { peer = i.peer; n = i.n; stamp = i.stamp } in
    let from = c.max-from.ensures ∙ ap (λ n. max n i.n) c.of.ensures in
    rw (c.put.ensures, c.put-2.ensures, ← c.verdict.view_is) (λ all h. taken all c.args.least.now.held c.args.last.now.held v c.max-from.result from h (omega (arith, c.if-verdict-from.false)) (sym c.stamp_of.ensures ∙ c.in_default.is))
