use Rattle.std.proofs.Common.{◌∙◌, ap, sym, arith, ℕ}
use Rattle.std.specs.Prelude.{◌==◌}
use Rattle.ic_gate.proofs.Encodings.{some_at}
use Rattle.ic_replay.proofs.Runs.{decided_at, passed_at}
use Rattle.ic_replay.proofs.quiet.are_quiet.Goals as goal

pub returns-then-tag-le5 : goal.returns-then-tag-le5
returns-then-tag-le5 c =
    let rs = c.args.records.now in
    let at = some_at rs c.loop-i.i (omega (arith, c.len-i-end.ensures.count, c.loop-i-test.true)) in
    let tag = c.tag-tag.ensures at.0 at.1 in
    ap (λ (n : ℕ). n == 1) tag ∙ sym (decided_at rs c.loop-i.i at.0 at.1 (omega (arith, tag, c.if-tag-le5.true))) ∙ c.loop-i.invariant

pub loop-i-preserved : goal.loop-i-preserved
loop-i-preserved c =
    let rs = c.args.records.now in
    let at = some_at rs c.loop-i.i (omega (arith, c.len-i-end.ensures.count, c.loop-i-test.true)) in
    let tag = c.tag-tag.ensures at.0 at.1 in
    sym (passed_at rs c.loop-i.i at.0 at.1 (omega (arith, tag, c.if-tag-le5.false))) ∙ c.loop-i.invariant
