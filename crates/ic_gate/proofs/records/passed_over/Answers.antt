use Rattle.std.proofs.Common.{◌≡◌, ◌∙◌, Bool, true, false, sym, ap, ◌+◌, ◌++◌, cond, length, take, arith}
use Rattle.def_step.specs.Replay.{behind_checkpoint}
use Rattle.ic_gate.proofs.Checkpoints.{behind_next}
use Rattle.ic_gate.proofs.records.passed_over.Goals as goal
use Rattle.ic_gate.proofs.records.passed_over.Goals.{then-is_checkpoint, else-is_checkpoint}

pub loop-i-preserved : goal.loop-i-preserved
loop-i-preserved c before long passed =
    let adds = c.args.adds.now in
    let i = c.loop-i.i in
    let next = behind_next before adds i c.loop-i.last c.index-adds-i.result c.is_checkpoint.result c.loop-i-test.true c.index-adds-i.is c.is_checkpoint.ensures (c.loop-i.invariant before long passed) in
    let so : (b : Bool) → c.is_checkpoint.result ≡ b → c.if-is_checkpoint.last ≡ cond b (length before + i + 1) c.loop-i.last → c.if-is_checkpoint.last + length (behind_checkpoint (before ++ take (i + 1) adds)) ≡ length before + i + 1 =
    λ b same is. ap (λ n. n + length (behind_checkpoint (before ++ take (i + 1) adds))) (is ∙ sym (ap (λ x. cond x (length before + i + 1) c.loop-i.last) same)) ∙ next in
    let on : c.if-is_checkpoint.last + length (behind_checkpoint (before ++ take (i + 1) adds)) ≡ length before + i + 1 =
    elim c.if-is_checkpoint.branch [ then-is_checkpoint w ↦ so true w.if-is_checkpoint.true (w.last-is ∙ ap (λ n. n + i + 1) (sym long)) | else-is_checkpoint w ↦ so false w.if-is_checkpoint.false w.last-is ] in
    omega (arith, on)
