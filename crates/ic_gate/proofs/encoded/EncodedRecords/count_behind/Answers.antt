use Rattle.std.proofs.Common.{◌≡◌, ◌∙◌, ap, sym, suc, ℕ, ◌-◌, ◌<◌, true, false, length, drop, arith}
use Rattle.std.proofs.lemmas.List.{length-drop}
use Rattle.def_log.specs.Log.{is_checkpoint}
use Rattle.def_step.specs.Replay.{has_image}
use Rattle.ic_gate.proofs.Encodings.{some_at, behind_at, behind_none, none_yet}
use Rattle.ic_gate.proofs.encoded.EncodedRecords.count_behind.Goals as goal

pub returns-then-is_checkpoint : goal.returns-then-is_checkpoint
returns-then-is_checkpoint c =
    let rs = c.args.self.now in
    let back = c.loop-back.back in
    let i : ℕ = c.len-len.result - 1 - back in
    let lt : i < length rs = omega (arith, c.len-len.ensures.count, c.loop-back-test.true) in
    let at = some_at rs i lt in
    let is : is_checkpoint at.0 ≡ true = sym (c.is_checkpoint.ensures at.0 at.1) ∙ c.if-is_checkpoint.true in
    let next : suc i ≡ length rs - back = omega (arith, c.len-len.ensures.count, c.loop-back-test.true) in
    let none : has_image (drop (suc i) rs) ≡ false = ap (λ k. has_image (drop k rs)) next ∙ c.loop-back.invariant in
    omega (arith, ap length (behind_at rs i at.0 at.1 is none), length-drop (suc i) rs, next, c.len-len.ensures.count, c.loop-back-test.true)

pub loop-back-preserved : goal.loop-back-preserved
loop-back-preserved c =
    let rs = c.args.self.now in
    let back = c.loop-back.back in
    none_yet rs back (c.len-len.result - 1 - back) (omega (arith, c.len-len.ensures.count, c.loop-back-test.true)) (omega (arith, c.len-len.ensures.count, c.loop-back-test.true))
    (λ r at. sym (c.is_checkpoint.ensures r at) ∙ c.if-is_checkpoint.false) c.loop-back.invariant

pub returns : goal.returns
returns c =
    let rs = c.args.self.now in
    let all : 0 ≡ length rs - c.loop-back.back = omega (arith, c.len-len.ensures.count, c.loop-back-test.false) in
    let none : has_image rs ≡ false = ap (λ k. has_image (drop k rs)) all ∙ c.loop-back.invariant in
    c.len-len.ensures.count ∙ ap length (sym (behind_none rs none))
