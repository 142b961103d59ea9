use Rattle.std.proofs.Common.{◌∙◌, ap, ◌-◌, arith}
use Rattle.std.specs.Prelude.{slice_get}
use Rattle.ic_gate.proofs.Encodings.{last_of}
use Rattle.ic_gate.proofs.encoded.EncodedRecords.end_with_checkpoint.Goals as goal

pub returns-then-n-len : goal.returns-then-n-len
returns-then-n-len c =
    let rs = c.args.self.now in
    last_of rs c.args.n c.is_checkpoint.result (omega (arith, c.len-len.ensures.count, c.if-n-len.true)) (λ r at. c.is_checkpoint.ensures r (ap (λ k. slice_get rs (k - 1)) c.len-len.ensures.count ∙ at))
