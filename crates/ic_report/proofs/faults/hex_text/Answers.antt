use Rattle.std.proofs.Common.{arith, ◌∙◌}
use Rattle.std.proofs.lemmas.Result.{IfOk-weaker}
use Rattle.hex.specs.Hex.{IsBytes}
use Rattle.ic_report.proofs.Digits.{digits_same}
use Rattle.ic_report.proofs.faults.hex_text.Goals as goal

pub returns : goal.returns
returns c =
    let fits : IsBytes c.args.bytes.now = λ i. let f = c.type_inv.bytes i in omega arith in
    IfOk-weaker c.encode.result _ _ (λ text h. h ∙ digits_same c.args.bytes.now fits) c.encode.ensures
