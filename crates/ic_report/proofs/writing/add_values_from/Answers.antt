use Rattle.std.proofs.Common.{◌≡◌, ◌∷◌, ◌++◌, arith, rules, pos, w64, ◌∙◌, ap}
use Rattle.std.specs.Prelude.{unwrap_or}
use Rattle.std.specs.Fmt.{signed_decimal}
use mir.Val.{SFits}
use Rattle.std.proofs.lemmas.Int.{to_z-of_z}
use Rattle.ic_report.proofs.Saying.{said-value}
use Rattle.ic_report.proofs.writing.add_values_from.Goals as goal

pub loop-i-preserved : goal.loop-i-preserved
loop-i-preserved c =
    let fits : SFits w64 c.unwrap_or-value.result = search rules in
    let behind : c.add_value.new.out.items ≡ c.loop-i.out.items ++ 32 ∷ signed_decimal c.unwrap_or-value.result = simp to_z-of_z at c.in_ok-add_value.ensures in
    said-value c.loop-i.out.items c.add_value.new.out.items c.args.values.now c.loop-i.i c.unwrap_or-value.result (omega arith)
    (c.unwrap_or-value.ensures ∙ ap (λ o. unwrap_or o (pos 0)) c.get.ensures) behind
    ∙ c.loop-i.invariant
