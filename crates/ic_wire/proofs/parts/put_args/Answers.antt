use Rattle.std.proofs.Common.{◌≡◌, ◌++◌, ◌∷◌, [], length, ap, ◌∙◌}
use Rattle.std.specs.Prelude.{FitsSigned}
use Rattle.std.specs.Int.{w64}
use Rattle.std.proofs.lemmas.Int.{to_z-of_z}
use Rattle.def_log.specs.Spelling.{value}
use Rattle.ic_wire.proofs.Ranges.{spells_on, fits_on}
use Rattle.ic_wire.proofs.parts.put_args.Goals as goal

pub loop-i-preserved : goal.loop-i-preserved
loop-i-preserved c =
    let x = c.held-x.result in
    let item = c.held-x.ensures.value in
    let now : c.put_value.new.out.items ≡ c.loop-i.out.items ++ value x = c.in_ok-put_value.ensures.spelled ∙ ap (λ z. c.loop-i.out.items ++ value z) (to_z-of_z w64 x c.held-x.ensures.fit) in (
      spells_on value (c.args.out.now.items ++ length c.args.values.now ∷ []) c.loop-i.out.items c.put_value.new.out.items c.args.values.now c.loop-i.i x item c.loop-i.invariant.0 now,
      fits_on (FitsSigned w64) c.args.values.now c.loop-i.i x item c.loop-i.invariant.1 c.held-x.ensures.fit,
    )
