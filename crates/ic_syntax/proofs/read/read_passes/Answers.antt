use Rattle.std.proofs.Common.{◌≡◌, ◌≤◌, ◌∙◌, ap, sym, arith, length, reverse}
use Rattle.ic_base.specs.declared.limits.TheConstants.{TEXT_BYTES}
use Rattle.std.specs.Prelude.{Ok}
use Rattle.def_syntax.specs.Scenario.{scenario_of}
use Rattle.ic_syntax.specs.Views.{builder_lines}
use Rattle.ic_syntax.proofs.Walks.{second}
use Rattle.ic_syntax.proofs.Limiting.{is_within}
use Rattle.ic_syntax.proofs.read.read_passes.Goals as goal

is_read : goal.returns-in-Ok-second_pass-clause-accepted
is_read c =
    let text = c.args.bytes.now in
    let all = c.into_components-declared.result in
    let short : length text ≤ TEXT_BYTES = omega arith in
    let declared : all ≡ reverse c.in-Ok.seen.components = c.into_components-declared.ensures in
    let e : scenario_of text ≡ Ok (builder_lines c.in-Ok-second_pass.draft) = second text c.in-Ok.seen all short c.in-Ok.ensures.ok declared ∙ c.in-Ok-second_pass.ensures.ok in
    e ∙ ap (λ ls. Ok ls) (sym c.finished.ensures)

pub returns-in-Ok-second_pass-clause-accepted : goal.returns-in-Ok-second_pass-clause-accepted
returns-in-Ok-second_pass-clause-accepted c = is_read c

pub returns-in-Ok-second_pass-clause-within : goal.returns-in-Ok-second_pass-clause-within
returns-in-Ok-second_pass-clause-within c = is_within c.args.bytes.now c.finished.result (is_read c)
