use Rattle.std.proofs.Common.{◌∙◌, ap, sym, Ok}
use Rattle.ic_tokens.specs.Views.{seen_tokens}
use Rattle.ic_plan.proofs.ServedInputs.{served_events}
use Rattle.ic_plan.proofs.served.read_line.Goals as goal

pub returns-in-Ok-clause-events : goal.returns-in-Ok-clause-events
returns-in-Ok-clause-events c =
    let read = c.in-Ok.ensures.ok ∙ ap (λ ts. Ok (seen_tokens c.args.line.now ts)) (sym c.as_slice.ensures) in
    served_events c.args.program.now c.args.line.now _ c.token_line.result read c.token_line.ensures.read c.token_line.ensures.there
