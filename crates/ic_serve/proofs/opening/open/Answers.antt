use Rattle.std.proofs.Common.{inr}
use Rattle.ic_serve.proofs.Results.{on-ok, on-refused}
use Rattle.ic_serve.proofs.opening.open.Goals as goal

pub returns-in-NotBlank-clause-step : goal.returns-in-NotBlank-clause-step
returns-in-NotBlank-clause-step g c = on-ok c.found.result c.found.ensures.step (λ w f. inr (c.in-Err.refused, record { who = c.in-NotBlank.field-0; why = c.in-NotBlank.is; fails = c.in-Err.ensures.refused }, f))

pub returns-in-NotBlank-clause-refused : goal.returns-in-NotBlank-clause-refused
returns-in-NotBlank-clause-refused g c = on-refused c.found.result c.found.ensures.refused (λ refused f. inr (c.in-Err.refused, record { who = c.in-NotBlank.field-0; why = c.in-NotBlank.is; fails = c.in-Err.ensures.refused }, f))
