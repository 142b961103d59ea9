use Rattle.std.proofs.Common.{◌≡◌, ℕ, List, subst}
use Rattle.std.specs.Prelude.{IfOk}
use Rattle.ic_report.proofs.Saying.{event-lines}
use Rattle.ic_report.proofs.lines.trace_bytes.Goals as goal

pub returns : goal.returns
returns c =
    let P : List ℕ → Type 0 = λ lines. IfOk c.lines_in.result (λ b. b ≡ lines) in
    record { lines = subst P (event-lines c.args.program.now c.args.level c.args.number c.args.trace.now) c.lines_in.ensures }
