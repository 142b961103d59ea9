-- The pieces of the report of both phases.
use Rattle.std.proofs.Common.{◌≡◌, ◌∙◌, ap, ℕ, true, List, [], ◌∷◌, ◌++◌}
use Rattle.ic_base.specs.declared.messages.ComId.{ComId}
use Rattle.ic_base.specs.declared.messages.Output.{Output}
use Rattle.ic_base.specs.declared.report.ReportLevel.{ReportLevel}
use Rattle.ic_base.specs.declared.report.Summary.{Summary}
use Rattle.ic_base.specs.declared.scenario.Program.{Program}
use Rattle.def_live_run.specs.Reports.{in_order, output_lines}
use Rattle.def_report.specs.Summaries.{summary_lines}
use Rattle.def_step.specs.World.{World}
use Rattle.ic_report.specs.Outputs.{if_any}
use Rattle.ic_run.specs.Summaries.{summed}
use Rattle.ic_run.specs.declared.tally.Tally.{Tally}
use Rattle.ic_threads.specs.Concluding.{with_outputs, shown_in}
use Rattle.ic_threads.specs.Outputs.{Tells}
use Rattle.ic_threads.specs.declared.outputs.Outputs.{Outputs}
use Rattle.ic_threads.proofs.Marks.{lines-printed}

pub report-pieces : (program : Program) (level : ReportLevel) (tally : Tally) (shown : List (ComId × Output)) (w : World) (outputs : Outputs) (played all : ℕ) (summary : Summary) (first second : List ℕ) → first ≡ outputs.lines.items → Tells program level (in_order program shown) outputs → summary ≡ summed program true (with_outputs tally outputs) played w → second ≡ summary_lines program summary → played ≡ all
    → if_any first ++ if_any second ≡ if_any (output_lines program level shown) ++ summary_lines program (summed program true (shown_in program tally shown) all w) ∷ []
report-pieces program level tally shown w outputs played all summary first second lines told summed-so printed many =
    let T : ℕ × ℕ → Tally = λ n. record tally { first = n.0; again = n.1 } in
    let same : with_outputs tally outputs ≡ shown_in program tally shown = ap T (λ i. (told.first i, told.again i)) in
    let sum : summary ≡ summed program true (shown_in program tally shown) all w = summed-so ∙ ap (λ t. summed program true t played w) same ∙ ap (λ n. summed program true (shown_in program tally shown) n w) many in
    ap (λ l. if_any l ++ if_any second) (lines ∙ told.lines ∙ lines-printed program level shown)
    ∙ ap (λ l. if_any (output_lines program level shown) ++ if_any l) (printed ∙ ap (summary_lines program) sum)
