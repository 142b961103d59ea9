-- The outputs of both phases, in order of component and showing.
use Rattle.std.specs.Prelude.{◌≡◌, ℕ, not, List, [], count_by, flat_map}
use Rattle.ic_base.specs.declared.report.ReportLevel.{ReportLevel}
use Rattle.ic_base.specs.declared.report.ReportLevel.TheVariants as levels
use Rattle.ic_base.specs.declared.scenario.Program.{Program}
use Rattle.def_live_run.specs.Reports.{Marked, marked_line}
use Rattle.ic_threads.specs.declared.outputs.Outputs.{Outputs}

-- the level at which the line of an output alone is told
abbrev pub level_of : ReportLevel → ReportLevel
level_of levels.Summary = levels.Summary
level_of _ = levels.Brief

-- their lines at a level
abbrev pub lines_at : Program → ReportLevel → List Marked → List ℕ
lines_at program levels.Summary xs = []
lines_at program _ xs = flat_map (marked_line program) xs

-- the outputs are these, in order
pub record Tells (program : Program) (level : ReportLevel) (xs : List Marked) (outputs : Outputs) : Type 0 where
  pub lines : outputs.lines.items ≡ lines_at program level xs
  pub first : outputs.first ≡ count_by (λ x. not x.before) xs
  pub again : outputs.again ≡ count_by (λ x. x.before) xs
