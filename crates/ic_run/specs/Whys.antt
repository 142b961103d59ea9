-- Why a run ends before its end, as its last line tells it.
use Rattle.std.specs.Prelude.{ℕ, List, Option, Some, None}
use Rattle.ic_base.specs.declared.report.Fault.{Fault}
use Rattle.ic_base.specs.declared.report.Fault.TheVariants as faults
use Rattle.ic_base.specs.declared.refusals.StartWhy.{StartWhy}
use Rattle.ic_base.specs.declared.refusals.WorldRefused.{WorldRefused}
use Rattle.def_run.specs.Refusals.{fault_of, start_fault_of}
use Rattle.ic_report.specs.declared.ending.Why.{Why}
use Rattle.ic_run.specs.declared.running.Cut.{Cut}
use Rattle.ic_run.specs.declared.running.Cut.TheVariants as cuts
use Rattle.ic_report.specs.declared.ending.Why.TheVariants.{Fault as AFault, Print, Memory}
use Rattle.ic_plan.specs.declared.run_texts.TextsRefused.{TextsRefused}
use Rattle.ic_plan.specs.declared.run_texts.TextsRefused.TheVariants as texts

-- want of memory has no last line
abbrev pub why_of : Option Fault → Why
why_of None = Memory
why_of (Some fault) = AFault fault

abbrev pub why_of_world : List ℕ → WorldRefused → Why
why_of_world given why = why_of (fault_of given why)

abbrev pub why_of_cut : List ℕ → Cut → Why
why_of_cut given (cuts.Refused why) = why_of_world given why
why_of_cut given cuts.Print = Print
why_of_cut given cuts.Memory = Memory

abbrev pub why_of_start : List ℕ → StartWhy → Why
why_of_start given why = why_of (start_fault_of given why)

abbrev pub why_of_texts : TextsRefused → Why
why_of_texts (texts.Scenario line cause) = AFault (faults.Scenario line cause)
why_of_texts (texts.Schedule line cause) = AFault (faults.Schedule line cause)
why_of_texts (texts.Policy why) = AFault (faults.Policy why)
why_of_texts texts.Read = AFault faults.Read
why_of_texts texts.Memory = Memory
