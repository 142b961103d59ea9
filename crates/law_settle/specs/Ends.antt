-- An explained world stands as the crash-free world of its records, and a settled one ends as that of its merged logs.
use Rattle.std.specs.Prelude.{◌≡◌, ℕ, true, filter_map}
use Rattle.ic_base.specs.declared.messages.ComId.{ComId}
use Rattle.ic_base.specs.declared.scenario.Program.{Program}
use Rattle.ic_base.specs.Programs.{is_a_pcom}
use Rattle.def_plain.specs.Plain.{PlainWorld}
use Rattle.def_plain.specs.History.{history_of}
use Rattle.def_run.specs.CrashFree.{StandsCrashFree, EndsCrashFree, input_in, input_of}
use Rattle.def_step.specs.World.{World}
use Rattle.def_step.specs.Settle.{IsSettled}
use Rattle.def_facts.specs.Logs.{Logs, log_at}
use Rattle.def_facts.specs.Playable.{IsPlayable}
use Rattle.def_facts.specs.World.{LogsExplained, IsFamily, Past, IsExplained}

-- an explained world, wherever its run is, stands as the crash-free world of the merged history of all its records
abbrev pub ExplainedStandsCrashFree : Type 0
ExplainedStandsCrashFree =
    (program : Program) (found : Logs) (here : ComId → ℕ) (w : World) → IsExplained program found here w → (v : PlainWorld) × StandsCrashFree program found w v

-- a settled world that is explained ends as the crash-free world of its merged history
abbrev pub SettledEndsCrashFree : Type 0
SettledEndsCrashFree =
    (program : Program) (found : Logs) (here : ComId → ℕ) (w : World) → IsPlayable program → IsExplained program found here w → IsSettled w → (v : PlainWorld) × EndsCrashFree program found w v

-- In each family of logs the history has the inputs of each Pcom's log, each once, in its order.
abbrev pub InputsStandInOrder : Type 0
InputsStandInOrder = (program : Program) (found forced all logs : Logs) (past : Past) → LogsExplained program found forced all past → IsFamily program forced all past logs → (c : ComId) → is_a_pcom program c ≡ true → filter_map (input_of c) (history_of program logs) ≡ filter_map input_in (log_at logs c)
