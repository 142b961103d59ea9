-- One Pcom that takes inputs alone: its log is sound, and the crash-free world has it where its log leads.
use Rattle.std.specs.Prelude.{◌≡◌, true, false, List, [], ◌∷◌, length, Some, Ok}
use Rattle.std.specs.List.{list_all}
use Rattle.std.specs.Result.{IsOkAnd}
use Rattle.ic_base.specs.declared.messages.ComId.{ComId}
use Rattle.ic_base.specs.declared.messages.Kind.TheVariants as kinds
use Rattle.ic_base.specs.declared.record.Record.{Record}
use Rattle.ic_base.specs.declared.scenario.Component.{Component}
use Rattle.ic_base.specs.declared.scenario.Program.{Program}
use Rattle.ic_base.specs.Programs.{same_com, is_a_pcom}
use Rattle.def_plain.specs.Plain.{plain_run_of, pcom_at}
use Rattle.def_plain.specs.History.{history_of}
use Rattle.def_report.specs.Summaries.{audit_lines}
use Rattle.def_run.specs.Audits.{audit_of}
use Rattle.def_state.specs.Hist.{Hist, Contents, after}
use Rattle.def_facts.specs.Logs.{Logs, log_at, is_input}
use Rattle.def_facts.specs.Sound.{AreSound}

-- of all components c alone has records, and these are inputs
pub record HaveInputsOf (program : Program) (c : ComId) (logs : Logs) : Type 0 where
  pub one_each : length logs ≡ length program.components
  pub inputs : list_all is_input (log_at logs c) ≡ true
  pub others : (d : ComId) → same_com c d ≡ false → log_at logs d ≡ []

-- Where the log of a Pcom that takes inputs alone replays, whatever the contents, the logs are sound ..
abbrev pub LogsOfInputsAreSound : Type 0
LogsOfInputsAreSound = (program : Program) (c : ComId) (logs : Logs) (k : Contents) (h : Hist) → is_a_pcom program c ≡ true → HaveInputsOf program c logs → after program c k (log_at logs c) ≡ Some h → AreSound program logs

-- .. and the crash-free world of their history has the Pcom in the state to which its log replays.
abbrev pub LogsOfInputsArePlain : Type 0
LogsOfInputsArePlain = (program : Program) (c : ComId) (logs : Logs) (k : Contents) (h : Hist) → is_a_pcom program c ≡ true → HaveInputsOf program c logs → after program c k (log_at logs c) ≡ Some h →
    IsOkAnd (plain_run_of program (history_of program logs)) (λ w. pcom_at w c ≡ Some h.plain)

-- Of a program of one Pcom an audit of such a log prints the values to which the log replays, which are those that its run printed.
abbrev pub AuditTellsTheRun : Type 0
AuditTellsTheRun = (program : Program) (d : Component) (log : List Record) (k : Contents) (h : Hist) → program.components ≡ d ∷ [] → d.kind ≡ kinds.Pcom → list_all is_input log ≡ true → after program (record { 0 = 0 }) k log ≡ Some h →
    audit_of program (log ∷ []) ≡ Ok (audit_lines program (h.plain.vars ∷ []) (length h.plain.outs) (length log))
