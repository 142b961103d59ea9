-- What an audit of logs prints.
use Rattle.std.specs.Prelude.{ℕ, ℤ, List, [], length, map, sum_by, Result, Ok, Err}
use Rattle.ic_base.specs.declared.messages.Entry.{Entry}
use Rattle.ic_base.specs.declared.record.Record.{Record}
use Rattle.ic_base.specs.declared.scenario.Program.{Program}
use Rattle.def_plain.specs.declared.world.PlainCom.{PlainCom}
use Rattle.def_plain.specs.declared.world.PlainCom.TheVariants.{Pcom, Tcom, Xcom}
use Rattle.def_plain.specs.Plain.{PlainWorld, plain_run_of}
use Rattle.def_plain.specs.History.{history_of}
use Rattle.def_report.specs.Summaries.{audit_lines}

-- the values of a component of the crash-free world, and the number of its outputs
abbrev pub values_in : PlainCom → List ℤ
values_in (Pcom p) = p.vars
values_in (Tcom ledger) = ledger
values_in Xcom = []

abbrev pub outputs_in : PlainCom → ℕ
outputs_in (Pcom p) = length p.outs
outputs_in _ = 0

-- the lines of an audit, or the entry of an illegal history that has no step
abbrev pub audit_of_run : Program → List Entry → Result PlainWorld ℕ → Result (List ℕ) ℕ
audit_of_run program entries (Ok w) = Ok (audit_lines program (map values_in w) (sum_by outputs_in w) (length entries))
audit_of_run program entries (Err entry) = Err entry

abbrev pub audit_of : Program → List (List Record) → Result (List ℕ) ℕ
audit_of program logs = audit_of_run program (history_of program logs) (plain_run_of program (history_of program logs))
