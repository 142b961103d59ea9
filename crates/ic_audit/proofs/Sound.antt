-- An audit of sound logs has lines.
use Rattle.std.proofs.Common.{◌≡◌, ◌∙◌, sym, ap, subst, ℕ, List}
use Rattle.std.specs.Prelude.{⊤, Result, Ok, Err}
use Rattle.ic_base.specs.declared.messages.ComId.{ComId}
use Rattle.ic_base.specs.declared.report.Fault.{Fault}
use Rattle.ic_base.specs.declared.report.Fault.TheVariants as faults
use Rattle.ic_base.specs.declared.scenario.Program.{Program}
use Rattle.def_plain.specs.History.{history_of}
use Rattle.def_run.specs.Audits.{audit_of, audit_of_run}
use Rattle.ic_audit.specs.Audits.{HoldSoundLogs, SaysNothingOfLogs}
use Rattle.ic_audit.specs.Disks.{Refuses}
use Rattle.ic_audit.specs.Logs.{◌>>=◌, audit_in, or_illegal}
use Rattle.ic_report.specs.declared.ending.Why.{Why}
use Rattle.ic_report.specs.declared.ending.Why.TheVariants.{Fault as AFault, Print, Memory}

has_lines : (program : Program) (print : List ℕ) (files : List (List ℕ)) → HoldSoundLogs program print files → (lines : List ℕ) × (audit_in program print files ≡ Ok lines)
has_lines program print files held = (
  _,
  ap (λ r. r >>= (λ logs. or_illegal (audit_of program logs))) held.read
      ∙ ap (λ r. or_illegal (audit_of_run program (history_of program held.logs) r)) (held.sound.1).legal,
)

abbrev IsLines : {A E : Type 0} → Result A E → Type 0
IsLines (Ok lines) = ⊤
IsLines (Err why) = ⊥

not_refused : {A E B : Type 0} (r : Result A E) (lines : A) (why : E) → r ≡ Ok lines → r ≡ Err why → B
not_refused r lines why is refused = absurd (subst IsLines (sym is ∙ refused) tt)

-- where there are lines, no log is refused
of_no_log : (tells : Type 0) (faulted : ComId → Type 0) (r : Result (List ℕ) Fault) (lines : List ℕ) → r ≡ Ok lines → tells → (why : Why) → Refuses tells faulted r why → SaysNothingOfLogs why
of_no_log tells faulted r lines has told (AFault (faults.Foreign c kept given)) is = not_refused r lines (faults.Foreign c kept given) has (is told)
of_no_log tells faulted r lines has told (AFault (faults.Bad c place)) is = not_refused r lines (faults.Bad c place) has (is told)
of_no_log tells faulted r lines has told (AFault (faults.Illegal entry)) is = not_refused r lines (faults.Illegal entry) has (is told)
of_no_log tells faulted r lines has told (AFault (faults.Disk c)) is = tt
of_no_log tells faulted r lines has told (AFault faults.Usage) is = absurd is
of_no_log tells faulted r lines has told (AFault (faults.Scenario line cause)) is = absurd is
of_no_log tells faulted r lines has told (AFault (faults.Schedule line cause)) is = absurd is
of_no_log tells faulted r lines has told (AFault (faults.Policy why)) is = absurd is
of_no_log tells faulted r lines has told (AFault faults.Receipts) is = absurd is
of_no_log tells faulted r lines has told (AFault faults.Packets) is = absurd is
of_no_log tells faulted r lines has told (AFault (faults.LogFull c)) is = absurd is
of_no_log tells faulted r lines has told (AFault faults.Read) is = absurd is
of_no_log tells faulted r lines has told (AFault (faults.NotBlank c)) is = absurd is
of_no_log tells faulted r lines has told Print is = tt
of_no_log tells faulted r lines has told Memory is = tt

pub sound_logs_are_audited : (tells : Type 0) (faulted : ComId → Type 0) (program : Program) (print : List ℕ) (files : List (List ℕ)) (why : Why) → Refuses tells faulted (audit_in program print files) why → tells → HoldSoundLogs program print files → SaysNothingOfLogs why
sound_logs_are_audited tells faulted program print files why cause told held =
    let lines = has_lines program print files held in
    of_no_log tells faulted (audit_in program print files) lines.0 lines.1 told why cause
