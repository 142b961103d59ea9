-- Why records aren't added.
use Rattle.std.proofs.Common.{◌≡◌, ◌∙◌, sym, refl, subst, ◌<◌, ℕ, false, true, List}
use Rattle.std.proofs.lemmas.Bool.{false≢true}
use Rattle.def_step.specs.Pcom.{Log as Split}
use Rattle.ic_gate.specs.Logs as logs
use Rattle.ic_base.specs.declared.limits.TheConstants.{LOG_BYTES}
use Rattle.ic_base.specs.declared.record.Record.{Record}
use Rattle.ic_disk.specs.declared.disk.Disk.{Ghosts}
use Rattle.ic_gate.specs.Calls as calls
use Rattle.ic_gate.specs.declared.log.Log.{Log}
use Rattle.ic_gate.specs.declared.refusals.AppendRefused.{AppendRefused}
use Rattle.ic_gate.specs.declared.refusals.AppendRefused.TheVariants.{Closed, Full, Memory}
use Rattle.ic_gate.specs.declared.refusals.StepRefused.{StepRefused}
use Rattle.ic_gate.specs.RecordCalls.{LacksRoom, AddsNone}
use Rattle.ic_gate.specs.RecordFiles.{refusal_of}
use Rattle.ic_gate.specs.RecordLogs.{records_of}
use Rattle.ic_gate.specs.declared.record_log.RecordLog.{RecordLog}

module _ {D : Type 0} {d : Ghosts D} where
  pub passes : (log : Log D d) (bytes : List ℕ) (why : AppendRefused) → why ≡ Full → calls.RefusesBytes log bytes why → LOG_BYTES < calls.size_with log bytes
  passes log bytes Closed is cause = cc
  passes log bytes Full is cause = cause.1
  passes log bytes Memory is cause = cc

  pub not_closed : (log : Log D d) (bytes : List ℕ) (why : AppendRefused) → logs.is_closed log ≡ false → calls.RefusesBytes log bytes why → ¬ (why ≡ Closed)
  not_closed log bytes Closed is_open cause = λ is. absurd (false≢true (sym is_open ∙ cause))
  not_closed log bytes Full is_open cause = λ is. cc
  not_closed log bytes Memory is_open cause = λ is. cc

  -- a refusal of the log is one of the records over it
  adds_none : (old : RecordLog D d) (adds : List Record) (now : Split) (why : AppendRefused) → ¬ (why ≡ Closed) → now ≡ records_of old → (why ≡ Full → LacksRoom old adds true) → AddsNone old adds now (refusal_of why)
  adds_none old adds now Closed is_open same lacks = absurd (is_open refl)
  adds_none old adds now Full is_open same lacks = (same, lacks refl)
  adds_none old adds now Memory is_open same lacks = same

  pub fails_to_append : (old : RecordLog D d) (adds : List Record) (now : Split) (why : AppendRefused) (result : StepRefused) → result ≡ refusal_of why → ¬ (why ≡ Closed) → now ≡ records_of old → (why ≡ Full → LacksRoom old adds true) → AddsNone old adds now result
  fails_to_append old adds now why result is is_open same lacks =
      let P : StepRefused → Type 0 = λ r. AddsNone old adds now r in
      subst P (sym is) (adds_none old adds now why is_open same lacks)
