use Rattle.std.proofs.Common.{◌∙◌, sym, ap, subst, take, List, arith}
use Rattle.std.specs.List.{AllByRecursion}
use Rattle.std.proofs.Math.Seq.{take-length}
use Rattle.ic_base.specs.declared.record.Record.{Record}
use Rattle.def_log.specs.Spelling.{Fits}
use Rattle.def_state.specs.Positions.{end_of}
use Rattle.ic_gate.proofs.Checkpoints.{behind-le}
use Rattle.ic_gate.proofs.RecordLogs.{none_waits}
use Rattle.ic_gate.proofs.record_log.RecordLog.new.Goals as goal

pub overflow_sub-passed : goal.overflow_sub-passed
overflow_sub-passed g c = omega (arith, behind-le c.args.records, c.count_behind.ensures, c.len-forced.ensures.count)

pub invariant_of-result-clause-fitting : goal.invariant_of-result-clause-fitting
invariant_of-result-clause-fitting g c =
    let P : List Record → Type 0 = λ l. ∥ AllByRecursion Fits l ∥₁ in
    subst P (sym (none_waits c.len-forced.result c.args.records c.len-forced.ensures.count)) ∣ tt ∣₁

pub invariant_of-result-clause-ended : goal.invariant_of-result-clause-ended
invariant_of-result-clause-ended g c = c.requires.ended ∙ sym (ap end_of (ap (λ m. take m c.args.records) c.len-forced.ensures.count ∙ take-length c.args.records))

pub invariant_of-result-clause-counted : goal.invariant_of-result-clause-counted
invariant_of-result-clause-counted g c = omega (arith, behind-le c.args.records, c.count_behind.ensures, c.len-forced.ensures.count)
