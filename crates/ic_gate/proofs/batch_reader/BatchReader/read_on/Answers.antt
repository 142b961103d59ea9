use Rattle.std.proofs.Common.{subst, ℕ, List, ◌+◌}
use Rattle.std.proofs.lemmas.Result.{err_from_is_err_and}
use Rattle.def_log.specs.Log.{placed_at}
use Rattle.ic_gate.specs.RecordLoads.{FailsToRead}
use Rattle.ic_gate.proofs.Readers.{slice_is, moved_rest, holds_on, is_read_on, ends_told}
use Rattle.ic_gate.proofs.batch_reader.BatchReader.read_on.Goals as goal

pub returns-in_err-checkpoint-clause-refused : goal.returns-in_err-checkpoint-clause-refused
returns-in_err-checkpoint-clause-refused c =
    let p = err_from_is_err_and c.from_residual.result c.from_residual.ensures.1 in
    let why = c.in_err-checkpoint.field-0.0 in
    rw (p.1, p.2) (subst (λ (l : List ℕ). FailsToRead (placed_at (c.args.gate + 5) l) why)
    (slice_is c.args.self c.self.inside.bytes.items c.self.inside.ends c.self.inside.kinds c.deref.result.now c.self.inside.places c.self.inside.kept c.self.inside.gate c.args.count c.self.invariant c.self.view_is c.requires.inside c.deref.ensures.value) ((c.in_err-checkpoint.ensures {u = tt}).refused))

pub invariant_of-reader : goal.invariant_of-reader
invariant_of-reader c = holds_on c.args.self c.self.inside.bytes.items c.self.inside.ends c.self.inside.kinds c.deref.result.now c.self.inside.places c.self.inside.kept c.self.inside.gate c.args.count c.self.invariant c.self.view_is c.requires.inside c.deref.ensures.value c.copy_within.new.self.items c.copy_within.ensures.items (c.args.gate + 5) c.mark_records.new.ends c.mark_records.new.kinds c.mark_records.new.places c.in_ok-checkpoint.checkpoint ((c.in_ok-checkpoint.ensures {u = tt}).read)

pub returns-clause-read : goal.returns-clause-read
returns-clause-read c = is_read_on c.args.self c.self.inside.bytes.items c.self.inside.ends c.self.inside.kinds c.deref.result.now c.self.inside.places c.self.inside.kept c.self.inside.gate c.args.count c.self.invariant c.self.view_is c.requires.inside c.deref.ensures.value c.copy_within.new.self.items c.copy_within.ensures.items (c.args.gate + 5) c.mark_records.new.ends c.mark_records.new.kinds c.mark_records.new.places c.in_ok-checkpoint.checkpoint ((c.in_ok-checkpoint.ensures {u = tt}).read)

pub returns-clause-rest : goal.returns-clause-rest
returns-clause-rest c = moved_rest c.args.self c.self.inside.bytes.items c.self.inside.ends c.self.inside.kinds c.deref.result.now c.self.inside.places c.self.inside.kept c.self.inside.gate c.args.count c.self.invariant c.self.view_is c.requires.inside c.deref.ensures.value c.copy_within.new.self.items c.copy_within.ensures.items

pub returns-clause-ends : goal.returns-clause-ends
returns-clause-ends c = ends_told c.args.self c.self.inside.bytes.items c.self.inside.ends c.self.inside.kinds c.deref.result.now c.self.inside.places c.self.inside.kept c.self.inside.gate c.args.count c.self.invariant c.self.view_is c.requires.inside c.deref.ensures.value c.copy_within.new.self.items c.copy_within.ensures.items (c.args.gate + 5) c.mark_records.new.ends c.mark_records.new.kinds c.mark_records.new.places c.in_ok-checkpoint.checkpoint ((c.in_ok-checkpoint.ensures {u = tt}).read)
