use Rattle.std.proofs.Common.{◌≡◌, ◌∙◌, sym, ap, subst, arith, cond, [], ℕ, ◌+◌, ◌<◌, length, take, drop, true, List, Ok, Option, Some}
use Rattle.std.specs.List.{AllByRecursion}
use Rattle.std.proofs.lemmas.Bool.{false≢true}
use Rattle.std.proofs.Math.Seq.{take-length}
use Rattle.std.specs.Prelude.{is_ok, unwrap_or}
use Rattle.ic_base.specs.declared.record.Record.{Record}
use Rattle.def_log.specs.Changes.{IsOldOrMarked, is_start}
use Rattle.def_log.specs.Log.{end_with_checkpoint}
use Rattle.def_log.specs.Spelling.{spellings, Fits}
use Rattle.def_state.specs.Positions.{end_of}
use Rattle.ic_disk.proofs.Disks.{crash_weaker, makes_named, makes_same}
use Rattle.ic_gate.specs.Calls.{gated_calls, force_writes, FailsToForce}
use Rattle.ic_gate.specs.declared.refusals.ForceRefused.{ForceRefused}
use Rattle.ic_gate.specs.Logs as logs
use Rattle.ic_gate.specs.RecordFiles.{records_from, read_or_none, ReadsOn}
use Rattle.ic_gate.proofs.RecordFiles.{read_is, old_or_behind_from}
use Rattle.ic_gate.proofs.RecordLogs.{size_behind, none_waits, reads_behind, same_behind, end_behind, all_forced}
use Rattle.ic_gate.proofs.RecordMarks.{some_bytes, reads_marked_from}
use Rattle.ic_gate.proofs.record_log.RecordLog.write_batch.Goals as goal

pub invariant_of-self : goal.invariant_of-self
invariant_of-self g c =
    let p = c.args.self.now in
    let D = g.D.Disk in
    let e = c.in-Ok.ensures {u = tt} in
    let n : c.len-self.result ≡ length p.records = c.len-self.ensures.count in
    let stands : D.tells (logs.disk_of c.force.new.self) → records_from (logs.start_of c.force.new.self) (D.seen (logs.disk_of c.force.new.self)) ≡ Ok p.records = λ told.
    let was = e.disk.tells.1 told in
    ap (λ m. records_from m (D.seen (logs.disk_of c.force.new.self))) e.step.start
    ∙ (reads_behind (logs.start_of p.log) (D.seen (logs.disk_of p.log)) (D.seen (logs.disk_of c.force.new.self)) (logs.size_of p.log + 4) (logs.buffered_of p.log) p.forced p.records p.fitting p.waiting
    (read_is _ _ (p.whole was c.requires.open) (p.on_disk was c.requires.open))
    (λ none. ap D.seen (e.step.idle none).disk) (e.step.batch was)).walk in
    record {
      on_disk = λ told up. ap read_or_none (stands told) ∙ sym (ap (λ m. take m p.records) n ∙ take-length p.records);
      whole = λ told up. ap is_ok (stands told);
      durable = c.force.new.self.durable;
      settled = c.force.new.self.settled;
      waiting = e.step.buffered ∙ sym (ap spellings (none_waits c.len-self.result p.records n));
      fitting = let P : List Record → Type 0 = λ l. ∥ AllByRecursion Fits l ∥₁ in subst P (sym (none_waits c.len-self.result p.records n)) ∣ tt ∣₁;
      few = omega (arith, n);
      ended = e.step.forced ∙ end_behind p.forced p.records (logs.forced_of p.log) (logs.buffered_of p.log) p.ended p.waiting ∙ sym (ap end_of (ap (λ m. take m p.records) n ∙ take-length p.records));
      counted = p.counted;
    }

pub returns-in-Ok-clause-step : goal.returns-in-Ok-clause-step
returns-in-Ok-clause-step g c =
    let p = c.args.self.now in
    let e = c.in-Ok.ensures {u = tt} in
    let some = λ (ends : end_with_checkpoint (drop p.forced p.records) ≡ true). subst (λ l. 0 < length l) (sym p.waiting) (some_bytes (drop p.forced p.records) ends) in
    record {
      forces = record {
        records = all_forced c.len-self.result p.forced p.records c.len-self.ensures.count;
        size = size_behind (logs.size_of p.log) (logs.size_of c.force.new.self) (logs.buffered_of p.log) (drop p.forced p.records) p.waiting (λ none. (e.step.idle none).size) e.step.size;
        is_open = e.step.is_open;
      };
      used = ap length e.step.slots;
      last = λ ends. e.step.last (some ends);
      reads = λ ends told image marked.
          let was : records_from (logs.start_of p.log) (g.D.Disk.seen (logs.disk_of p.log)) ≡ Ok (take p.forced p.records) = read_is _ _ (p.whole told c.requires.open) (p.on_disk told c.requires.open) in
          reads_marked_from (logs.start_of p.log) p.log.gate (logs.size_of p.log + 4) (g.D.Disk.seen (logs.disk_of p.log)) (g.D.Disk.seen (logs.disk_of c.force.new.self)) image (take p.forced p.records) (drop p.forced p.records) (logs.buffered_of p.log) p.fitting p.waiting ends was
          (p.log.at_gate told c.requires.open) (ap (is_start (logs.start_of p.log)) (p.log.listed told c.requires.open) ∙ p.log.begun) (omega arith) (e.step.batch told (some ends))
          (let P : ℕ → ℕ → Type 0 = λ start offset. IsOldOrMarked start (g.D.Disk.seen (logs.disk_of c.force.new.self)) offset image in subst (λ start. P start p.log.gate) e.step.start (subst (λ (o : Option ℕ). P (logs.start_of c.force.new.self) (unwrap_or o 0)) (e.step.last (some ends) ∙ ap (λ (n : ℕ). Some n) (omega arith)) marked));
    }

pub returns-in-Ok-clause-crash : goal.returns-in-Ok-clause-crash
returns-in-Ok-clause-crash g c =
    let p = c.args.self.now in
    crash_weaker (λ keeps image. let told = g.met.D.Disk.keeping_tells (logs.disk_of p.log) keeps in
    old_or_behind_from (logs.start_of p.log) (g.D.Disk.seen (logs.disk_of p.log)) image (logs.size_of p.log + 4) (logs.buffered_of p.log) (take p.forced p.records) (drop p.forced p.records) p.fitting p.waiting
    (read_is _ _ (p.whole told c.requires.open) (p.on_disk told c.requires.open)))
    (c.force.ensures.crash c.requires.open)

pub returns-in-Err-Failed-clause-crash : goal.returns-in-Err-Failed-clause-crash
returns-in-Err-Failed-clause-crash g c =
    let p = c.args.self.now in
    crash_weaker (λ keeps image. let told = g.met.D.Disk.keeping_tells (logs.disk_of p.log) keeps in
    old_or_behind_from (logs.start_of p.log) (g.D.Disk.seen (logs.disk_of p.log)) image (logs.size_of p.log + 4) (logs.buffered_of p.log) (take p.forced p.records) (drop p.forced p.records) p.fitting p.waiting
    (read_is _ _ (p.whole told c.requires.open) (p.on_disk told c.requires.open)))
    (c.force.ensures.crash c.requires.open)

pub returns-in-Err-Stopped-clause-crash : goal.returns-in-Err-Stopped-clause-crash
returns-in-Err-Stopped-clause-crash g c =
    let p = c.args.self.now in
    crash_weaker (λ keeps image. let told = g.met.D.Disk.keeping_tells (logs.disk_of p.log) keeps in
    old_or_behind_from (logs.start_of p.log) (g.D.Disk.seen (logs.disk_of p.log)) image (logs.size_of p.log + 4) (logs.buffered_of p.log) (take p.forced p.records) (drop p.forced p.records) p.fitting p.waiting
    (read_is _ _ (p.whole told c.requires.open) (p.on_disk told c.requires.open)))
    (c.force.ensures.crash c.requires.open)

pub returns-in-Ok-clause-calls : goal.returns-in-Ok-clause-calls
returns-in-Ok-clause-calls g c =
    let p = c.args.self.now in
    makes_same (ap (λ b. cond b [] (gated_calls (force_writes (logs.size_of p.log) (logs.buffered_of p.log)))) c.requires.open ∙ ap (λ l. gated_calls (force_writes (logs.size_of p.log) l)) p.waiting)
    (makes_named _ (λ e. cc) (c.in-Ok.ensures {u = tt}).calls)

pub returns-in-Ok-clause-log : goal.returns-in-Ok-clause-log
returns-in-Ok-clause-log g c =
    let p = c.args.self.now in
    let e = c.in-Ok.ensures {u = tt} in
    record {
      start = e.step.start;
      reads = λ told up.
          subst (ReadsOn (logs.start_of p.log) (g.D.Disk.seen (logs.disk_of p.log)) (take p.forced p.records) (g.D.Disk.seen (logs.disk_of c.force.new.self))) (sym (ap (λ m. take m p.records) c.len-self.ensures.count ∙ take-length p.records))
          (reads_behind (logs.start_of p.log) (g.D.Disk.seen (logs.disk_of p.log)) (g.D.Disk.seen (logs.disk_of c.force.new.self)) (logs.size_of p.log + 4) (logs.buffered_of p.log) p.forced p.records p.fitting p.waiting
          (read_is _ _ (p.whole told c.requires.open) (p.on_disk told c.requires.open)) (λ none. ap g.D.Disk.seen (e.step.idle none).disk) (e.step.batch told));
      whose = λ told up. same_behind (logs.start_of p.log) (g.D.Disk.seen (logs.disk_of p.log)) (g.D.Disk.seen (logs.disk_of c.force.new.self)) (logs.size_of p.log + 4) (logs.buffered_of p.log) (λ none. ap g.D.Disk.seen (e.step.idle none).disk) (e.step.batch told);
      still = λ none. c.force.ensures.still (p.waiting ∙ ap spellings none);
    }

pub returns-in-Err-Failed-clause-log : goal.returns-in-Err-Failed-clause-log
returns-in-Err-Failed-clause-log g c =
    let p = c.args.self.now in
    let down = (subst (λ (w : ForceRefused). FailsToForce p.log c.force.new.self w) c.in-Err-Failed.field-0-is (c.in-Err-Failed.ensures {u = tt}).refused).0 in
    record {
      start = down.start;
      whose = λ told up. absurd (false≢true (sym up ∙ down.closes));
      reads = λ told up. absurd (false≢true (sym up ∙ down.closes));
      still = λ none. c.force.ensures.still (p.waiting ∙ ap spellings none);
    }

pub returns-in-Err-Stopped-clause-log : goal.returns-in-Err-Stopped-clause-log
returns-in-Err-Stopped-clause-log g c =
    let p = c.args.self.now in
    let down = (subst (λ (w : ForceRefused). FailsToForce p.log c.force.new.self w) c.in-Err-Stopped.field-0-is (c.in-Err-Stopped.ensures {u = tt}).refused).0 in
    record {
      start = down.start;
      whose = λ told up. absurd (false≢true (sym up ∙ down.closes));
      reads = λ told up. absurd (false≢true (sym up ∙ down.closes));
      still = λ none. c.force.ensures.still (p.waiting ∙ ap spellings none);
    }
