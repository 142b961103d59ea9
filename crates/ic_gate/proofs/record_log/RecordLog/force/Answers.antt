use Rattle.std.proofs.Common.{◌≡◌, ◌∙◌, refl, sym, ap, inr, cond, ℕ, ◌-◌, ◌++◌, true, false, [], List, Option, drop}
use Rattle.std.specs.Prelude.{unwrap_or}
use Rattle.std.proofs.lemmas.List.{append-nil}
use Rattle.ic_base.specs.declared.record.Record.{Record}
use Rattle.def_log.specs.Gated.{mark_writes}
use Rattle.def_log.specs.Log.{end_with_checkpoint}
use Rattle.def_log.specs.Spelling.{spellings}
use Rattle.ic_disk.proofs.Disks.{crash_then, crash_weaker, makes_part, makes_same, makes_then}
use Rattle.ic_disk.specs.Stops.{DeviceCall}
use Rattle.ic_gate.specs.Calls.{gated_calls, force_writes}
use Rattle.ic_gate.specs.Logs as logs
use Rattle.ic_gate.specs.RecordLogs.{disk_of, start_of, size_of, used_of}
use Rattle.ic_gate.proofs.RecordMarks.{batch_then, of_marked}
use Rattle.ic_gate.proofs.record_log.RecordLog.force.Goals as goal

pub returns-then-ends-clause-calls : goal.returns-then-ends-clause-calls
returns-then-ends-clause-calls g c =
    let p = c.args.self.now in
    let mid = c.write_batch.new.self in
    let e = c.in-Ok.ensures {u = tt} in
    let batch : List Record = drop p.forced p.records in
    let ends : end_with_checkpoint batch ≡ true = sym c.end_with_checkpoint-ends.ensures ∙ c.if-ends.true in
    let first : List DeviceCall = gated_calls (force_writes (size_of p) (spellings batch)) in
    let marks : gated_calls (mark_writes (used_of mid) (unwrap_or (logs.last_of mid.log) 0)) ≡ gated_calls (mark_writes (used_of p) (size_of p - 1)) =
    ap (λ n. gated_calls (mark_writes n (unwrap_or (logs.last_of mid.log) 0))) e.step.used ∙ ap (λ (o : Option ℕ). gated_calls (mark_writes (used_of p) (unwrap_or o 0))) (e.step.last ends) in
    makes_same (ap (λ (cs : List DeviceCall). first ++ cs) marks ∙ sym (batch_then (size_of p) (used_of p) batch true ends)) (makes_then e.disk e.calls c.mark_batch.ensures.calls)

pub returns-else-ends-clause-calls : goal.returns-else-ends-clause-calls
returns-else-ends-clause-calls g c =
    let p = c.args.self.now in
    let batch : List Record = drop p.forced p.records in
    let none : end_with_checkpoint batch ≡ false = sym c.end_with_checkpoint-ends.ensures ∙ c.if-ends.false in
    makes_same (sym (append-nil (gated_calls (force_writes (size_of p) (spellings batch)))) ∙ sym (batch_then (size_of p) (used_of p) batch false none)) (c.in-Ok.ensures {u = tt}).calls

pub returns-in-Err-clause-calls : goal.returns-in-Err-clause-calls
returns-in-Err-clause-calls g c =
    let p = c.args.self.now in
    let batch : List Record = drop p.forced p.records in
    makes_same (sym (batch_then (size_of p) (used_of p) batch (end_with_checkpoint batch) refl)) (makes_part (gated_calls (cond (end_with_checkpoint batch) (mark_writes (used_of p) (size_of p - 1)) [])) c.in-Err.ensures.calls)

pub returns-then-ends-clause-crash : goal.returns-then-ends-clause-crash
returns-then-ends-clause-crash g c =
    let p = c.args.self.now in
    let mid = c.write_batch.new.self in
    let e = c.in-Ok.ensures {u = tt} in
    let batch : List Record = drop p.forced p.records in
    let ends : end_with_checkpoint batch ≡ true = sym c.end_with_checkpoint-ends.ensures ∙ c.if-ends.true in
    crash_then e.disk e.crash
    (crash_weaker (λ keeps image is.
    let told = g.met.D.Disk.keeping_tells (disk_of p) (e.disk.keeps.1 keeps) in
    let whose = e.log.whose told e.step.forces.is_open in
    let marked = of_marked (start_of mid) (g.D.Disk.seen (disk_of mid)) image (unwrap_or (logs.last_of mid.log) 0) is in
    (record { fingerprint = marked.fingerprint ∙ whose.fingerprint; owner = marked.owner ∙ whose.owner }, inr (e.step.reads ends told image is)))
    c.mark_batch.ensures.crash)
