use Rattle.std.proofs.Common.{◌≡◌, ◌∙◌, sym, ap, subst, ℕ, Bool, false, take, List}
use Rattle.ic_base.specs.declared.record.Record.{Record}
use Rattle.ic_disk.proofs.Disks.{makes_none, makes_same, rests_makes, Rests-keeps, crash_then, crash_weaker}
use Rattle.ic_gate.specs.Calls.{gated_calls}
use Rattle.ic_gate.specs.RecordCalls.{record_writes}
use Rattle.ic_gate.specs.RecordCommits.{adding, forced_if, batch_of}
use Rattle.ic_gate.specs.RecordFiles.{IsBeforeOrBehindFrom}
use Rattle.ic_gate.specs.RecordLogs.{records_of, disk_of, start_of, size_of, used_of}
use Rattle.ic_gate.proofs.RecordCrashes.{only_before_from}
use Rattle.ic_gate.proofs.RecordFiles.{read_is}
use Rattle.ic_gate.proofs.RecordsStand.{committed}
use Rattle.ic_gate.proofs.record_log.RecordLog.commit.Goals as goal

pub returns-then-forces-clause-calls : goal.returns-then-forces-clause-calls
returns-then-forces-clause-calls g c =
    let p = c.args.self.now in
    let mid = c.append.new.self in
    let e = c.in-Ok.ensures {u = tt} in
    let batch : (records_of mid).buffered ≡ batch_of p c.args.adds.now c.args.forces = e.step.buffered ∙ sym (ap (λ (b : Bool). forced_if b (adding (records_of p) c.args.adds.now)) c.if-forces.true) in
    rests_makes c.append.ensures.disk
    (makes_same (ap (λ n. gated_calls (record_writes n (used_of mid) (records_of mid).buffered)) e.log.size ∙ ap (λ n. gated_calls (record_writes (size_of p) n (records_of mid).buffered)) e.log.used ∙ ap (λ (l : List Record). gated_calls (record_writes (size_of p) (used_of p) l)) batch) c.force.ensures.calls)

pub returns-else-forces-clause-crash : goal.returns-else-forces-clause-crash
returns-else-forces-clause-crash g c =
    let p = c.args.self.now in
    only_before_from {D = g.row.D.Denot} {d = g.D.Disk} (start_of p) (disk_of p) (disk_of c.append.new.self) (take p.forced p.records) (batch_of p c.args.adds.now c.args.forces) g.met.D.Disk.keeping_tells
    (λ keeps. p.durable keeps c.requires.open) (λ told. read_is _ _ (p.whole told c.requires.open) (p.on_disk told c.requires.open)) c.append.ensures.crash

pub returns-in-Err-clause-crash : goal.returns-in-Err-clause-crash
returns-in-Err-clause-crash g c =
    let p = c.args.self.now in
    only_before_from {D = g.row.D.Denot} {d = g.D.Disk} (start_of p) (disk_of p) (disk_of c.append.new.self) (take p.forced p.records) (batch_of p c.args.adds.now c.args.forces) g.met.D.Disk.keeping_tells
    (λ keeps. p.durable keeps c.requires.open) (λ told. read_is _ _ (p.whole told c.requires.open) (p.on_disk told c.requires.open)) c.append.ensures.crash

pub returns-then-forces-clause-crash : goal.returns-then-forces-clause-crash
returns-then-forces-clause-crash g c =
    let p = c.args.self.now in
    let mid = c.append.new.self in
    let e = c.in-Ok.ensures {u = tt} in
    let fs : List Record = take p.forced p.records in
    let all : List Record = batch_of p c.args.adds.now c.args.forces in
    let batch : (records_of mid).buffered ≡ all = e.step.buffered ∙ sym (ap (λ (b : Bool). forced_if b (adding (records_of p) c.args.adds.now)) c.if-forces.true) in
    crash_then (Rests-keeps c.append.ensures.disk)
    (only_before_from {D = g.row.D.Denot} {d = g.D.Disk} (start_of p) (disk_of p) (disk_of mid) fs all g.met.D.Disk.keeping_tells (λ keeps. p.durable keeps c.requires.open) (λ told. read_is _ _ (p.whole told c.requires.open) (p.on_disk told c.requires.open)) c.append.ensures.crash)
    (crash_weaker (λ keeps image is.
    let told = g.met.D.Disk.keeping_tells (disk_of p) (c.append.ensures.disk.keeps.1 keeps) in
    subst (λ (f : List ℕ). IsBeforeOrBehindFrom (start_of p) f fs all image) (c.append.ensures.disk.seen told)
    (subst (λ (n : ℕ). IsBeforeOrBehindFrom n (g.D.Disk.seen (disk_of mid)) fs all image) e.log.start
    (subst (λ (l : List Record). IsBeforeOrBehindFrom (start_of mid) (g.D.Disk.seen (disk_of mid)) l all image) e.step.forced
    (subst (λ (l : List Record). IsBeforeOrBehindFrom (start_of mid) (g.D.Disk.seen (disk_of mid)) (records_of mid).forced l image) batch is))))
    c.force.ensures.crash)

pub returns-in-Err-clause-calls : goal.returns-in-Err-clause-calls
returns-in-Err-clause-calls g c = rests_makes c.append.ensures.disk (makes_none (disk_of c.append.new.self) (gated_calls (record_writes (size_of c.args.self.now) (used_of c.args.self.now) (batch_of c.args.self.now c.args.adds.now c.args.forces))) false _ (λ ok. cc))

pub returns-then-forces-clause-step : goal.returns-then-forces-clause-step
returns-then-forces-clause-step g c =
    let e = c.in-Ok.ensures {u = tt} in
    committed c.args.self.now c.append.new.self c.force.new.self c.args.adds.now c.args.forces c.if-forces.true e.step e.log c.force.result c.force.ensures.step
