use Rattle.std.proofs.Common.{◌≡◌, ◌∙◌, ap, cond, false, []}
use Rattle.std.specs.Prelude.{is_ok, unwrap_or}
use Rattle.ic_disk.proofs.Disks.{makes_named, makes_same}
use Rattle.ic_gate.specs.Calls.{gated_calls, slot_writes}
use Rattle.ic_gate.specs.Logs as logs
use Rattle.ic_gate.specs.RecordFiles.{records_from, read_or_none}
use Rattle.ic_gate.proofs.RecordMarks.{some_is, walk_marked, is_marked, buffered_stays}
use Rattle.ic_gate.proofs.Walks.{same_walk}
use Rattle.ic_gate.proofs.record_log.RecordLog.mark_batch.Goals as goal

pub invariant_of-self : goal.invariant_of-self
invariant_of-self g c =
    let p = c.args.self.now in
    let D = g.D.Disk in
    let offset = unwrap_or (logs.last_of p.log) 0 in
    let e = c.mark.ensures in
    let stay = buffered_stays p.log c.mark.new.self offset c.requires.open c.mark.result e.step e.refused in
    let same = λ (told : D.tells (logs.disk_of c.mark.new.self)) (up : logs.is_closed c.mark.new.self ≡ false).
    let was = e.disk.tells.1 told in
    ap (λ n. records_from n (D.seen (logs.disk_of c.mark.new.self))) stay.2
    ∙ same_walk (logs.start_of p.log) (D.seen (logs.disk_of p.log)) (D.seen (logs.disk_of c.mark.new.self)) (walk_marked (logs.start_of p.log) (D.seen (logs.disk_of p.log)) (D.seen (logs.disk_of c.mark.new.self)) offset (is_marked p.log c.mark.new.self offset c.requires.open c.mark.result e.step e.refused up was)) in
    record {
      on_disk = λ told up. ap read_or_none (same told up) ∙ p.on_disk (e.disk.tells.1 told) c.requires.open;
      whole = λ told up. ap is_ok (same told up) ∙ p.whole (e.disk.tells.1 told) c.requires.open;
      durable = c.mark.new.self.durable;
      settled = c.mark.new.self.settled;
      waiting = stay.0 ∙ p.waiting;
      fitting = p.fitting;
      few = p.few;
      ended = stay.1 ∙ p.ended;
      counted = p.counted;
    }

pub returns-in-Ok-clause-calls : goal.returns-in-Ok-clause-calls
returns-in-Ok-clause-calls g c =
    let p = c.args.self.now in
    makes_same (ap (λ b. cond b [] (gated_calls (slot_writes (logs.slots_of p.log) (logs.last_of p.log)))) c.requires.open ∙ ap (λ o. gated_calls (slot_writes (logs.slots_of p.log) o)) (some_is (logs.last_of p.log) c.requires.last))
    (makes_named _ (λ e. cc) (c.in-Ok.ensures {u = tt}).calls)
