use Rattle.std.proofs.Common.{◌∙◌, ap, sym, subst, ℕ}
use Rattle.def_log.specs.Torn.{all_written}
use Rattle.def_step.specs.Pcom.{Log}
use Rattle.ic_disk.specs.TornDisks.{Torn}
use Rattle.ic_gate.specs.RecordFiles.{placed_from}
use Rattle.ic_gate.specs.RecordLogs.{disk_of, start_of}
use Rattle.ic_pcom.specs.Logs.{places_read}
use Rattle.ic_pcom.specs.Stages.{AreReplayed, ArePlayed}
use Rattle.ic_pcom.proofs.stops.Pcom+TornDisk+D.arm.Goals as goal

pub invariant_of-self : goal.invariant_of-self
invariant_of-self g c =
    let p = c.args.self.now in
    let e = c.arm.ensures in
    let Are : Log → Type 0 = λ l. AreReplayed p.«com».0 l p.stage in
    let Counts : Log → Type 0 = λ l. ArePlayed p.played l p.stage in
    record {
      durable = λ keeps up. c.arm.new.self.durable keeps (e.same.closed ∙ p.opened up);
      settled = λ up. c.arm.new.self.settled (e.same.closed ∙ p.opened up);
      opened = λ up. e.same.closed ∙ p.opened up;
      placed = λ told up replays.
          ap (λ (n : ℕ). places_read (placed_from n (let t = disk_of c.arm.new.self in all_written (g.D.Disk.seen t.inner) t.held))) e.same.start
          ∙ ap (λ (t : Torn _). places_read (placed_from (start_of p.log) (all_written (g.D.Disk.seen t.inner) t.held))) e.disk ∙ p.placed (subst (λ (t : Torn _). g.D.Disk.tells t.inner) e.disk told) up replays;
      limits = p.limits;
      peers = p.peers;
      rests = p.rests;
      replays = λ is. subst Are (sym e.same.records) (p.replays is);
      counted = λ is. subst Counts (sym e.same.records) (p.counted is);
    }
