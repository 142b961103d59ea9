use Rattle.std.proofs.Common.{◌∙◌, ap, sym, subst, ℕ}
use Rattle.def_step.specs.Pcom.{Log}
use Rattle.ic_gate.specs.RecordFiles.{placed_from}
use Rattle.ic_gate.specs.RecordLogs.{disk_of, start_of}
use Rattle.ic_pcom.specs.Logs.{places_read}
use Rattle.ic_pcom.specs.Stages.{AreReplayed, ArePlayed}
use Rattle.ic_pcom.proofs.pcom.Pcom.drop_bytes.Goals as goal

pub invariant_of-self : goal.invariant_of-self
invariant_of-self g c =
    let p = c.args.self.now in
    let D = g.D.Disk in
    let e = c.drop_bytes.ensures in
    let Are : Log → Type 0 = λ l. AreReplayed p.«com».0 l p.stage in
    let Counts : Log → Type 0 = λ l. ArePlayed p.played l p.stage in
    record {
      durable = λ keeps up. c.drop_bytes.new.self.durable keeps (e.same.closed ∙ p.opened up);
      settled = λ up. c.drop_bytes.new.self.settled (e.same.closed ∙ p.opened up);
      opened = λ up. e.same.closed ∙ p.opened up;
      placed = λ told up replays.
          ap (λ (n : ℕ). places_read (placed_from n (D.seen (disk_of c.drop_bytes.new.self)))) e.same.start
          ∙ ap (λ disk. places_read (placed_from (start_of p.log) (D.seen disk))) e.disk ∙ p.placed (subst (λ disk. D.tells disk) e.disk told) up replays;
      limits = p.limits;
      peers = p.peers;
      rests = p.rests;
      replays = λ is. subst Are (sym e.same.records) (p.replays is);
      counted = λ is. subst Counts (sym e.same.records) (p.counted is);
    }
