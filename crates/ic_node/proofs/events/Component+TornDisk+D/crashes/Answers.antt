use Rattle.std.proofs.Common.{◌∙◌, sym, ap}
use Rattle.ic_node.specs.Nodes.{disk_in, node_with}
use Rattle.ic_node.specs.Standing.{is_open, is_begun, com_in}
use Rattle.ic_disk.specs.Torns.{torn}
use Rattle.def_run.specs.CoreSteps.{forced_of}
use Rattle.std.proofs.Common.{Some, subst}
use Rattle.ic_node.specs.Sittings.{AreWritable}
use Rattle.ic_node.proofs.Lying.{Stands, disk_stands, same_stands}
use Rattle.ic_node.proofs.events.Component+TornDisk+D.crashes.Goals as goal

pub invariant_of-self-in-Tra : goal.invariant_of-self-in-Tra
invariant_of-self-in-Tra g c =
    let x = c.args.self.now in
    let up = c.requires.going in
    let off = c.put-in-Tra.ensures in
    let is = sym c.replace.ensures.value ∙ c.in-Tra.is in
    let was : Stands (torn g.D.Disk) x.«com».0 x.node x.kept = record { working = x.working up; on_disk = x.on_disk up; whole = x.whole up; owned = x.owned up; durable = x.durable up; settled = x.settled up } in
    let node = disk_stands (torn g.D.Disk) x.«com».0 x.node x.kept _ c.crash_with_records-disk-in-Tra.result.1 (ap disk_in is ∙ ap Some (sym c.crash_with_records-disk-in-Tra.ensures.disk)) (c.crash_with_records-disk-in-Tra.ensures.records ∙ ap (λ n. forced_of (Some (node_with x.kept n))) (sym is)) was in
    let s = same_stands (torn g.D.Disk) c.args.self.now.«com».0 _ c.put-in-Tra.new.self _ off node in
    record {
      opened = λ going. ap is_open off;
      which = λ going. ap (λ n. (com_in x.«com» n).0) off;
      working = λ going. s.working;
      on_disk = λ going. s.on_disk;
      whole = λ going. s.whole;
      owned = λ going. s.owned;
      durable = λ going. s.durable;
      settled = λ going. s.settled;
      begun = λ going. ap (is_begun _) off;
      writable = λ going. subst (λ n. ∥ AreWritable n ∥₁) (sym off) ∣ tt ∣₁;
    }
