use Rattle.std.proofs.Common.{◌∙◌, sym, ap, refl, subst, length}
use Rattle.ic_gate.specs.Reading.{load_calls}
use Rattle.ic_node.specs.Cutting.{is_halted}
use Rattle.ic_node.specs.Nodes.{disk_in}
use Rattle.ic_node.specs.Sittings.{AreWritable}
use Rattle.ic_node.specs.Standing.{is_open, is_begun, com_in}
use Rattle.ic_disk.specs.Torns.{torn}
use Rattle.ic_node.proofs.LieDowns.{kept_so, left_more, loaded_stands, lies_so, fails_so}
use Rattle.ic_node.proofs.Lying.{same_stands}
use Rattle.ic_node.proofs.DeviceCalls.{made_here}
use Rattle.ic_node.proofs.stop.Component+TornDisk+D.lies_down.Goals as goal

pub unreachable-requires : goal.unreachable-requires
unreachable-requires g c = subst (is_halted g.D.Disk) (ap disk_in (sym c.replace.ensures.value) ∙ sym c.into_disk.ensures ∙ c.in_default.is) c.requires.halted

pub unreachable-unreachable : goal.unreachable-unreachable
unreachable-unreachable g c = c.unreachable.result

pub reloaded-requires : goal.reloaded-requires
reloaded-requires g c = record { halted = subst (is_halted g.D.Disk) (ap disk_in (sym c.replace.ensures.value) ∙ sym c.into_disk.ensures ∙ c.in-Some.is) c.requires.halted }

pub put-requires : goal.put-requires
put-requires g c = record { outside = ap disk_in c.replace.ensures.after }

pub put-requires-in-Err : goal.put-requires-in-Err
put-requires-in-Err g c = record { outside = ap disk_in c.replace.ensures.after }

pub invariant_of-self : goal.invariant_of-self
invariant_of-self g c =
    let e = c.in-Ok.ensures {u = tt} in
    let off = c.put.ensures in
    let s = same_stands (torn g.D.Disk) c.args.self.now.«com».0 _ c.put.new.self c.in-Ok.kept off (loaded_stands g.D.Disk c.in-Some.disk _ _ c.in-Ok.disk c.in-Ok.kept e.disk e.step) in
    record {
      opened = λ going. ap is_open off;
      which = λ going. ap (λ n. (com_in c.args.self.now.«com» n).0) off;
      working = λ going. s.working;
      on_disk = λ going. s.on_disk;
      whole = λ going. s.whole;
      owned = λ going. s.owned;
      durable = λ going. s.durable;
      settled = λ going. s.settled;
      begun = λ going. ap (is_begun _) off;
      writable = λ going. subst (λ n. ∥ AreWritable n ∥₁) (sym off) ∣ tt ∣₁;
    }

pub returns-in-Ok-clause-step : goal.returns-in-Ok-clause-step
returns-in-Ok-clause-step g c =
    let was = ap disk_in (sym c.replace.ensures.value) ∙ sym c.into_disk.ensures ∙ c.in-Some.is in
    let e = c.in-Ok.ensures {u = tt} in
    lies_so g.D.Disk c.args.self.now _ c.in-Some.disk was c.args.fingerprint.now c.in-Ok.disk c.put.ensures refl refl e.step

pub returns-in-Ok-clause-disk : goal.returns-in-Ok-clause-disk
returns-in-Ok-clause-disk g c =
    let was = ap disk_in (sym c.replace.ensures.value) ∙ sym c.into_disk.ensures ∙ c.in-Some.is in
    let e = c.in-Ok.ensures {u = tt} in
    kept_so (torn g.D.Disk) c.in-Some.disk c.in-Ok.disk _ _ was (ap disk_in c.put.ensures) e.disk

pub returns-in-Ok-clause-crash : goal.returns-in-Ok-clause-crash
returns-in-Ok-clause-crash g c =
    let was = ap disk_in (sym c.replace.ensures.value) ∙ sym c.into_disk.ensures ∙ c.in-Some.is in
    let e = c.in-Ok.ensures {u = tt} in
    left_more (torn g.D.Disk) c.in-Some.disk c.in-Ok.disk _ _ was (ap disk_in c.put.ensures) e.crash

pub returns-in-Err-clause-disk : goal.returns-in-Err-clause-disk
returns-in-Err-clause-disk g c =
    let was = ap disk_in (sym c.replace.ensures.value) ∙ sym c.into_disk.ensures ∙ c.in-Some.is in
    let e = c.in-Err.ensures {u = tt} in
    kept_so (torn g.D.Disk) c.in-Some.disk c.in-Err.refused.disk _ _ was (ap disk_in c.put-in-Err.ensures) e.disk

pub returns-in-Err-clause-crash : goal.returns-in-Err-clause-crash
returns-in-Err-clause-crash g c =
    let was = ap disk_in (sym c.replace.ensures.value) ∙ sym c.into_disk.ensures ∙ c.in-Some.is in
    let e = c.in-Err.ensures {u = tt} in
    left_more (torn g.D.Disk) c.in-Some.disk c.in-Err.refused.disk _ _ was (ap disk_in c.put-in-Err.ensures) e.crash

pub returns-in-Err-clause-refused : goal.returns-in-Err-clause-refused
returns-in-Err-clause-refused g c =
    let was = ap disk_in (sym c.replace.ensures.value) ∙ sym c.into_disk.ensures ∙ c.in-Some.is in
    let e = c.in-Err.ensures {u = tt} in
    rw (c.refusal_of.ensures) (fails_so g.D.Disk c.args.self.now (disk_in c.put-in-Err.new.self) c.in-Some.disk was c.args.fingerprint.now c.in-Err.refused.disk c.in-Err.refused.why (ap disk_in c.put-in-Err.ensures) e.refused)

pub returns-in-Ok-clause-calls : goal.returns-in-Ok-clause-calls
returns-in-Ok-clause-calls g c =
    let was = ap disk_in (sym c.replace.ensures.value) ∙ sym c.into_disk.ensures ∙ c.in-Some.is in
    made_here g.D.Disk _ _ c.in-Some.disk c.in-Ok.disk (length load_calls) was (ap disk_in c.put.ensures) (c.in-Ok.ensures {u = tt}).calls

pub returns-in-Err-clause-calls : goal.returns-in-Err-clause-calls
returns-in-Err-clause-calls g c =
    let was = ap disk_in (sym c.replace.ensures.value) ∙ sym c.into_disk.ensures ∙ c.in-Some.is in
    made_here g.D.Disk _ _ c.in-Some.disk c.in-Err.refused.disk (length load_calls) was (ap disk_in c.put-in-Err.ensures) (c.in-Err.ensures {u = tt}).calls
