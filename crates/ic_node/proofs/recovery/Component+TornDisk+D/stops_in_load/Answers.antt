use Rattle.std.proofs.Common.{◌∙◌, sym, ap, refl, subst, true, false, Some}
use Rattle.ic_base.specs.Programs.{is_a_tcom}
use Rattle.ic_node.specs.Nodes.{disk_in, node_with}
use Rattle.ic_node.specs.Sittings.{AreWritable}
use Rattle.ic_node.specs.Standing.{works, is_settled, is_open, is_begun, com_in}
use Rattle.ic_disk.specs.Torns.{torn}
use Rattle.ic_node.specs.Views.{node_of, com_of}
use Rattle.ic_node.proofs.Cuts.{none_played}
use Rattle.ic_node.proofs.LieDowns.{kept_so, loaded_stands}
use Rattle.ic_node.proofs.Lying.{same_stands, none_stands}
use Rattle.ic_node.proofs.Recoveries.{is_off, crash_down, tail_refused, stays_down}
use Rattle.ic_node.proofs.DeviceCalls.{cut_so, within_all}
use Rattle.ic_node.proofs.recovery.Component+TornDisk+D.stops_in_load.Goals as goal

pub unreachable-requires : goal.unreachable-requires
unreachable-requires g c =
    let off = is_off c.args.self.now.node c.args.self.now.kept c.requires.down in
    c.in_default.not-Off off.0 (c.replace-node.ensures.value ∙ off.1)

pub unreachable-unreachable : goal.unreachable-unreachable
unreachable-unreachable g c = c.unreachable.result

pub cut_load-requires-clause-works : goal.cut_load-requires-clause-works
cut_load-requires-clause-works g c =
    let is = sym c.replace-node.ensures.value ∙ c.in-Off.is in
    ap (works (torn g.D.Disk)) (sym is) ∙ c.args.self.now.working c.requires.going

pub put-requires : goal.put-requires
put-requires g c = record { outside = ap disk_in c.replace-node.ensures.after }

pub refuses-requires : goal.refuses-requires
refuses-requires g c = record { outside = ap disk_in c.replace-node.ensures.after }

pub invariant_of-self-in-Err-1 : goal.invariant_of-self-in-Err-1
invariant_of-self-in-Err-1 g c =
    let out = c.replace-node.ensures.after in
    let s = same_stands (torn g.D.Disk) c.args.self.now.«com».0 _ c.replace-node.new.dest _ out (none_stands (torn g.D.Disk) c.args.self.now.«com».0 _) in
    record {
      opened = λ going. ap is_open out;
      which = λ going. ap (λ n. (com_in c.args.self.now.«com» n).0) out;
      working = λ going. s.working;
      on_disk = λ going. s.on_disk;
      whole = λ going. s.whole;
      owned = λ going. s.owned;
      durable = λ going. s.durable;
      settled = λ going. s.settled;
      begun = λ going. ap (is_begun _) out;
      writable = λ going. subst (λ n. ∥ AreWritable n ∥₁) (sym out) ∣ tt ∣₁;
    }

pub cut_load-requires-clause-settled : goal.cut_load-requires-clause-settled
cut_load-requires-clause-settled g c =
    let is = sym c.replace-node.ensures.value ∙ c.in-Off.is in
    ap (is_settled (torn g.D.Disk)) (sym is) ∙ c.args.self.now.settled c.requires.going

pub invariant_of-self : goal.invariant_of-self
invariant_of-self g c =
    let e = c.in-Ok.ensures {u = tt} in
    let off = c.put.ensures in
    let s = same_stands (torn g.D.Disk) c.args.self.now.«com».0 _ c.put.new.self c.in-Ok.kept off (loaded_stands g.D.Disk c.in-Off.disk _ _ c.in-Ok.disk c.in-Ok.kept e.disk e.step) in
    record {
      opened = λ going. ap is_open off;
      which = λ going. ap (λ n. (com_in c.args.self.now.«com» n).0) off;
      working = λ going. s.working;
      on_disk = λ going. s.on_disk;
      whole = λ going. s.whole;
      owned = λ going. s.owned;
      durable = λ going. s.durable;
      settled = λ going. s.settled;
      begun = λ going. ap (is_begun _) off;
      writable = λ going. subst (λ n. ∥ AreWritable n ∥₁) (sym off) ∣ tt ∣₁;
    }

pub returns-in-Ok-clause-step : goal.returns-in-Ok-clause-step
returns-in-Ok-clause-step g c =
    let is = sym c.replace-node.ensures.value ∙ c.in-Off.is in
    let e = c.in-Ok.ensures {u = tt} in
    stays_down g.D.Disk c.args.self.now c.in-Off.disk is c.requires.going c.args.program.now c.args.stop c.requires.within c.args.fingerprint.now _ c.in-Ok.disk c.put.ensures refl c.requires.going e.step c.just.result c.just.ensures

pub returns-in-Ok-clause-played : goal.returns-in-Ok-clause-played
returns-in-Ok-clause-played g c = none_played (node_of c.args.self.now) _ c.in-Ok.kept (ap (node_with c.in-Ok.kept) c.put.ensures)

pub returns-in-Ok-clause-disk : goal.returns-in-Ok-clause-disk
returns-in-Ok-clause-disk g c =
    let is = sym c.replace-node.ensures.value ∙ c.in-Off.is in
    kept_so (torn g.D.Disk) c.in-Off.disk c.in-Ok.disk _ _ (ap disk_in is) (ap disk_in c.put.ensures) (c.in-Ok.ensures {u = tt}).disk

pub returns-in-Ok-clause-crash : goal.returns-in-Ok-clause-crash
returns-in-Ok-clause-crash g c =
    let is = sym c.replace-node.ensures.value ∙ c.in-Off.is in
    crash_down g.D.Disk c.args.self.now c.in-Off.disk is c.requires.going g.met.D.Disk.keeping_tells _ c.in-Ok.disk _ (ap disk_in c.put.ensures) (c.in-Ok.ensures {u = tt}).crash

pub returns-in-Err-clause-disk : goal.returns-in-Err-clause-disk
returns-in-Err-clause-disk g c =
    let is = sym c.replace-node.ensures.value ∙ c.in-Off.is in
    kept_so (torn g.D.Disk) c.in-Off.disk c.in-Err.refused.disk _ _ (ap disk_in is) (c.refuses.ensures.disk) (c.in-Err.ensures {u = tt}).disk

pub returns-in-Err-clause-crash : goal.returns-in-Err-clause-crash
returns-in-Err-clause-crash g c =
    let is = sym c.replace-node.ensures.value ∙ c.in-Off.is in
    crash_down g.D.Disk c.args.self.now c.in-Off.disk is c.requires.going g.met.D.Disk.keeping_tells _ c.in-Err.refused.disk _ (c.refuses.ensures.disk) (c.in-Err.ensures {u = tt}).crash

pub returns-in-Err-clause-refused : goal.returns-in-Err-clause-refused
returns-in-Err-clause-refused g c =
    let is = sym c.replace-node.ensures.value ∙ c.in-Off.is in
    rw (c.refuses.ensures.why) (tail_refused g.D.Disk c.args.self.now c.in-Off.disk is c.requires.going c.args.program.now c.args.fingerprint.now (Some c.args.stop) c.refuses.new.self c.in-Err.refused.disk c.in-Err.refused.why c.refuses.ensures.disk (c.in-Err.ensures {u = tt}).refused)

pub returns-in-Ok-clause-calls : goal.returns-in-Ok-clause-calls
returns-in-Ok-clause-calls g c =
    let x = c.args.self.now in
    let is = sym c.replace-node.ensures.value ∙ c.in-Off.is in
    let tcom = is_a_tcom c.args.program.now (com_of x) in
    cut_so g.D.Disk c.args.program.now x _ c.in-Off.disk c.in-Ok.disk is (ap disk_in c.put.ensures) (Some c.args.stop) tcom true refl (within_all tcom c.args.stop c.requires.within) (c.in-Ok.ensures {u = tt}).calls

pub returns-in-Err-clause-calls : goal.returns-in-Err-clause-calls
returns-in-Err-clause-calls g c =
    let x = c.args.self.now in
    let is = sym c.replace-node.ensures.value ∙ c.in-Off.is in
    let tcom = is_a_tcom c.args.program.now (com_of x) in
    cut_so g.D.Disk c.args.program.now x c.refuses.new.self c.in-Off.disk c.in-Err.refused.disk is c.refuses.ensures.disk (Some c.args.stop) tcom false refl (within_all tcom c.args.stop c.requires.within) (c.in-Err.ensures {u = tt}).calls
