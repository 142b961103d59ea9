use Rattle.std.proofs.Common.{◌≡◌, ◌∙◌, sym, ap, refl, subst, Some, true, false}
use Rattle.std.specs.Prelude.{is_ok, Ok}
use Rattle.def_log.specs.Images.{LeavesJust}
use Rattle.def_run.specs.CoreSteps.{forced_of}
use Rattle.def_run.specs.Reports.{played_by}
use Rattle.ic_disk.specs.Disk.{Keeps, CrashLeaves}
use Rattle.ic_disk.specs.TornDisks.{Torn}
use Rattle.ic_gate.specs.declared.refusals.LoadRefused.{LoadRefused}
use Rattle.ic_disk.proofs.Disks.{Keeps-trans}
use Rattle.ic_tcom.specs.Recovering.{IsBeforeOrBegun}
use Rattle.ic_tcom.specs.Views as tcoms
use Rattle.ic_node.specs.ComingUp.{IsBeyondLoad}
use Rattle.ic_node.specs.DeviceCalls.{AreMade, is_up}
use Rattle.ic_node.specs.Nodes.{disk_in, node_with, read_of, told_of}
use Rattle.ic_node.specs.Sittings.{AreWritable}
use Rattle.ic_node.specs.Standing.{works, is_settled, is_open, is_begun, com_in, log_in, keeps_of, leave_of, read_or_none}
use Rattle.ic_disk.specs.Torns.{or_never, torn}
use Rattle.ic_node.specs.TcomComing.{TcomIsUp, TcomIsCut, TcomEnds, tcom_disk}
use Rattle.ic_node.specs.Views.{node_of}
use Rattle.ic_node.specs.declared.up.Recovery.{Recovery}
use Rattle.std.proofs.lemmas.Bool.{not_from_false}
use Rattle.ic_node.proofs.Cuts.{none_played, left_twice}
use Rattle.ic_node.proofs.LieDowns.{kept_so, loaded_stands}
use Rattle.ic_node.proofs.LoadCuts.{beyond_is}
use Rattle.ic_node.proofs.Lying.{same_stands, none_stands}
use Rattle.ic_node.proofs.Recoveries.{is_off, owned_now}
use Rattle.ic_node.proofs.Stood.{tcom_stood}
use Rattle.ic_node.proofs.TcomComes.{no_sittings, crash_begun, tcom_up_fails, tcom_recovers, cut_fails, cut_recovers}
use Rattle.ic_node.proofs.DeviceCalls.{up_so, cut_so, cut_made, cut_reached}
use Rattle.ic_node.proofs.recovery.Component+TornDisk+D.tcom_recovers.Goals as goal

pub unreachable-requires : goal.unreachable-requires
unreachable-requires g c =
    let off = is_off c.args.self.now.node c.args.self.now.kept c.requires.down in
    c.in_default.not-Off off.0 (c.replace-node.ensures.value ∙ off.1)

pub unreachable-unreachable : goal.unreachable-unreachable
unreachable-unreachable g c = c.unreachable.result

pub tcom_up-requires-clause-works : goal.tcom_up-requires-clause-works
tcom_up-requires-clause-works g c =
    let is = sym c.replace-node.ensures.value ∙ c.in-Off.is in
    ap (works (torn g.D.Disk)) (sym is) ∙ c.args.self.now.working c.requires.going

pub tcom_up-requires-clause-settled : goal.tcom_up-requires-clause-settled
tcom_up-requires-clause-settled g c =
    let is = sym c.replace-node.ensures.value ∙ c.in-Off.is in
    ap (is_settled (torn g.D.Disk)) (sym is) ∙ c.args.self.now.settled c.requires.going

pub tcom_up-requires-clause-beyond : goal.tcom_up-requires-clause-beyond
tcom_up-requires-clause-beyond g c =
    subst (IsBeyondLoad 3) (sym c.stop_or_never-stop.ensures) (beyond_is 3 c.args.stop c.requires.beyond)

pub put-requires : goal.put-requires
put-requires g c = record { outside = ap disk_in c.replace-node.ensures.after }

pub refuses-requires : goal.refuses-requires
refuses-requires g c = record { outside = ap disk_in c.replace-node.ensures.after }

pub invariant_of-self-in-Err-1 : goal.invariant_of-self-in-Err-1
invariant_of-self-in-Err-1 g c =
    let out = c.replace-node.ensures.after in
    let s = same_stands (torn g.D.Disk) c.args.self.now.«com».0 _ c.replace-node.new.dest _ out (none_stands (torn g.D.Disk) c.args.self.now.«com».0 _) in
    record {
      opened = λ going. ap is_open out;
      which = λ going. ap (λ n. (com_in c.args.self.now.«com» n).0) out;
      working = λ going. s.working;
      on_disk = λ going. s.on_disk;
      whole = λ going. s.whole;
      owned = λ going. s.owned;
      durable = λ going. s.durable;
      settled = λ going. s.settled;
      begun = λ going. ap (is_begun _) out;
      writable = λ going. subst (λ n. ∥ AreWritable n ∥₁) (sym out) ∣ tt ∣₁;
    }

pub invariant_of-self : goal.invariant_of-self
invariant_of-self g c =
    let q = c.in-Ok-Up.tcom in
    let e = c.in-Ok-Up.ensures {u = tt} in
    let up : TcomIsUp g.D.Disk c.args.program.now c.args.self.now.«com» c.in-Off.disk (or_never c.args.stop) q =
    subst (λ s. TcomIsUp g.D.Disk c.args.program.now c.args.self.now.«com» c.in-Off.disk s q) c.stop_or_never-stop.ensures (subst (TcomEnds g.D.Disk c.args.program.now c.args.self.now.«com» c.in-Off.disk c.stop_or_never-stop.result) c.in-Ok-Up.field-0-is e.step) in
    let tra = c.put.ensures in
    record {
      opened = λ going. ap is_open tra ∙ not_from_false (tcoms.is_closed q) up.is_open;
      which = λ going. ap (λ n. (com_in c.args.self.now.«com» n).0) tra ∙ ap (λ k. k.0) up.which;
      working = λ going. ap (works (torn g.D.Disk)) tra ∙ up.works;
      on_disk = λ going. subst (λ n. told_of (torn g.D.Disk) (disk_in n) → read_or_none (log_in (torn g.D.Disk) n) ≡ forced_of (Some (node_with c.new.result n))) (sym tra) (λ told. ap read_or_none (tcom_stood q up.is_open told));
      whole = λ going. subst (λ n. told_of (torn g.D.Disk) (disk_in n) → is_ok (log_in (torn g.D.Disk) n) ≡ true) (sym tra) (λ told. ap is_ok (tcom_stood q up.is_open told));
      owned = λ going. owned_now g.D.Disk c.args.self.now c.in-Off.disk (sym c.replace-node.ensures.value ∙ c.in-Off.is) c.requires.going c.put.new.self (tcoms.disk_of q) (ap disk_in tra) (subst (λ r. Keeps (torn g.D.Disk) c.in-Off.disk (tcom_disk (Ok r))) c.in-Ok-Up.field-0-is e.disk) (λ h. (up.whose h).owner);
      durable = λ going. subst (λ n. keeps_of (torn g.D.Disk) (disk_in n) → LeavesJust (leave_of (torn g.D.Disk) (disk_in n)) (read_of (torn g.D.Disk) (disk_in n))) (sym tra) (λ keeps. q.durable keeps up.is_open);
      settled = λ going. ap (is_settled (torn g.D.Disk)) tra ∙ q.settled up.is_open;
      begun = λ going. ap (is_begun _) tra;
      writable = λ going. subst (λ n. ∥ AreWritable n ∥₁) (sym tra) ∣ no_sittings c.args.program.now c.args.self.now.«com» up.size up.records (tcoms.component_of q) up.step ∣₁;
    }

pub returns-in-Ok-Up-clause-step : goal.returns-in-Ok-Up-clause-step
returns-in-Ok-Up-clause-step g c =
    let is = sym c.replace-node.ensures.value ∙ c.in-Off.is in
    let q = c.in-Ok-Up.tcom in
    let e = c.in-Ok-Up.ensures {u = tt} in
    let up : TcomIsUp g.D.Disk c.args.program.now c.args.self.now.«com» c.in-Off.disk (or_never c.args.stop) q =
    subst (λ s. TcomIsUp g.D.Disk c.args.program.now c.args.self.now.«com» c.in-Off.disk s q) c.stop_or_never-stop.ensures (subst (TcomEnds g.D.Disk c.args.program.now c.args.self.now.«com» c.in-Off.disk c.stop_or_never-stop.result) c.in-Ok-Up.field-0-is e.step) in
    tcom_recovers g.D.Disk c.args.program.now c.args.self.now c.in-Off.disk is c.requires.going c.requires.tcom c.args.stop c.requires.stop c.requires.beyond q up _ c.just.result c.put.ensures refl c.requires.going c.just.ensures

pub returns-in-Ok-Up-clause-disk : goal.returns-in-Ok-Up-clause-disk
returns-in-Ok-Up-clause-disk g c =
    let is = sym c.replace-node.ensures.value ∙ c.in-Off.is in
    let q = c.in-Ok-Up.tcom in
    let e = c.in-Ok-Up.ensures {u = tt} in
    let up : TcomIsUp g.D.Disk c.args.program.now c.args.self.now.«com» c.in-Off.disk (or_never c.args.stop) q =
    subst (λ s. TcomIsUp g.D.Disk c.args.program.now c.args.self.now.«com» c.in-Off.disk s q) c.stop_or_never-stop.ensures (subst (TcomEnds g.D.Disk c.args.program.now c.args.self.now.«com» c.in-Off.disk c.stop_or_never-stop.result) c.in-Ok-Up.field-0-is e.step) in
    kept_so (torn g.D.Disk) c.in-Off.disk (tcoms.disk_of q) _ _ (ap disk_in is) (ap disk_in c.put.ensures) (subst (λ r. Keeps (torn g.D.Disk) c.in-Off.disk (tcom_disk (Ok r))) c.in-Ok-Up.field-0-is e.disk)

pub returns-in-Ok-Up-clause-crash : goal.returns-in-Ok-Up-clause-crash
returns-in-Ok-Up-clause-crash g c =
    let is = sym c.replace-node.ensures.value ∙ c.in-Off.is in
    let q = c.in-Ok-Up.tcom in
    let e = c.in-Ok-Up.ensures {u = tt} in
    let up : TcomIsUp g.D.Disk c.args.program.now c.args.self.now.«com» c.in-Off.disk (or_never c.args.stop) q =
    subst (λ s. TcomIsUp g.D.Disk c.args.program.now c.args.self.now.«com» c.in-Off.disk s q) c.stop_or_never-stop.ensures (subst (TcomEnds g.D.Disk c.args.program.now c.args.self.now.«com» c.in-Off.disk c.stop_or_never-stop.result) c.in-Ok-Up.field-0-is e.step) in
    crash_begun g.D.Disk c.args.program.now c.args.self.now c.in-Off.disk is c.requires.going c.requires.tcom g.met.D.Disk.keeping_tells (tcoms.disk_of q) _ (ap disk_in c.put.ensures)
    (subst (λ r. CrashLeaves (torn g.D.Disk) c.in-Off.disk (tcom_disk (Ok r)) (IsBeforeOrBegun (torn g.D.Disk) c.args.program.now c.args.self.now.«com» c.in-Off.disk)) c.in-Ok-Up.field-0-is e.crash)

pub returns-in-Ok-Up-clause-played : goal.returns-in-Ok-Up-clause-played
returns-in-Ok-Up-clause-played g c = ap (λ n. played_by (node_of c.args.self.now) (node_with c.new.result n)) c.put.ensures

pub reloaded-requires : goal.reloaded-requires
reloaded-requires g c =
    let y = c.in-Ok-Cut.disk in
    let e = c.in-Ok-Cut.ensures {u = tt} in
    let cut : TcomIsCut g.D.Disk c.args.program.now c.args.self.now.«com» c.in-Off.disk (or_never c.args.stop) y =
    subst (λ s. TcomIsCut g.D.Disk c.args.program.now c.args.self.now.«com» c.in-Off.disk s y) c.stop_or_never-stop.ensures (subst (TcomEnds g.D.Disk c.args.program.now c.args.self.now.«com» c.in-Off.disk c.stop_or_never-stop.result) c.in-Ok-Cut.field-0-is e.step) in
    record { halted = cut.halted }

pub invariant_of-self-in-Ok : goal.invariant_of-self-in-Ok
invariant_of-self-in-Ok g c =
    let l = c.in-Ok.ensures {u = tt} in
    let off = c.put-in-Ok.ensures in
    let s = same_stands (torn g.D.Disk) c.args.self.now.«com».0 _ c.put-in-Ok.new.self c.in-Ok.kept off (loaded_stands g.D.Disk c.in-Ok-Cut.disk _ _ c.in-Ok.disk c.in-Ok.kept l.disk l.step) in
    record {
      opened = λ going. ap is_open off;
      which = λ going. ap (λ n. (com_in c.args.self.now.«com» n).0) off;
      working = λ going. s.working;
      on_disk = λ going. s.on_disk;
      whole = λ going. s.whole;
      owned = λ going. s.owned;
      durable = λ going. s.durable;
      settled = λ going. s.settled;
      begun = λ going. ap (is_begun _) off;
      writable = λ going. subst (λ n. ∥ AreWritable n ∥₁) (sym off) ∣ tt ∣₁;
    }

pub returns-in-Ok-clause-step : goal.returns-in-Ok-clause-step
returns-in-Ok-clause-step g c =
    let is = sym c.replace-node.ensures.value ∙ c.in-Off.is in
    let y = c.in-Ok-Cut.disk in
    let e = c.in-Ok-Cut.ensures {u = tt} in
    let cut : TcomIsCut g.D.Disk c.args.program.now c.args.self.now.«com» c.in-Off.disk (or_never c.args.stop) y =
    subst (λ s. TcomIsCut g.D.Disk c.args.program.now c.args.self.now.«com» c.in-Off.disk s y) c.stop_or_never-stop.ensures (subst (TcomEnds g.D.Disk c.args.program.now c.args.self.now.«com» c.in-Off.disk c.stop_or_never-stop.result) c.in-Ok-Cut.field-0-is e.step) in
    let kept = subst (λ r. Keeps (torn g.D.Disk) c.in-Off.disk (tcom_disk (Ok r))) c.in-Ok-Cut.field-0-is e.disk in
    let l = c.in-Ok.ensures {u = tt} in
    cut_recovers g.D.Disk c.args.program.now c.args.self.now c.in-Off.disk is c.requires.going c.requires.tcom c.args.stop c.requires.stop c.requires.beyond y kept cut c.args.fingerprint.now _ c.in-Ok.disk c.put-in-Ok.ensures l.step c.just-in-Ok.result refl c.requires.going c.just-in-Ok.ensures

pub returns-in-Ok-clause-disk : goal.returns-in-Ok-clause-disk
returns-in-Ok-clause-disk g c =
    let is = sym c.replace-node.ensures.value ∙ c.in-Off.is in
    let y = c.in-Ok-Cut.disk in
    let e = c.in-Ok-Cut.ensures {u = tt} in
    let cut : TcomIsCut g.D.Disk c.args.program.now c.args.self.now.«com» c.in-Off.disk (or_never c.args.stop) y =
    subst (λ s. TcomIsCut g.D.Disk c.args.program.now c.args.self.now.«com» c.in-Off.disk s y) c.stop_or_never-stop.ensures (subst (TcomEnds g.D.Disk c.args.program.now c.args.self.now.«com» c.in-Off.disk c.stop_or_never-stop.result) c.in-Ok-Cut.field-0-is e.step) in
    let kept = subst (λ r. Keeps (torn g.D.Disk) c.in-Off.disk (tcom_disk (Ok r))) c.in-Ok-Cut.field-0-is e.disk in
    kept_so (torn g.D.Disk) c.in-Off.disk c.in-Ok.disk _ _ (ap disk_in is) (ap disk_in c.put-in-Ok.ensures) (Keeps-trans kept (c.in-Ok.ensures {u = tt}).disk)

pub returns-in-Ok-clause-crash : goal.returns-in-Ok-clause-crash
returns-in-Ok-clause-crash g c =
    let is = sym c.replace-node.ensures.value ∙ c.in-Off.is in
    let y = c.in-Ok-Cut.disk in
    let e = c.in-Ok-Cut.ensures {u = tt} in
    let cut : TcomIsCut g.D.Disk c.args.program.now c.args.self.now.«com» c.in-Off.disk (or_never c.args.stop) y =
    subst (λ s. TcomIsCut g.D.Disk c.args.program.now c.args.self.now.«com» c.in-Off.disk s y) c.stop_or_never-stop.ensures (subst (TcomEnds g.D.Disk c.args.program.now c.args.self.now.«com» c.in-Off.disk c.stop_or_never-stop.result) c.in-Ok-Cut.field-0-is e.step) in
    let kept = subst (λ r. Keeps (torn g.D.Disk) c.in-Off.disk (tcom_disk (Ok r))) c.in-Ok-Cut.field-0-is e.disk in
    let left = subst (λ r. CrashLeaves (torn g.D.Disk) c.in-Off.disk (tcom_disk (Ok r)) (IsBeforeOrBegun (torn g.D.Disk) c.args.program.now c.args.self.now.«com» c.in-Off.disk)) c.in-Ok-Cut.field-0-is e.crash in
    crash_begun g.D.Disk c.args.program.now c.args.self.now c.in-Off.disk is c.requires.going c.requires.tcom g.met.D.Disk.keeping_tells c.in-Ok.disk _ (ap disk_in c.put-in-Ok.ensures)
    (left_twice (torn g.D.Disk) (Some c.in-Off.disk) (Some y) (Some c.in-Ok.disk) _ kept left (c.in-Ok.ensures {u = tt}).crash)

pub returns-in-Ok-clause-played : goal.returns-in-Ok-clause-played
returns-in-Ok-clause-played g c = none_played (node_of c.args.self.now) _ c.in-Ok.kept (ap (node_with c.in-Ok.kept) c.put-in-Ok.ensures)

pub returns-in-Err-reloaded-clause-disk : goal.returns-in-Err-reloaded-clause-disk
returns-in-Err-reloaded-clause-disk g c =
    let is = sym c.replace-node.ensures.value ∙ c.in-Off.is in
    let y = c.in-Ok-Cut.disk in
    let e = c.in-Ok-Cut.ensures {u = tt} in
    let cut : TcomIsCut g.D.Disk c.args.program.now c.args.self.now.«com» c.in-Off.disk (or_never c.args.stop) y =
    subst (λ s. TcomIsCut g.D.Disk c.args.program.now c.args.self.now.«com» c.in-Off.disk s y) c.stop_or_never-stop.ensures (subst (TcomEnds g.D.Disk c.args.program.now c.args.self.now.«com» c.in-Off.disk c.stop_or_never-stop.result) c.in-Ok-Cut.field-0-is e.step) in
    let kept = subst (λ r. Keeps (torn g.D.Disk) c.in-Off.disk (tcom_disk (Ok r))) c.in-Ok-Cut.field-0-is e.disk in
    kept_so (torn g.D.Disk) c.in-Off.disk c.in-Err-reloaded.refused.disk _ _ (ap disk_in is) c.refuses.ensures.disk (Keeps-trans kept (c.in-Err-reloaded.ensures {u = tt}).disk)

pub returns-in-Err-reloaded-clause-crash : goal.returns-in-Err-reloaded-clause-crash
returns-in-Err-reloaded-clause-crash g c =
    let is = sym c.replace-node.ensures.value ∙ c.in-Off.is in
    let y = c.in-Ok-Cut.disk in
    let e = c.in-Ok-Cut.ensures {u = tt} in
    let cut : TcomIsCut g.D.Disk c.args.program.now c.args.self.now.«com» c.in-Off.disk (or_never c.args.stop) y =
    subst (λ s. TcomIsCut g.D.Disk c.args.program.now c.args.self.now.«com» c.in-Off.disk s y) c.stop_or_never-stop.ensures (subst (TcomEnds g.D.Disk c.args.program.now c.args.self.now.«com» c.in-Off.disk c.stop_or_never-stop.result) c.in-Ok-Cut.field-0-is e.step) in
    let kept = subst (λ r. Keeps (torn g.D.Disk) c.in-Off.disk (tcom_disk (Ok r))) c.in-Ok-Cut.field-0-is e.disk in
    let left = subst (λ r. CrashLeaves (torn g.D.Disk) c.in-Off.disk (tcom_disk (Ok r)) (IsBeforeOrBegun (torn g.D.Disk) c.args.program.now c.args.self.now.«com» c.in-Off.disk)) c.in-Ok-Cut.field-0-is e.crash in
    crash_begun g.D.Disk c.args.program.now c.args.self.now c.in-Off.disk is c.requires.going c.requires.tcom g.met.D.Disk.keeping_tells c.in-Err-reloaded.refused.disk _ c.refuses.ensures.disk
    (left_twice (torn g.D.Disk) (Some c.in-Off.disk) (Some y) (Some c.in-Err-reloaded.refused.disk) _ kept left (c.in-Err-reloaded.ensures {u = tt}).crash)

pub returns-in-Err-reloaded-clause-refused : goal.returns-in-Err-reloaded-clause-refused
returns-in-Err-reloaded-clause-refused g c =
    let is = sym c.replace-node.ensures.value ∙ c.in-Off.is in
    let y = c.in-Ok-Cut.disk in
    let e = c.in-Ok-Cut.ensures {u = tt} in
    let cut : TcomIsCut g.D.Disk c.args.program.now c.args.self.now.«com» c.in-Off.disk (or_never c.args.stop) y =
    subst (λ s. TcomIsCut g.D.Disk c.args.program.now c.args.self.now.«com» c.in-Off.disk s y) c.stop_or_never-stop.ensures (subst (TcomEnds g.D.Disk c.args.program.now c.args.self.now.«com» c.in-Off.disk c.stop_or_never-stop.result) c.in-Ok-Cut.field-0-is e.step) in
    let kept = subst (λ r. Keeps (torn g.D.Disk) c.in-Off.disk (tcom_disk (Ok r))) c.in-Ok-Cut.field-0-is e.disk in
    rw (c.refuses.ensures.why) (cut_fails g.D.Disk c.args.program.now c.args.self.now c.in-Off.disk is c.requires.going c.requires.tcom c.args.stop c.requires.stop c.requires.beyond y kept cut c.args.fingerprint.now c.refuses.new.self c.in-Err-reloaded.refused.disk c.in-Err-reloaded.refused.why c.refuses.ensures.disk (c.in-Err-reloaded.ensures {u = tt}).refused)

pub returns-in-Err-clause-disk : goal.returns-in-Err-clause-disk
returns-in-Err-clause-disk g c =
    let is = sym c.replace-node.ensures.value ∙ c.in-Off.is in
    let e = c.in-Err.ensures {u = tt} in
    kept_so (torn g.D.Disk) c.in-Off.disk c.in-Err.refused.disk _ _ (ap disk_in is) c.refuses-in-Err.ensures.disk e.disk

pub returns-in-Err-clause-crash : goal.returns-in-Err-clause-crash
returns-in-Err-clause-crash g c =
    let is = sym c.replace-node.ensures.value ∙ c.in-Off.is in
    let e = c.in-Err.ensures {u = tt} in
    crash_begun g.D.Disk c.args.program.now c.args.self.now c.in-Off.disk is c.requires.going c.requires.tcom g.met.D.Disk.keeping_tells c.in-Err.refused.disk _ c.refuses-in-Err.ensures.disk e.crash

pub returns-in-Err-clause-refused : goal.returns-in-Err-clause-refused
returns-in-Err-clause-refused g c =
    let is = sym c.replace-node.ensures.value ∙ c.in-Off.is in
    let e = c.in-Err.ensures {u = tt} in
    rw (c.refuses-in-Err.ensures.why) (tcom_up_fails g.D.Disk c.args.program.now c.args.self.now c.in-Off.disk is c.requires.going c.requires.tcom c.args.stop c.requires.stop c.requires.beyond c.args.fingerprint.now c.refuses-in-Err.new.self c.in-Err.refused.disk c.in-Err.refused.why c.refuses-in-Err.ensures.disk e.refused)

pub returns-in-Ok-Up-clause-calls : goal.returns-in-Ok-Up-clause-calls
returns-in-Ok-Up-clause-calls g c =
    let is = sym c.replace-node.ensures.value ∙ c.in-Off.is in
    let e = c.in-Ok-Up.ensures {u = tt} in
    let made : AreMade c.stop_or_never-stop.result 7 true c.in-Off.disk.made (tcoms.disk_of c.in-Ok-Up.tcom).made = subst (λ (r : Recovery (Torn g.row.D.Denot) (torn g.D.Disk)). AreMade c.stop_or_never-stop.result 7 (is_up {R = LoadRefused (Torn g.row.D.Denot)} (Ok r)) c.in-Off.disk.made (tcom_disk (Ok r)).made) c.in-Ok-Up.field-0-is e.calls in
    up_so g.D.Disk c.args.program.now c.args.self.now _ c.in-Off.disk (tcoms.disk_of c.in-Ok-Up.tcom) is (ap disk_in c.put.ensures) c.args.stop c.stop_or_never-stop.ensures c.requires.stop true true true c.requires.tcom (λ ok. ok) made

pub returns-in-Ok-clause-calls : goal.returns-in-Ok-clause-calls
returns-in-Ok-clause-calls g c =
    let is = sym c.replace-node.ensures.value ∙ c.in-Off.is in
    let y = c.in-Ok-Cut.disk in
    let e = c.in-Ok-Cut.ensures {u = tt} in
    let cut : TcomIsCut g.D.Disk c.args.program.now c.args.self.now.«com» c.in-Off.disk (or_never c.args.stop) y =
    subst (λ s. TcomIsCut g.D.Disk c.args.program.now c.args.self.now.«com» c.in-Off.disk s y) c.stop_or_never-stop.ensures (subst (TcomEnds g.D.Disk c.args.program.now c.args.self.now.«com» c.in-Off.disk c.stop_or_never-stop.result) c.in-Ok-Cut.field-0-is e.step) in
    let made : AreMade c.stop_or_never-stop.result 7 false c.in-Off.disk.made y.made = subst (λ (r : Recovery (Torn g.row.D.Denot) (torn g.D.Disk)). AreMade c.stop_or_never-stop.result 7 (is_up {R = LoadRefused (Torn g.row.D.Denot)} (Ok r)) c.in-Off.disk.made (tcom_disk (Ok r)).made) c.in-Ok-Cut.field-0-is e.calls in
    cut_so g.D.Disk c.args.program.now c.args.self.now _ c.in-Off.disk c.in-Ok.disk is (ap disk_in c.put-in-Ok.ensures) c.args.stop true true c.requires.tcom (cut_reached c.args.stop cut.later cut.within)
    (cut_made c.args.stop 7 c.in-Off.disk.made y.made c.in-Ok.disk.made c.stop_or_never-stop.ensures cut.later made (c.in-Ok.ensures {u = tt}).calls)

pub returns-in-Err-reloaded-clause-calls : goal.returns-in-Err-reloaded-clause-calls
returns-in-Err-reloaded-clause-calls g c =
    let is = sym c.replace-node.ensures.value ∙ c.in-Off.is in
    let y = c.in-Ok-Cut.disk in
    let e = c.in-Ok-Cut.ensures {u = tt} in
    let cut : TcomIsCut g.D.Disk c.args.program.now c.args.self.now.«com» c.in-Off.disk (or_never c.args.stop) y =
    subst (λ s. TcomIsCut g.D.Disk c.args.program.now c.args.self.now.«com» c.in-Off.disk s y) c.stop_or_never-stop.ensures (subst (TcomEnds g.D.Disk c.args.program.now c.args.self.now.«com» c.in-Off.disk c.stop_or_never-stop.result) c.in-Ok-Cut.field-0-is e.step) in
    let made : AreMade c.stop_or_never-stop.result 7 false c.in-Off.disk.made y.made = subst (λ (r : Recovery (Torn g.row.D.Denot) (torn g.D.Disk)). AreMade c.stop_or_never-stop.result 7 (is_up {R = LoadRefused (Torn g.row.D.Denot)} (Ok r)) c.in-Off.disk.made (tcom_disk (Ok r)).made) c.in-Ok-Cut.field-0-is e.calls in
    cut_so g.D.Disk c.args.program.now c.args.self.now c.refuses.new.self c.in-Off.disk c.in-Err-reloaded.refused.disk is c.refuses.ensures.disk c.args.stop true false c.requires.tcom (cut_reached c.args.stop cut.later cut.within)
    (cut_made c.args.stop 7 c.in-Off.disk.made y.made c.in-Err-reloaded.refused.disk.made c.stop_or_never-stop.ensures cut.later made (c.in-Err-reloaded.ensures {u = tt}).calls)

pub returns-in-Err-clause-calls : goal.returns-in-Err-clause-calls
returns-in-Err-clause-calls g c =
    let is = sym c.replace-node.ensures.value ∙ c.in-Off.is in
    up_so g.D.Disk c.args.program.now c.args.self.now c.refuses-in-Err.new.self c.in-Off.disk c.in-Err.refused.disk is c.refuses-in-Err.ensures.disk c.args.stop c.stop_or_never-stop.ensures c.requires.stop true false false c.requires.tcom (λ ok. ok) (c.in-Err.ensures {u = tt}).calls
