use Rattle.std.proofs.Common.{◌≡◌, ◌∙◌, sym, ap, refl, subst, Some, true, false, ◌+◌}
use Rattle.std.specs.Prelude.{is_ok, not, Ok, ◌++◌, ◌||◌}
use Rattle.def_step.specs.Room.{is_empty}
use Rattle.def_step.specs.Replay.{has_image}
use Rattle.ic_pcom.specs.Views as pcoms
use Rattle.def_log.specs.Frame.{owner_in}
use Rattle.def_log.specs.Images.{LeavesJust}
use Rattle.def_run.specs.CoreSteps.{forced_of}
use Rattle.ic_node.specs.Nodes.{disk_in, node_with, read_of, told_of}
use Rattle.ic_node.specs.Sittings.{AreWritable}
use Rattle.ic_node.specs.Standing.{works, is_settled, is_open, is_begun, com_in, log_in, keeps_of, leave_of, read_or_none}
use Rattle.ic_disk.specs.Torns.{torn}
use Rattle.std.proofs.lemmas.Bool.{not_from_false}
use Rattle.ic_node.proofs.LieDowns.{kept_so}
use Rattle.ic_node.proofs.Lying.{same_stands, none_stands}
use Rattle.ic_node.proofs.Tails.{kept_begun}
use Rattle.ic_node.proofs.Recoveries.{is_off, owned_now, crash_down}
use Rattle.ic_node.specs.ComingUp.{IsBeyondLoad, kept_before}
use Rattle.ic_node.proofs.LoadCuts.{beyond_is}
use Rattle.ic_node.proofs.PcomComes.{before, counted_other, counted_so, count_kept, forced_is, goes_same, kept_so_far, none_waits, pcom_recovers, pcom_up_fails, up_played, up_stands}
use Rattle.ic_node.proofs.DeviceCalls.{up_so}
use Rattle.ic_node.proofs.recovery.Component+TornDisk+D.pcom_recovers.Goals as goal

pub unreachable-requires : goal.unreachable-requires
unreachable-requires g c =
    let off = is_off c.args.self.now.node c.args.self.now.kept c.requires.down in
    c.in_default.not-Off off.0 (c.replace-node.ensures.value ∙ off.1)

pub unreachable-unreachable : goal.unreachable-unreachable
unreachable-unreachable g c = c.unreachable.result

pub pcom_up-requires-clause-works : goal.pcom_up-requires-clause-works
pcom_up-requires-clause-works g c =
    let is = sym c.replace-node.ensures.value ∙ c.in-Off.is in
    ap (works (torn g.D.Disk)) (sym is) ∙ c.args.self.now.working c.requires.going

pub put-requires : goal.put-requires
put-requires g c = record { outside = ap disk_in c.replace-node.ensures.after }

pub refuses-requires : goal.refuses-requires
refuses-requires g c = record { outside = ap disk_in c.replace-node.ensures.after }

pub invariant_of-self-in-Err-1 : goal.invariant_of-self-in-Err-1
invariant_of-self-in-Err-1 g c =
    let out = c.replace-node.ensures.after in
    let s = same_stands (torn g.D.Disk) c.args.self.now.«com».0 _ c.replace-node.new.dest _ out (none_stands (torn g.D.Disk) c.args.self.now.«com».0 _) in
    record {
      opened = λ going. ap is_open out;
      which = λ going. ap (λ n. (com_in c.args.self.now.«com» n).0) out;
      working = λ going. s.working;
      on_disk = λ going. s.on_disk;
      whole = λ going. s.whole;
      owned = λ going. s.owned;
      durable = λ going. s.durable;
      settled = λ going. s.settled;
      begun = λ going. ap (is_begun _) out;
      writable = λ going. subst (λ n. ∥ AreWritable n ∥₁) (sym out) ∣ tt ∣₁;
    }

pub pcom_up-requires-clause-beyond : goal.pcom_up-requires-clause-beyond
pcom_up-requires-clause-beyond g c =
    subst (IsBeyondLoad 4) (sym c.stop_or_never-stop.ensures) (beyond_is 4 c.args.stop c.requires.beyond)

pub before_own-requires : goal.before_own-requires
before_own-requires g c =
    let is = sym c.replace-node.ensures.value ∙ c.in-Off.is in
    let e = c.in-Ok.ensures {u = tt} in
    record { forced = none_waits g.D.Disk c.args.program.now c.args.self.now c.in-Off.disk is c.requires.going c.args.stop c.requires.beyond c.requires.pcom c.in-Ok.pcom c.in-Ok.told e.step }

pub invariant_of-self : goal.invariant_of-self
invariant_of-self g c =
    let q = c.in-Ok.pcom in
    let is = sym c.replace-node.ensures.value ∙ c.in-Off.is in
    let e = c.in-Ok.ensures {u = tt} in
    let up = e.step in
    let per = c.put.ensures in
    let kept : not c.reads_same-same.result ≡ false → c.before_own.result ≡ before g.D.Disk c.args.program.now c.args.self.now c.in-Off.disk is c.requires.going c.args.stop c.requires.beyond c.requires.pcom c.in-Ok.pcom c.in-Ok.told e.step = λ going. kept_so_far g.D.Disk c.args.program.now c.args.self.now c.in-Off.disk is c.requires.going c.args.stop c.requires.beyond c.requires.pcom c.in-Ok.pcom c.in-Ok.told e.step c.replace-kept.result c.through_last-through.result.1 c.reads_same-same.result c.replace-kept.ensures.value c.through_last-through.ensures.behind c.reads_same-same.ensures c.before_own.result c.through_last-through.result.0 c.through_last-through.ensures.through c.before_own.ensures (goes_same c.reads_same-same.result going) in
    record {
      opened = λ going. ap is_open per ∙ not_from_false (pcoms.is_closed q) up.is_open;
      which = λ going. ap (λ n. (com_in c.args.self.now.«com» n).0) per ∙ ap (λ k. k.0) up.which;
      working = λ going. ap (works (torn g.D.Disk)) per ∙ up.works;
      on_disk = λ going. subst (λ n. told_of (torn g.D.Disk) (disk_in n) → read_or_none (log_in (torn g.D.Disk) n) ≡ forced_of (Some (node_with c.before_own.result n))) (sym per) (λ told. ap read_or_none (up_stands g.D.Disk c.args.program.now c.args.self.now c.in-Off.disk is c.requires.going c.args.stop c.requires.beyond c.requires.pcom c.in-Ok.pcom c.in-Ok.told e.step e.disk told ∙ ap (λ ks. Ok (ks ++ (pcoms.component_of q).log.forced)) (sym (kept going))));
      whole = λ going. subst (λ n. told_of (torn g.D.Disk) (disk_in n) → is_ok (log_in (torn g.D.Disk) n) ≡ true) (sym per) (λ told. ap is_ok (up_stands g.D.Disk c.args.program.now c.args.self.now c.in-Off.disk is c.requires.going c.args.stop c.requires.beyond c.requires.pcom c.in-Ok.pcom c.in-Ok.told e.step e.disk told ∙ ap (λ ks. Ok (ks ++ (pcoms.component_of q).log.forced)) (sym (kept going))));
      owned = λ going. owned_now g.D.Disk c.args.self.now c.in-Off.disk is c.requires.going c.put.new.self (pcoms.disk_of q) (ap disk_in per) e.disk (λ h. ap owner_in (up.bytes h));
      durable = λ going. subst (λ n. keeps_of (torn g.D.Disk) (disk_in n) → LeavesJust (leave_of (torn g.D.Disk) (disk_in n)) (read_of (torn g.D.Disk) (disk_in n))) (sym per) (λ keeps. q.durable keeps up.is_open);
      settled = λ going. ap (is_settled (torn g.D.Disk)) per ∙ q.settled up.is_open;
      begun = λ going. ap (is_begun c.before_own.result) per ∙ ap (λ ks. is_empty ks || has_image (pcoms.component_of q).log.forced) (kept going ∙ sym (ap (kept_before c.args.self.now.kept) (forced_is g.D.Disk c.args.program.now c.args.self.now c.in-Off.disk is c.requires.going c.args.stop c.requires.beyond c.requires.pcom c.in-Ok.pcom c.in-Ok.told e.step))) ∙ kept_begun c.args.self.now.kept (pcoms.component_of q).log.forced;
      writable = λ going. subst (λ n. ∥ AreWritable n ∥₁) (sym per) ∣ tt ∣₁;
    }

pub returns-then-same-clause-step : goal.returns-then-same-clause-step
returns-then-same-clause-step g c =
    let is = sym c.replace-node.ensures.value ∙ c.in-Off.is in
    let e = c.in-Ok.ensures {u = tt} in
    pcom_recovers g.D.Disk c.args.program.now c.args.self.now c.in-Off.disk is c.requires.going c.args.stop c.requires.beyond c.requires.pcom c.in-Ok.pcom c.in-Ok.told e.step _ c.done_up-done.result _ c.put.ensures (kept_so_far g.D.Disk c.args.program.now c.args.self.now c.in-Off.disk is c.requires.going c.args.stop c.requires.beyond c.requires.pcom c.in-Ok.pcom c.in-Ok.told e.step c.replace-kept.result c.through_last-through.result.1 c.reads_same-same.result c.replace-kept.ensures.value c.through_last-through.ensures.behind c.reads_same-same.ensures c.before_own.result c.through_last-through.result.0 c.through_last-through.ensures.through c.before_own.ensures c.if-same.true) refl (ap not c.if-same.true) (counted_so g.D.Disk c.args.program.now c.args.self.now c.in-Off.disk is c.requires.going c.args.stop c.requires.beyond c.requires.pcom c.in-Ok.pcom c.in-Ok.told e.step c.replace-kept.result c.through_last-through.result.1 c.reads_same-same.result c.replace-kept.ensures.value c.through_last-through.ensures.behind c.reads_same-same.ensures c.if-same.true) refl c.done_up-done.ensures

pub returns-then-same-clause-played : goal.returns-then-same-clause-played
returns-then-same-clause-played g c =
    let is = sym c.replace-node.ensures.value ∙ c.in-Off.is in
    let e = c.in-Ok.ensures {u = tt} in
    e.steps ∙ ap (λ n. c.args.steps.now + n) (up_played g.D.Disk c.args.program.now c.args.self.now c.in-Off.disk is c.requires.going c.args.stop c.requires.beyond c.requires.pcom c.in-Ok.pcom c.in-Ok.told e.step c.before_own.result c.put.new.self c.put.ensures (counted_so g.D.Disk c.args.program.now c.args.self.now c.in-Off.disk is c.requires.going c.args.stop c.requires.beyond c.requires.pcom c.in-Ok.pcom c.in-Ok.told e.step c.replace-kept.result c.through_last-through.result.1 c.reads_same-same.result c.replace-kept.ensures.value c.through_last-through.ensures.behind c.reads_same-same.ensures c.if-same.true))

pub returns-then-same-clause-disk : goal.returns-then-same-clause-disk
returns-then-same-clause-disk g c =
    let is = sym c.replace-node.ensures.value ∙ c.in-Off.is in
    let e = c.in-Ok.ensures {u = tt} in
    kept_so (torn g.D.Disk) c.in-Off.disk (pcoms.disk_of c.in-Ok.pcom) _ _ (ap disk_in is) (ap disk_in c.put.ensures) e.disk

pub returns-then-same-clause-crash : goal.returns-then-same-clause-crash
returns-then-same-clause-crash g c =
    let is = sym c.replace-node.ensures.value ∙ c.in-Off.is in
    let e = c.in-Ok.ensures {u = tt} in
    crash_down g.D.Disk c.args.self.now c.in-Off.disk is c.requires.going g.met.D.Disk.keeping_tells _ (pcoms.disk_of c.in-Ok.pcom) _ (ap disk_in c.put.ensures) e.crash

pub returns-else-same-clause-disk : goal.returns-else-same-clause-disk
returns-else-same-clause-disk g c =
    let is = sym c.replace-node.ensures.value ∙ c.in-Off.is in
    let e = c.in-Ok.ensures {u = tt} in
    kept_so (torn g.D.Disk) c.in-Off.disk (pcoms.disk_of c.in-Ok.pcom) _ _ (ap disk_in is) (ap disk_in c.put.ensures) e.disk

pub returns-else-same-clause-crash : goal.returns-else-same-clause-crash
returns-else-same-clause-crash g c =
    let is = sym c.replace-node.ensures.value ∙ c.in-Off.is in
    let e = c.in-Ok.ensures {u = tt} in
    crash_down g.D.Disk c.args.self.now c.in-Off.disk is c.requires.going g.met.D.Disk.keeping_tells _ (pcoms.disk_of c.in-Ok.pcom) _ (ap disk_in c.put.ensures) e.crash

pub returns-else-same-clause-refused : goal.returns-else-same-clause-refused
returns-else-same-clause-refused g c =
    let is = sym c.replace-node.ensures.value ∙ c.in-Off.is in
    let e = c.in-Ok.ensures {u = tt} in
    λ told. absurd (counted_other g.D.Disk c.args.program.now c.args.self.now c.in-Off.disk is c.requires.going c.args.stop c.requires.beyond c.requires.pcom c.in-Ok.pcom c.in-Ok.told e.step c.replace-kept.result c.through_last-through.result.1 c.reads_same-same.result c.replace-kept.ensures.value c.through_last-through.ensures.behind c.reads_same-same.ensures c.if-same.false (count_kept g.D.Disk c.args.program.now c.args.self.now c.in-Off.disk is c.requires.going c.args.stop c.requires.beyond c.requires.pcom c.in-Ok.pcom c.in-Ok.told e.step told))

pub returns-in-Err-clause-disk : goal.returns-in-Err-clause-disk
returns-in-Err-clause-disk g c =
    let is = sym c.replace-node.ensures.value ∙ c.in-Off.is in
    let e = c.in-Err.ensures {u = tt} in
    kept_so (torn g.D.Disk) c.in-Off.disk c.in-Err.refused.disk _ _ (ap disk_in is) c.refuses.ensures.disk e.disk

pub returns-in-Err-clause-crash : goal.returns-in-Err-clause-crash
returns-in-Err-clause-crash g c =
    let is = sym c.replace-node.ensures.value ∙ c.in-Off.is in
    let e = c.in-Err.ensures {u = tt} in
    crash_down g.D.Disk c.args.self.now c.in-Off.disk is c.requires.going g.met.D.Disk.keeping_tells _ c.in-Err.refused.disk _ c.refuses.ensures.disk e.crash

pub returns-in-Err-clause-refused : goal.returns-in-Err-clause-refused
returns-in-Err-clause-refused g c =
    let is = sym c.replace-node.ensures.value ∙ c.in-Off.is in
    let e = c.in-Err.ensures {u = tt} in
    rw (c.refuses.ensures.why) (pcom_up_fails g.D.Disk c.args.program.now c.args.self.now c.in-Off.disk is c.requires.going c.args.stop c.requires.beyond c.requires.pcom c.args.fingerprint.now c.refuses.new.self c.in-Err.refused.disk c.in-Err.refused.why c.refuses.ensures.disk e.refused)

pub returns-then-same-clause-calls : goal.returns-then-same-clause-calls
returns-then-same-clause-calls g c =
    let is = sym c.replace-node.ensures.value ∙ c.in-Off.is in
    up_so g.D.Disk c.args.program.now c.args.self.now _ c.in-Off.disk (pcoms.disk_of c.in-Ok.pcom) is (ap disk_in c.put.ensures) c.args.stop c.stop_or_never-stop.ensures c.requires.stop false true true c.requires.pcom (λ ok. ok) (c.in-Ok.ensures {u = tt}).calls

pub returns-else-same-clause-calls : goal.returns-else-same-clause-calls
returns-else-same-clause-calls g c =
    let is = sym c.replace-node.ensures.value ∙ c.in-Off.is in
    up_so g.D.Disk c.args.program.now c.args.self.now _ c.in-Off.disk (pcoms.disk_of c.in-Ok.pcom) is (ap disk_in c.put.ensures) c.args.stop c.stop_or_never-stop.ensures c.requires.stop false true false c.requires.pcom (λ ok. refl) (c.in-Ok.ensures {u = tt}).calls

pub returns-in-Err-clause-calls : goal.returns-in-Err-clause-calls
returns-in-Err-clause-calls g c =
    let is = sym c.replace-node.ensures.value ∙ c.in-Off.is in
    up_so g.D.Disk c.args.program.now c.args.self.now c.refuses.new.self c.in-Off.disk c.in-Err.refused.disk is c.refuses.ensures.disk c.args.stop c.stop_or_never-stop.ensures c.requires.stop false false false c.requires.pcom (λ ok. ok) (c.in-Err.ensures {u = tt}).calls
