use Rattle.std.proofs.Common.{◌≡◌, ◌∙◌, sym, ap, refl, subst, Some, true, false, ◌+◌}
use Rattle.std.specs.Prelude.{Ok, ◌++◌, ◌||◌, is_ok}
use Rattle.std.proofs.lemmas.Bool.{not_from_false}
use Rattle.def_log.specs.Frame.{owner_in}
use Rattle.def_log.specs.Images.{LeavesJust}
use Rattle.def_step.specs.Replay.{has_image}
use Rattle.def_step.specs.Room.{is_empty}
use Rattle.def_run.specs.CoreSteps.{forced_of}
use Rattle.def_standby.specs.Standbys.{contents_among}
use Rattle.ic_ckpt.specs.Views.{seen}
use Rattle.ic_disk.specs.Torns.{torn}
use Rattle.ic_pcom.specs.Views as pcoms
use Rattle.ic_node.specs.Nodes.{disk_in, node_with, read_of, told_of}
use Rattle.ic_node.specs.Sittings.{AreWritable}
use Rattle.ic_node.specs.Standing.{works, is_settled, is_open, is_begun, com_in, log_in, keeps_of, leave_of, read_or_none}
use Rattle.ic_node.proofs.DeviceCalls.{load_here}
use Rattle.ic_node.proofs.LieDowns.{kept_so}
use Rattle.ic_node.proofs.Lying.{same_stands, none_stands}
use Rattle.ic_node.proofs.Recoveries.{is_off, owned_now, crash_down}
use Rattle.ic_node.proofs.TakeOvers.{over_stands, is_taken_over, not_over}
use Rattle.ic_node.proofs.takeover.Component+TornDisk+D.takes_over.Goals as goal

pub unreachable-requires : goal.unreachable-requires
unreachable-requires g c =
    let off = is_off c.args.self.now.node c.args.self.now.kept c.requires.down in
    c.in_default.not-Off off.0 (c.replace-node.ensures.value ∙ off.1)

pub unreachable-unreachable : goal.unreachable-unreachable
unreachable-unreachable g c = c.unreachable.result

pub adopted-requires-clause-works : goal.adopted-requires-clause-works
adopted-requires-clause-works g c =
    let is = sym c.replace-node.ensures.value ∙ c.in-Off.is in
    ap (works (torn g.D.Disk)) (sym is) ∙ c.args.self.now.working c.requires.going

pub put-requires : goal.put-requires
put-requires g c = record { outside = ap disk_in c.replace-node.ensures.after }

pub refuses-requires : goal.refuses-requires
refuses-requires g c = record { outside = ap disk_in c.replace-node.ensures.after }

pub invariant_of-self-in-Err-1 : goal.invariant_of-self-in-Err-1
invariant_of-self-in-Err-1 g c =
    let out = c.replace-node.ensures.after in
    let s = same_stands (torn g.D.Disk) c.args.self.now.«com».0 _ c.replace-node.new.dest _ out (none_stands (torn g.D.Disk) c.args.self.now.«com».0 _) in
    record {
      opened = λ going. ap is_open out;
      which = λ going. ap (λ n. (com_in c.args.self.now.«com» n).0) out;
      working = λ going. s.working;
      on_disk = λ going. s.on_disk;
      whole = λ going. s.whole;
      owned = λ going. s.owned;
      durable = λ going. s.durable;
      settled = λ going. s.settled;
      begun = λ going. ap (is_begun _) out;
      writable = λ going. subst (λ n. ∥ AreWritable n ∥₁) (sym out) ∣ tt ∣₁;
    }

pub invariant_of-self : goal.invariant_of-self
invariant_of-self g c =
    let q = c.in-Ok.pcom in
    let up = (c.in-Ok.ensures {u = tt}).step in
    let per = c.put.ensures in
    let is = sym c.replace-node.ensures.value ∙ c.in-Off.is in
    let keeps = (c.in-Ok.ensures {u = tt}).disk in
    record {
      opened = λ going. ap is_open per ∙ not_from_false (pcoms.is_closed q) up.is_open;
      which = λ going. ap (λ n. (com_in c.args.self.now.«com» n).0) per ∙ ap (λ k. k.0) up.which;
      working = λ going. ap (works (torn g.D.Disk)) per ∙ up.works;
      on_disk = λ going. subst (λ n. told_of (torn g.D.Disk) (disk_in n) → read_or_none (log_in (torn g.D.Disk) n) ≡ forced_of (Some (node_with c.new.result n))) (sym per) (λ told. ap read_or_none (over_stands g.D.Disk c.args.program.now c.args.self.now c.in-Off.disk is c.requires.going (contents_among c.args.self.now.«com» c.args.msgs.now) (seen c.args.state) c.args.have q up keeps told ∙ ap (λ ks. Ok (ks ++ (pcoms.component_of q).log.forced)) (sym c.new.ensures)));
      whole = λ going. subst (λ n. told_of (torn g.D.Disk) (disk_in n) → is_ok (log_in (torn g.D.Disk) n) ≡ true) (sym per) (λ told. ap is_ok (over_stands g.D.Disk c.args.program.now c.args.self.now c.in-Off.disk is c.requires.going (contents_among c.args.self.now.«com» c.args.msgs.now) (seen c.args.state) c.args.have q up keeps told));
      owned = λ going. owned_now g.D.Disk c.args.self.now c.in-Off.disk (sym c.replace-node.ensures.value ∙ c.in-Off.is) c.requires.going c.put.new.self (pcoms.disk_of q) (ap disk_in per) (c.in-Ok.ensures {u = tt}).disk (λ h. ap owner_in (up.bytes h));
      durable = λ going. subst (λ n. keeps_of (torn g.D.Disk) (disk_in n) → LeavesJust (leave_of (torn g.D.Disk) (disk_in n)) (read_of (torn g.D.Disk) (disk_in n))) (sym per) (λ keeps. q.durable keeps up.is_open);
      settled = λ going. ap (is_settled (torn g.D.Disk)) per ∙ q.settled up.is_open;
      begun = λ going. ap (is_begun _) per ∙ ap (λ ks. is_empty ks || has_image (pcoms.component_of q).log.forced) c.new.ensures;
      writable = λ going. subst (λ n. ∥ AreWritable n ∥₁) (sym per) ∣ tt ∣₁;
    }

pub returns-in-Ok-clause-step : goal.returns-in-Ok-clause-step
returns-in-Ok-clause-step g c =
    let is = sym c.replace-node.ensures.value ∙ c.in-Off.is in
    let e = c.in-Ok.ensures {u = tt} in
    rw c.played-played.ensures (is_taken_over g.D.Disk c.args.program.now c.args.self.now c.in-Off.disk is c.requires.going (contents_among c.args.self.now.«com» c.args.msgs.now) (seen c.args.state) c.args.have c.in-Ok.pcom e.step _ c.put.ensures c.new.ensures refl c.requires.going)

pub returns-in-Ok-clause-disk : goal.returns-in-Ok-clause-disk
returns-in-Ok-clause-disk g c =
    let is = sym c.replace-node.ensures.value ∙ c.in-Off.is in
    let e = c.in-Ok.ensures {u = tt} in
    kept_so (torn g.D.Disk) c.in-Off.disk (pcoms.disk_of c.in-Ok.pcom) _ _ (ap disk_in is) (ap disk_in c.put.ensures) e.disk

pub returns-in-Ok-clause-crash : goal.returns-in-Ok-clause-crash
returns-in-Ok-clause-crash g c =
    let is = sym c.replace-node.ensures.value ∙ c.in-Off.is in
    let e = c.in-Ok.ensures {u = tt} in
    crash_down g.D.Disk c.args.self.now c.in-Off.disk is c.requires.going g.met.D.Disk.keeping_tells _ (pcoms.disk_of c.in-Ok.pcom) _ (ap disk_in c.put.ensures) e.crash

pub returns-in-Ok-clause-steps : goal.returns-in-Ok-clause-steps
returns-in-Ok-clause-steps g c =
    let e = c.in-Ok.ensures {u = tt} in
    e.steps ∙ ap (λ n. c.args.steps.now + n) (sym c.played-played.ensures)

pub returns-in-Err-clause-disk : goal.returns-in-Err-clause-disk
returns-in-Err-clause-disk g c =
    let is = sym c.replace-node.ensures.value ∙ c.in-Off.is in
    let e = c.in-Err.ensures {u = tt} in
    kept_so (torn g.D.Disk) c.in-Off.disk c.in-Err.refused.disk _ _ (ap disk_in is) c.refuses.ensures.disk e.disk

pub returns-in-Err-clause-crash : goal.returns-in-Err-clause-crash
returns-in-Err-clause-crash g c =
    let is = sym c.replace-node.ensures.value ∙ c.in-Off.is in
    let e = c.in-Err.ensures {u = tt} in
    crash_down g.D.Disk c.args.self.now c.in-Off.disk is c.requires.going g.met.D.Disk.keeping_tells _ c.in-Err.refused.disk _ c.refuses.ensures.disk e.crash

pub returns-in-Err-clause-refused : goal.returns-in-Err-clause-refused
returns-in-Err-clause-refused g c =
    let is = sym c.replace-node.ensures.value ∙ c.in-Off.is in
    let e = c.in-Err.ensures {u = tt} in
    rw (c.refuses.ensures.why) (not_over g.D.Disk c.args.program.now c.args.self.now c.in-Off.disk is c.requires.going (contents_among c.args.self.now.«com» c.args.msgs.now) (seen c.args.state) c.args.have c.args.fingerprint.now c.refuses.new.self c.in-Err.refused.disk c.in-Err.refused.why c.refuses.ensures.disk e.refused)

pub returns-in-Ok-clause-calls : goal.returns-in-Ok-clause-calls
returns-in-Ok-clause-calls g c =
    let is = sym c.replace-node.ensures.value ∙ c.in-Off.is in
    load_here g.D.Disk _ _ c.in-Off.disk (pcoms.disk_of c.in-Ok.pcom) true (ap disk_in is) (ap disk_in c.put.ensures) (c.in-Ok.ensures {u = tt}).calls

pub returns-in-Err-clause-calls : goal.returns-in-Err-clause-calls
returns-in-Err-clause-calls g c =
    let is = sym c.replace-node.ensures.value ∙ c.in-Off.is in
    load_here g.D.Disk _ _ c.in-Off.disk c.in-Err.refused.disk false (ap disk_in is) c.refuses.ensures.disk (c.in-Err.ensures {u = tt}).calls
