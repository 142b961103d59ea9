use Rattle.std.proofs.Common.{◌∙◌, sym, ap, refl, subst, None, Some}
use Rattle.std.specs.Prelude.{is_ok}
use Rattle.std.proofs.lemmas.Result.{err_from_is_err_and}
use Rattle.def_run.specs.CoreSteps.{forced_of}
use Rattle.def_run.specs.SystemStates.{KeepsLog}
use Rattle.ic_gate.specs.Logs.{disk_of}
use Rattle.ic_gate.proofs.Blank.{made-blank}
use Rattle.ic_node.specs.Nodes.{disk_in, node_with, read_of}
use Rattle.ic_node.specs.Standing.{is_begun, read_or_none}
use Rattle.ic_disk.specs.Torns.{or_never, torn}
use Rattle.ic_disk.proofs.Armed.{IsArmed, works_on}
use Rattle.ic_node.proofs.Firsts.{node_works, node_settles, node_lasts, starts_owned, starts_fresh, starts_log, reads_none, not_made}
use Rattle.ic_node.proofs.LieDowns.{kept_so}
use Rattle.ic_node.proofs.Loads.{kept_load}
use Rattle.ic_node.proofs.Steps.{none_begun}
use Rattle.ic_node.proofs.events.Component+TornDisk+D.start.Goals as goal

pub returns-in_err-log-clause-disk : goal.returns-in_err-log-clause-disk
returns-in_err-log-clause-disk g c =
    let p = err_from_is_err_and c.from_residual.result c.from_residual.ensures.1 in
    rw (p.1, p.2) (kept_load g.D.Disk (or_never None) c.args.disk c.arm.new.self (record { set = c.arm.ensures; runs = c.requires.new.runs }) c.in_err-log.field-0.0.disk c.in_err-log.ensures.disk)

pub returns-in_err-log-clause-refused : goal.returns-in_err-log-clause-refused
returns-in_err-log-clause-refused g c =
    let p = err_from_is_err_and c.from_residual.result c.from_residual.ensures.1 in
    rw (p.1, p.2) (not_made g.D.Disk c.args.fingerprint.now c.args.«com» (or_never None) c.args.disk c.arm.new.self c.in_err-log.field-0.0.disk c.in_err-log.field-0.0.why _ (record { set = c.arm.ensures; runs = c.requires.new.runs }) refl c.in_err-log.ensures.refused c.in_err-log.ensures.calls)

pub invariant_of-result : goal.invariant_of-result
invariant_of-result g c =
    let e = c.in_ok-log.ensures {u = tt} in
    let log = c.in_ok-log.log in
    let node = c.in_ok-node.node in
    let is = (c.in_ok-node.ensures {u = tt}).step in
    let set : IsArmed g.D.Disk (or_never None) c.args.disk c.arm.new.self = record { set = c.arm.ensures; runs = c.requires.new.runs } in
    record {
      opened = λ up. is.open_now;
      which = λ up. ap (λ k. k.0) is.which;
      working = λ up. node_works (torn g.D.Disk) node (disk_of log) is.disk (works_on g.D.Disk _ _ _ (or_never None) c.args.disk c.arm.new.self (disk_of log) set _ e.calls.stop);
      on_disk = λ up told. ap read_or_none (reads_none (torn g.D.Disk) c.args.fingerprint.now c.args.«com» node (disk_of log) c.told-fingerprint is.disk (λ h. e.step.bytes (e.disk.tells.1 h)) told) ∙ sym is.none ∙ ap (λ ks. forced_of (Some (node_with ks node))) (sym c.new.ensures);
      whole = λ up told. ap is_ok (reads_none (torn g.D.Disk) c.args.fingerprint.now c.args.«com» node (disk_of log) c.told-fingerprint is.disk (λ h. e.step.bytes (e.disk.tells.1 h)) told);
      owned = λ up. starts_owned (torn g.D.Disk) c.args.fingerprint.now c.args.«com» node (disk_of log) c.told-fingerprint is.disk (λ h. e.step.bytes (e.disk.tells.1 h));
      durable = λ up. node_lasts (torn g.D.Disk) (disk_in node) (disk_of log) is.disk (λ keeps. log.durable keeps e.step.rest.is_open);
      settled = λ up. node_settles (torn g.D.Disk) node (disk_of log) is.disk (log.settled e.step.rest.is_open);
      begun = λ up. ap (λ ks. is_begun ks node) c.new.ensures ∙ none_begun node;
      writable = λ up. ∣ is.fits ∣₁;
    }

pub returns-clause-step : goal.returns-clause-step
returns-clause-step g c =
    let e = c.in_ok-log.ensures {u = tt} in
    let is = (c.in_ok-node.ensures {u = tt}).step in
    record {
      first = λ declared found. ap (λ ks. node_with ks c.in_ok-node.node) c.new.ensures ∙ is.first declared found;
      which = refl;
      going = refl;
      fresh = starts_fresh (torn g.D.Disk) c.args.fingerprint.now c.args.«com» c.in_ok-node.node (disk_of c.in_ok-log.log) is.disk (λ h. e.step.bytes (e.disk.tells.1 h));
      logs = λ told. subst (λ ks. KeepsLog c.args.fingerprint.now c.args.«com» (read_of (torn g.D.Disk) (disk_in c.in_ok-node.node)) (Some (node_with ks c.in_ok-node.node))) (sym c.new.ensures) (starts_log (torn g.D.Disk) c.args.fingerprint.now c.args.«com» c.in_ok-node.node (disk_of c.in_ok-log.log) c.told-fingerprint is.disk is.none (λ h. e.step.bytes (e.disk.tells.1 h)) told);
    }

pub returns-clause-disk : goal.returns-clause-disk
returns-clause-disk g c =
    let e = c.in_ok-log.ensures {u = tt} in
    let is = (c.in_ok-node.ensures {u = tt}).step in
    let set : IsArmed g.D.Disk (or_never None) c.args.disk c.arm.new.self = record { set = c.arm.ensures; runs = c.requires.new.runs } in
    kept_so (torn g.D.Disk) c.args.disk (disk_of c.in_ok-log.log) _ _ refl is.disk (kept_load g.D.Disk (or_never None) c.args.disk c.arm.new.self set (disk_of c.in_ok-log.log) e.disk)

pub returns-in_err-node-clause-disk : goal.returns-in_err-node-clause-disk
returns-in_err-node-clause-disk g c =
    let e = c.in_ok-log.ensures {u = tt} in
    let p = err_from_is_err_and c.from_residual-in_err-node.result c.from_residual-in_err-node.ensures.1 in
    let set : IsArmed g.D.Disk (or_never None) c.args.disk c.arm.new.self = record { set = c.arm.ensures; runs = c.requires.new.runs } in
    rw (p.1, p.2, c.in_err-node.ensures.refused.disk) (kept_load g.D.Disk (or_never None) c.args.disk c.arm.new.self set (disk_of c.in_ok-log.log) e.disk)

pub returns-in_err-node-clause-refused : goal.returns-in_err-node-clause-refused
returns-in_err-node-clause-refused g c =
    let p = err_from_is_err_and c.from_residual-in_err-node.result c.from_residual-in_err-node.ensures.1 in
    rw (p.1, p.2, c.in_err-node.ensures.refused.why) tt

pub first_node-requires-clause-blank : goal.first_node-requires-clause-blank
first_node-requires-clause-blank g c =
    let e = c.in_ok-log.ensures {u = tt} in
    λ told. made-blank e.step (e.disk.tells.1 told) c.told-fingerprint
