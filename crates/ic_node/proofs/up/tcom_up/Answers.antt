use Rattle.std.proofs.Common.{◌∙◌, sym, subst, true, false, None, Some}
use Rattle.ic_disk.specs.Armings.{set_by}
use Rattle.ic_disk.proofs.Disks.{crash_weaker}
use Rattle.ic_tcom.specs.Recovering.{IsBeforeOrBegun}
use Rattle.ic_tcom.specs.Views.{disk_of}
use Rattle.ic_node.specs.DeviceCalls.{AreMade}
use Rattle.ic_disk.specs.Torns.{or_never, file, torn}
use Rattle.ic_disk.proofs.Armed.{IsArmed, works_runs, kept_by, crash_by, none_held}
use Rattle.ic_node.proofs.LoadCuts.{not_both}
use Rattle.ic_node.proofs.TcomUps.{seven, tcom_is_up, tcom_is_cut, tcom_fails}
use Rattle.ic_node.proofs.DeviceCalls.{are_made}
use Rattle.ic_node.proofs.up.tcom_up.Goals as goal

pub returns-in-Ok-clause-step : goal.returns-in-Ok-clause-step
returns-in-Ok-clause-step g c =
    let e = c.in-Ok.ensures {u = tt} in
    let set : IsArmed g.D.Disk c.args.stop c.args.disk c.arm.new.self = record { set = c.arm.ensures; runs = works_runs g.D.Disk c.args.disk c.requires.works } in
    tcom_is_up g.D.Disk c.args.program.now c.args.«com» c.args.stop c.args.disk c.arm.new.self set c.args.fingerprint.now c.in-Ok.tcom c.arm-in-Ok.new.self (or_never None) _ e.step e.calls c.arm-in-Ok.ensures.same c.arm-in-Ok.ensures.disk

pub returns-in-Ok-clause-disk : goal.returns-in-Ok-clause-disk
returns-in-Ok-clause-disk g c =
    let e = c.in-Ok.ensures {u = tt} in
    kept_by g.D.Disk c.args.disk c.arm.new.self (disk_of c.in-Ok.tcom) (disk_of c.arm-in-Ok.new.self) (Some (set_by c.args.stop)) (Some (set_by (or_never None))) c.arm.ensures c.arm-in-Ok.ensures.disk e.disk

pub returns-in-Ok-clause-crash : goal.returns-in-Ok-clause-crash
returns-in-Ok-clause-crash g c =
    let e = c.in-Ok.ensures {u = tt} in
    crash_weaker (λ keeps image. subst (λ x. IsBeforeOrBegun (torn g.D.Disk) c.args.program.now c.args.«com» x image) c.arm.ensures)
    (crash_by g.D.Disk c.args.disk c.arm.new.self (disk_of c.in-Ok.tcom) (disk_of c.arm-in-Ok.new.self) (Some (set_by c.args.stop)) (Some (set_by (or_never None))) (IsBeforeOrBegun (torn g.D.Disk) c.args.program.now c.args.«com» c.arm.new.self) c.arm.ensures c.arm-in-Ok.ensures.disk e.crash)

pub returns-then-is_cut-clause-step : goal.returns-then-is_cut-clause-step
returns-then-is_cut-clause-step g c =
    let e = c.in-Err.ensures {u = tt} in
    let set : IsArmed g.D.Disk c.args.stop c.args.disk c.arm.new.self = record { set = c.arm.ensures; runs = works_runs g.D.Disk c.args.disk c.requires.works } in
    tcom_is_cut g.D.Disk c.args.program.now c.args.«com» c.args.stop c.args.disk c.arm.new.self set c.in-Err.refused.disk c.disarm-reached.new.self c.disarm-reached.ensures.after c.args.fingerprint.now c.in-Err.refused.why c.disarm-reached.result
    c.disarm-reached.ensures.reached (sym c.is_cut.ensures ∙ c.if-is_cut.true) c.requires.beyond (none_held c.args.disk.held _ c.requires.settled) e.refused e.calls

pub returns-then-is_cut-clause-disk : goal.returns-then-is_cut-clause-disk
returns-then-is_cut-clause-disk g c =
    let e = c.in-Err.ensures {u = tt} in
    kept_by g.D.Disk c.args.disk c.arm.new.self c.in-Err.refused.disk c.disarm-reached.new.self (Some (set_by c.args.stop)) None c.arm.ensures c.disarm-reached.ensures.after e.disk

pub returns-then-is_cut-clause-crash : goal.returns-then-is_cut-clause-crash
returns-then-is_cut-clause-crash g c =
    let e = c.in-Err.ensures {u = tt} in
    crash_weaker (λ keeps image. subst (λ x. IsBeforeOrBegun (torn g.D.Disk) c.args.program.now c.args.«com» x image) c.arm.ensures)
    (crash_by g.D.Disk c.args.disk c.arm.new.self c.in-Err.refused.disk c.disarm-reached.new.self (Some (set_by c.args.stop)) None (IsBeforeOrBegun (torn g.D.Disk) c.args.program.now c.args.«com» c.arm.new.self) c.arm.ensures c.disarm-reached.ensures.after e.crash)

pub returns-else-is_cut-clause-disk : goal.returns-else-is_cut-clause-disk
returns-else-is_cut-clause-disk g c =
    let e = c.in-Err.ensures {u = tt} in
    kept_by g.D.Disk c.args.disk c.arm.new.self c.in-Err.refused.disk c.disarm-reached.new.self (Some (set_by c.args.stop)) None c.arm.ensures c.disarm-reached.ensures.after e.disk

pub returns-else-is_cut-clause-crash : goal.returns-else-is_cut-clause-crash
returns-else-is_cut-clause-crash g c =
    let e = c.in-Err.ensures {u = tt} in
    crash_weaker (λ keeps image. subst (λ x. IsBeforeOrBegun (torn g.D.Disk) c.args.program.now c.args.«com» x image) c.arm.ensures)
    (crash_by g.D.Disk c.args.disk c.arm.new.self c.in-Err.refused.disk c.disarm-reached.new.self (Some (set_by c.args.stop)) None (IsBeforeOrBegun (torn g.D.Disk) c.args.program.now c.args.«com» c.arm.new.self) c.arm.ensures c.disarm-reached.ensures.after e.crash)

pub returns-else-is_cut-clause-refused : goal.returns-else-is_cut-clause-refused
returns-else-is_cut-clause-refused g c =
    let e = c.in-Err.ensures {u = tt} in
    let set : IsArmed g.D.Disk c.args.stop c.args.disk c.arm.new.self = record { set = c.arm.ensures; runs = works_runs g.D.Disk c.args.disk c.requires.works } in
    tcom_fails g.D.Disk c.args.program.now c.args.«com» c.args.stop c.args.disk c.arm.new.self set c.in-Err.refused.disk c.disarm-reached.new.self c.disarm-reached.ensures.after g.met.D.Disk.keeping_tells c.args.fingerprint.now c.in-Err.refused.why c.disarm-reached.result _
    c.disarm-reached.ensures.reached (not_both c.disarm-reached.result c.in-Err.refused.why (sym c.is_cut.ensures ∙ c.if-is_cut.false)) e.refused e.disk e.calls

pub returns-in-Ok-clause-calls : goal.returns-in-Ok-clause-calls
returns-in-Ok-clause-calls g c =
    subst (λ n. AreMade c.args.stop n true c.args.disk.made (disk_of c.arm-in-Ok.new.self).made) (seven c.args.program.now c.args.«com» (file g.D.Disk c.arm.new.self))
    (are_made g.D.Disk c.args.stop c.args.disk c.arm.new.self (disk_of c.in-Ok.tcom) (disk_of c.arm-in-Ok.new.self) (Some (set_by (or_never None))) c.arm.ensures (works_runs g.D.Disk c.args.disk c.requires.works) c.arm-in-Ok.ensures.disk (c.in-Ok.ensures {u = tt}).calls)

pub returns-then-is_cut-clause-calls : goal.returns-then-is_cut-clause-calls
returns-then-is_cut-clause-calls g c =
    subst (λ n. AreMade c.args.stop n false c.args.disk.made c.disarm-reached.new.self.made) (seven c.args.program.now c.args.«com» (file g.D.Disk c.arm.new.self))
    (are_made g.D.Disk c.args.stop c.args.disk c.arm.new.self c.in-Err.refused.disk c.disarm-reached.new.self None c.arm.ensures (works_runs g.D.Disk c.args.disk c.requires.works) c.disarm-reached.ensures.after (c.in-Err.ensures {u = tt}).calls)

pub returns-else-is_cut-clause-calls : goal.returns-else-is_cut-clause-calls
returns-else-is_cut-clause-calls g c =
    subst (λ n. AreMade c.args.stop n false c.args.disk.made c.disarm-reached.new.self.made) (seven c.args.program.now c.args.«com» (file g.D.Disk c.arm.new.self))
    (are_made g.D.Disk c.args.stop c.args.disk c.arm.new.self c.in-Err.refused.disk c.disarm-reached.new.self None c.arm.ensures (works_runs g.D.Disk c.args.disk c.requires.works) c.disarm-reached.ensures.after (c.in-Err.ensures {u = tt}).calls)
