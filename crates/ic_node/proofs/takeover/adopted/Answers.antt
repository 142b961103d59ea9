use Rattle.std.proofs.Common.{◌∙◌, sym, ap, refl, subst, inl, ◌+◌, true, false, None, Some}
use Rattle.def_standby.specs.Standbys.{contents_among}
use Rattle.ic_ckpt.specs.Views.{seen}
use Rattle.ic_disk.specs.Armings.{set_by}
use Rattle.ic_disk.specs.Torns.{or_never, torn}
use Rattle.ic_disk.proofs.Armed.{IsArmed, works_runs, kept_by, crash_by}
use Rattle.ic_disk.proofs.Disks.{crash_weaker}
use Rattle.ic_pcom.specs.Views.{disk_of}
use Rattle.ic_node.proofs.DeviceCalls.{are_made, load_so}
use Rattle.ic_node.proofs.TakeOvers.{over_is, over_fails}
use Rattle.ic_node.proofs.takeover.adopted.Goals as goal

pub returns-in-Ok-clause-step : goal.returns-in-Ok-clause-step
returns-in-Ok-clause-step g c =
    let e = c.in-Ok.ensures {u = tt} in
    let set : IsArmed g.D.Disk (or_never None) c.args.disk c.arm.new.self = record { set = c.arm.ensures; runs = works_runs g.D.Disk c.args.disk c.requires.works } in
    over_is g.D.Disk c.args.program.now c.args.«com» (contents_among c.args.«com» c.args.msgs.now) (seen c.args.state) c.args.have (or_never None) c.args.disk c.arm.new.self set c.args.fingerprint.now c.in-Ok.pcom c.arm-in-Ok.new.self (or_never None) _ e.step e.calls c.arm-in-Ok.ensures.same c.arm-in-Ok.ensures.disk

pub returns-in-Ok-clause-disk : goal.returns-in-Ok-clause-disk
returns-in-Ok-clause-disk g c =
    let e = c.in-Ok.ensures {u = tt} in
    kept_by g.D.Disk c.args.disk c.arm.new.self (disk_of c.in-Ok.pcom) (disk_of c.arm-in-Ok.new.self) (Some (set_by (or_never None))) (Some (set_by (or_never None))) c.arm.ensures c.arm-in-Ok.ensures.disk e.disk

pub returns-in-Ok-clause-crash : goal.returns-in-Ok-clause-crash
returns-in-Ok-clause-crash g c =
    let e = c.in-Ok.ensures {u = tt} in
    crash_weaker (λ keeps image may. subst (λ x. (torn g.D.Disk).may_leave x image) c.arm.ensures may)
    (crash_by g.D.Disk c.args.disk c.arm.new.self (disk_of c.in-Ok.pcom) (disk_of c.arm-in-Ok.new.self) (Some (set_by (or_never None))) (Some (set_by (or_never None))) ((torn g.D.Disk).may_leave c.arm.new.self) c.arm.ensures c.arm-in-Ok.ensures.disk e.crash)

pub returns-in-Ok-clause-steps : goal.returns-in-Ok-clause-steps
returns-in-Ok-clause-steps g c =
    let e = c.in-Ok.ensures {u = tt} in
    e.steps ∙ ap (λ n. c.args.steps.now + n) (sym c.arm-in-Ok.ensures.same.played)

pub returns-in-Err-clause-disk : goal.returns-in-Err-clause-disk
returns-in-Err-clause-disk g c =
    let e = c.in-Err.ensures {u = tt} in
    kept_by g.D.Disk c.args.disk c.arm.new.self c.in-Err.refused.disk c.in-Err.refused.disk (Some (set_by (or_never None))) c.in-Err.refused.disk.script c.arm.ensures refl e.disk

pub returns-in-Err-clause-crash : goal.returns-in-Err-clause-crash
returns-in-Err-clause-crash g c =
    let e = c.in-Err.ensures {u = tt} in
    crash_weaker (λ keeps image may. subst (λ x. (torn g.D.Disk).may_leave x image) c.arm.ensures may)
    (crash_by g.D.Disk c.args.disk c.arm.new.self c.in-Err.refused.disk c.in-Err.refused.disk (Some (set_by (or_never None))) c.in-Err.refused.disk.script ((torn g.D.Disk).may_leave c.arm.new.self) c.arm.ensures refl e.crash)

pub returns-in-Err-clause-refused : goal.returns-in-Err-clause-refused
returns-in-Err-clause-refused g c =
    let e = c.in-Err.ensures {u = tt} in
    let set : IsArmed g.D.Disk (or_never None) c.args.disk c.arm.new.self = record { set = c.arm.ensures; runs = works_runs g.D.Disk c.args.disk c.requires.works } in
    over_fails g.D.Disk c.args.program.now c.args.«com» (contents_among c.args.«com» c.args.msgs.now) (seen c.args.state) c.args.have (or_never None) c.args.disk c.arm.new.self set g.met.D.Disk.keeping_tells c.args.fingerprint.now c.in-Err.refused.disk c.in-Err.refused.why _ (inl refl) e.refused e.disk e.calls

pub returns-in-Ok-clause-calls : goal.returns-in-Ok-clause-calls
returns-in-Ok-clause-calls g c =
    load_so (or_never None) true _ _ (are_made g.D.Disk (or_never None) c.args.disk c.arm.new.self (disk_of c.in-Ok.pcom) (disk_of c.arm-in-Ok.new.self) (Some (set_by (or_never None))) c.arm.ensures (works_runs g.D.Disk c.args.disk c.requires.works) c.arm-in-Ok.ensures.disk (c.in-Ok.ensures {u = tt}).calls)

pub returns-in-Err-clause-calls : goal.returns-in-Err-clause-calls
returns-in-Err-clause-calls g c =
    let disk = c.in-Err.refused.disk in
    load_so (or_never None) false _ _ (are_made g.D.Disk (or_never None) c.args.disk c.arm.new.self disk disk disk.script c.arm.ensures (works_runs g.D.Disk c.args.disk c.requires.works) refl (c.in-Err.ensures {u = tt}).calls)
