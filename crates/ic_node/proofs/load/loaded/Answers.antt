use Rattle.std.proofs.Common.{◌+◌, ◌≤◌, sym, subst, refl, length, None}
use Rattle.std.proofs.lemmas.Result.{err_from_is_err_and}
use Rattle.ic_disk.specs.Disk.{Keeps, CrashLeaves}
use Rattle.ic_disk.specs.TornDisks.{Torn}
use Rattle.ic_gate.specs.Logs.{disk_of}
use Rattle.ic_gate.specs.Reading.{load_calls}
use Rattle.ic_node.specs.Loading.{IsLoaded}
use Rattle.ic_disk.specs.Torns.{or_never, torn}
use Rattle.ic_disk.proofs.Armed.{IsArmed}
use Rattle.ic_node.proofs.Loads.{loaded_is, not_loaded, kept_load, crash_load}
use Rattle.ic_node.proofs.DeviceCalls.{are_made}
use Rattle.ic_node.proofs.load.loaded.Goals as goal

pub returns-in_err-log-clause-disk : goal.returns-in_err-log-clause-disk
returns-in_err-log-clause-disk g c =
    let p = err_from_is_err_and c.from_residual.result c.from_residual.ensures.1 in
    let set : IsArmed g.D.Disk (or_never None) c.args.disk c.arm.new.self = record { set = c.arm.ensures; runs = c.requires.runs } in
    rw (p.1, p.2) (kept_load g.D.Disk (or_never None) c.args.disk c.arm.new.self set c.in_err-log.field-0.0.disk c.in_err-log.ensures.disk)

pub returns-in_err-log-clause-crash : goal.returns-in_err-log-clause-crash
returns-in_err-log-clause-crash g c =
    let p = err_from_is_err_and c.from_residual.result c.from_residual.ensures.1 in
    let set : IsArmed g.D.Disk (or_never None) c.args.disk c.arm.new.self = record { set = c.arm.ensures; runs = c.requires.runs } in
    rw (p.1, p.2) (crash_load g.D.Disk (or_never None) c.args.disk c.arm.new.self set c.in_err-log.field-0.0.disk c.in_err-log.ensures.crash)

pub returns-in_err-log-clause-refused : goal.returns-in_err-log-clause-refused
returns-in_err-log-clause-refused g c =
    let p = err_from_is_err_and c.from_residual.result c.from_residual.ensures.1 in
    let set : IsArmed g.D.Disk (or_never None) c.args.disk c.arm.new.self = record { set = c.arm.ensures; runs = c.requires.runs } in
    rw (p.1, p.2) (not_loaded g.D.Disk (or_never None) c.args.disk c.arm.new.self set g.met.D.Disk.keeping_tells c.args.fingerprint.now c.args.«com».0 c.in_err-log.field-0.0.disk c.in_err-log.field-0.0.why _ refl c.in_err-log.ensures.refused c.in_err-log.ensures.disk c.in_err-log.ensures.calls)

pub returns-clause-step : goal.returns-clause-step
returns-clause-step g c =
    let e = c.in_ok-log.ensures {u = tt} in
    let log = c.in_ok-log.log in
    let set : IsArmed g.D.Disk (or_never None) c.args.disk c.arm.new.self = record { set = c.arm.ensures; runs = c.requires.runs } in
    let P : Torn g.row.D.Denot → Type 0 = λ x. IsLoaded g.D.Disk c.args.disk c.args.fingerprint.now c.args.«com».0 (x, c.in_ok-log.kept) in
    subst P (sym c.into_disk.ensures)
    (loaded_is g.D.Disk (or_never None) c.args.disk c.arm.new.self set c.args.fingerprint.now c.args.«com».0 log e.step.placed c.in_ok-log.kept _ e.step.loads e.calls e.step.same log.durable log.settled)

pub returns-clause-disk : goal.returns-clause-disk
returns-clause-disk g c =
    let set : IsArmed g.D.Disk (or_never None) c.args.disk c.arm.new.self = record { set = c.arm.ensures; runs = c.requires.runs } in
    let P : Torn g.row.D.Denot → Type 0 = λ x. Keeps (torn g.D.Disk) c.args.disk x in
    subst P (sym c.into_disk.ensures) (kept_load g.D.Disk (or_never None) c.args.disk c.arm.new.self set (disk_of c.in_ok-log.log) (c.in_ok-log.ensures {u = tt}).disk)

pub returns-clause-crash : goal.returns-clause-crash
returns-clause-crash g c =
    let set : IsArmed g.D.Disk (or_never None) c.args.disk c.arm.new.self = record { set = c.arm.ensures; runs = c.requires.runs } in
    let P : Torn g.row.D.Denot → Type 0 = λ x. CrashLeaves (torn g.D.Disk) c.args.disk x ((torn g.D.Disk).may_leave c.args.disk) in
    subst P (sym c.into_disk.ensures) (crash_load g.D.Disk (or_never None) c.args.disk c.arm.new.self set (disk_of c.in_ok-log.log) (c.in_ok-log.ensures {u = tt}).crash)

pub returns-in_err-log-clause-calls : goal.returns-in_err-log-clause-calls
returns-in_err-log-clause-calls g c =
    let p = err_from_is_err_and c.from_residual.result c.from_residual.ensures.1 in
    let refused = c.in_err-log.field-0.0.disk in
    rw (p.1, p.2) (are_made g.D.Disk (or_never None) c.args.disk c.arm.new.self refused refused refused.script c.arm.ensures c.requires.runs refl c.in_err-log.ensures.calls).most

pub returns-clause-calls : goal.returns-clause-calls
returns-clause-calls g c =
    let disk = disk_of c.in_ok-log.log in
    let P : Torn g.row.D.Denot → Type 0 = λ x. x.made ≤ c.args.disk.made + length load_calls in
    subst P (sym c.into_disk.ensures) (are_made g.D.Disk (or_never None) c.args.disk c.arm.new.self disk disk disk.script c.arm.ensures c.requires.runs refl (c.in_ok-log.ensures {u = tt}).calls).most
