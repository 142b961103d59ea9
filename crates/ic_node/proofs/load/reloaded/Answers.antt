use Rattle.std.proofs.Common.{◌∙◌, sym, ap, length, arith}
use Rattle.ic_disk.proofs.Disks.{Keeps-refl}
use Rattle.ic_gate.specs.Reading.{load_calls}
use Rattle.ic_node.specs.Loading.{disk_loaded}
use Rattle.ic_node.proofs.Reloads.{power_step, power_fails, power_kept, power_crash, nothing_left}
use Rattle.ic_node.proofs.DeviceCalls.{power_made}
use Rattle.ic_node.proofs.load.reloaded.Goals as goal

pub returns-then-not-is_stopped-clause-disk : goal.returns-then-not-is_stopped-clause-disk
returns-then-not-is_stopped-clause-disk g c = Keeps-refl c.args.disk

pub returns-then-not-is_stopped-clause-crash : goal.returns-then-not-is_stopped-clause-crash
returns-then-not-is_stopped-clause-crash g c = nothing_left g.D.Disk g.met.D.Disk.only_now c.args.disk

pub loaded-requires : goal.loaded-requires
loaded-requires g c = record { runs = ap (λ x. x.stopped) c.power_on.ensures.after }

pub returns-clause-step : goal.returns-clause-step
returns-clause-step g c =
    let none = c.is_stopped.ensures.lost (sym c.is_stopped.ensures.stopped ∙ c.if-not-is_stopped.false) in
    power_step g.D.Disk c.args.disk c.power_on.new.self c.power_on.ensures.after none c.args.fingerprint.now c.args.«com».0 c.loaded.result c.loaded.ensures.step

pub returns-clause-disk : goal.returns-clause-disk
returns-clause-disk g c =
    let none = c.is_stopped.ensures.lost (sym c.is_stopped.ensures.stopped ∙ c.if-not-is_stopped.false) in
    power_kept g.D.Disk c.args.disk c.power_on.new.self c.power_on.ensures.after none (disk_loaded c.loaded.result) c.loaded.ensures.disk

pub returns-clause-crash : goal.returns-clause-crash
returns-clause-crash g c =
    let none = c.is_stopped.ensures.lost (sym c.is_stopped.ensures.stopped ∙ c.if-not-is_stopped.false) in
    power_crash g.D.Disk c.args.disk c.power_on.new.self c.power_on.ensures.after none (disk_loaded c.loaded.result) c.loaded.ensures.crash

pub returns-clause-refused : goal.returns-clause-refused
returns-clause-refused g c =
    let none = c.is_stopped.ensures.lost (sym c.is_stopped.ensures.stopped ∙ c.if-not-is_stopped.false) in
    power_fails g.D.Disk c.args.disk c.power_on.new.self c.power_on.ensures.after none c.args.fingerprint.now c.args.«com».0 c.loaded.result c.loaded.ensures.refused

pub returns-then-not-is_stopped-clause-calls : goal.returns-then-not-is_stopped-clause-calls
returns-then-not-is_stopped-clause-calls g c = omega arith

pub returns-clause-calls : goal.returns-clause-calls
returns-clause-calls g c =
    power_made g.D.Disk c.args.disk c.power_on.new.self (disk_loaded c.loaded.result).made (length load_calls) c.power_on.ensures.after c.loaded.ensures.calls
