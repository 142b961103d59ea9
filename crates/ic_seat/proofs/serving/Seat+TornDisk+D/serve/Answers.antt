use Rattle.std.proofs.Common.{◌≡◌, ◌∙◌, sym, ap, subst, true, List, Some, None, Err}
use Rattle.ic_base.specs.declared.events.Stop.{Stop}
use Rattle.def_two.specs.declared.moves.Packet2.{Packet2}
use Rattle.def_two.specs.World.{Site}
use Rattle.ic_disk.specs.Armings.{set_by}
use Rattle.ic_disk.specs.Disk.{CrashLeaves}
use Rattle.ic_disk.specs.TornDisks.{Torn}
use Rattle.ic_gate.specs.declared.refusals.StepRefused.{StepRefused}
use Rattle.ic_seat.specs.Seats.{call_of, disk_in, is_up}
use Rattle.ic_seat.specs.Serving.{Serves}
use Rattle.ic_seat.specs.Steps.{IsBeforeOrServed, StepsOver}
use Rattle.ic_disk.specs.Torns.{torn, or_never}
use Rattle.ic_seat.proofs.Ends.{up-of, down-of, never-both, cut-off}
use Rattle.ic_seat.proofs.Served.{serves_done, leaves_done, leaves_refused, refused_so, serves_cut, leaves_cut}
use Rattle.ic_seat.proofs.serving.Seat+TornDisk+D.serve.Goals as goal

pub returns-then-is_down-clause-crash : goal.returns-then-is_down-clause-crash
returns-then-is_down-clause-crash g c = λ up. never-both (is_up c.args.self) up (down-of (is_up c.args.self) (c.if-is_down.ensures {u = tt}))

pub step-made-requires-clause-may : goal.step-made-requires-clause-may
step-made-requires-clause-may g c = c.arm.ensures.same.may (call_of c.args.call.now) c.requires.may

pub returns-in-Ok-clause-step : goal.returns-in-Ok-clause-step
returns-in-Ok-clause-step g c =
    let b = g.D.Disk in
    let old = c.args.self in
    let stop = c.args.stop in
    let call = call_of c.args.call.now in
    let up = up-of (is_up old) (c.if-is_down.ensures {u = tt}) in
    let s1 = c.arm.new.self in
    let set1 : disk_in s1 ≡ record (disk_in old) { script = Some (set_by (or_never stop)) } = c.arm.ensures.disk ∙ ap (λ (s : Stop). record (disk_in old) { script = Some (set_by s) }) c.stop_or_never.ensures in
    let s2 = c.step-made.new.self in
    let s3 = c.disarm-reached.new.self in
    let s4 = c.arm-in-Ok.new.self in
    let made = c.in-Ok.ensures {u = tt} in
    let up2 : is_up s2 ≡ true = ap (λ (s : Site). s.up) made.step.site in
    let site3 = c.disarm-reached.ensures.site up2 in
    let site4 = c.arm-in-Ok.ensures.site (ap (λ (s : Site). s.up) site3 ∙ up2) in
    let same3 = c.disarm-reached.ensures.same in
    let same4 = c.arm-in-Ok.ensures.same in
    serves_done b g.met.D.Disk.keeping_tells old stop call c.requires.stands up c.requires.stop s1 set1 (c.arm.ensures.site up) c.arm.ensures.same s2 c.in-Ok.puts made s4
    (c.arm-in-Ok.ensures.disk ∙ ap (λ (x : Torn g.row.D.Denot). record x { script = Some (set_by (or_never None)) }) c.disarm-reached.ensures.disk)
    (site4 ∙ site3) (same4.heard ∙ same3.heard) (same4.is_open_as ∙ same3.is_open_as) (λ openings k e. same4.seated openings k (same3.seated openings k e))

pub returns-in-Ok-clause-crash : goal.returns-in-Ok-clause-crash
returns-in-Ok-clause-crash g c = λ up.
    let b = g.D.Disk in
    let old = c.args.self in
    let stop = c.args.stop in
    let s1 = c.arm.new.self in
    let set1 : disk_in s1 ≡ record (disk_in old) { script = Some (set_by (or_never stop)) } = c.arm.ensures.disk ∙ ap (λ (s : Stop). record (disk_in old) { script = Some (set_by s) }) c.stop_or_never.ensures in
    let s2 = c.step-made.new.self in
    let s3 = c.disarm-reached.new.self in
    let s4 = c.arm-in-Ok.new.self in
    let made = c.in-Ok.ensures {u = tt} in
    let up2 : is_up s2 ≡ true = ap (λ (s : Site). s.up) made.step.site in
    let site3 = c.disarm-reached.ensures.site up2 in
    let site4 = c.arm-in-Ok.ensures.site (ap (λ (s : Site). s.up) site3 ∙ up2) in
    let same3 = c.disarm-reached.ensures.same in
    let same4 = c.arm-in-Ok.ensures.same in
    leaves_done b g.met.D.Disk.keeping_tells old stop (call_of c.args.call.now) c.requires.stands up c.requires.stop s1 set1 (c.arm.ensures.site up) c.arm.ensures.same s2 c.in-Ok.puts made s4
    (c.arm-in-Ok.ensures.disk ∙ ap (λ (x : Torn g.row.D.Denot). record x { script = Some (set_by (or_never None)) }) c.disarm-reached.ensures.disk)
    (site4 ∙ site3) (same4.heard ∙ same3.heard) (same4.is_open_as ∙ same3.is_open_as) (λ openings k e. same4.seated openings k (same3.seated openings k e))

pub returns-in-Some-clause-crash : goal.returns-in-Some-clause-crash
returns-in-Some-clause-crash g c = λ up.
    let b = g.D.Disk in
    let old = c.args.self in
    let stop = c.args.stop in
    let s1 = c.arm.new.self in
    let set1 : disk_in s1 ≡ record (disk_in old) { script = Some (set_by (or_never stop)) } = c.arm.ensures.disk ∙ ap (λ (s : Stop). record (disk_in old) { script = Some (set_by s) }) c.stop_or_never.ensures in
    leaves_refused b g.met.D.Disk.keeping_tells old stop (call_of c.args.call.now) c.requires.stands up c.requires.stop s1 set1 (c.arm.ensures.site up) c.arm.ensures.same c.step-made.new.self c.in-Err.why (c.in-Err.ensures {u = tt}) c.disarm-reached.new.self c.disarm-reached.ensures.disk

pub returns-in-Some-clause-refused : goal.returns-in-Some-clause-refused
returns-in-Some-clause-refused g c =
    let b = g.D.Disk in
    let old = c.args.self in
    let stop = c.args.stop in
    let up = up-of (is_up old) (c.if-is_down.ensures {u = tt}) in
    let s1 = c.arm.new.self in
    let set1 : disk_in s1 ≡ record (disk_in old) { script = Some (set_by (or_never stop)) } = c.arm.ensures.disk ∙ ap (λ (s : Stop). record (disk_in old) { script = Some (set_by s) }) c.stop_or_never.ensures in
    refused_so b g.met.D.Disk.keeping_tells old stop (call_of c.args.call.now) c.requires.stands up c.requires.stop s1 set1 (c.arm.ensures.site up) c.arm.ensures.same c.step-made.new.self c.disarm-reached.new.self c.disarm-reached.ensures.disk
    c.in-Err.why c.disarm-reached.result c.disarm-reached.ensures.reached (c.in-Err.ensures {u = tt}) c.in-Some.refused (sym c.step_refusal.ensures ∙ c.in-Some.is)

pub returns-then-down-clause-step : goal.returns-then-down-clause-step
returns-then-down-clause-step g c =
    let b = g.D.Disk in
    let old = c.args.self in
    let stop = c.args.stop in
    let call = call_of c.args.call.now in
    let up = up-of (is_up old) (c.if-is_down.ensures {u = tt}) in
    let s1 = c.arm.new.self in
    let set1 : disk_in s1 ≡ record (disk_in old) { script = Some (set_by (or_never stop)) } = c.arm.ensures.disk ∙ ap (λ (s : Stop). record (disk_in old) { script = Some (set_by s) }) c.stop_or_never.ensures in
    let s2 = c.step-made.new.self in
    let cut = cut-off c.in-Err.why c.disarm-reached.result (sym c.step_refusal.ensures ∙ c.in-None.is) in
    let M : StepRefused → Type 0 = λ w. StepsOver {D = Torn g.row.D.Denot} {d = torn b} s1 call s2 (Err w) in
    let made = subst M cut.0 (c.in-Err.ensures {u = tt}) in
    let e = c.lies_down-seat.ensures in
    let P : List Packet2 → Type 0 = λ l. Serves b old stop call c.lies_down-seat.result.0 l in
    subst P (sym c.new-then-down.ensures)
    (serves_cut b g.met.D.Disk.keeping_tells old stop call c.requires.stands up c.requires.stop s1 set1 (c.arm.ensures.site up) c.arm.ensures.same s2 made (sym c.disarm-reached.ensures.reached ∙ cut.1) c.disarm-reached.new.self c.disarm-reached.ensures.disk
    (e.lost c.if-down.true) c.lies_down-seat.result.0 (e.down c.if-down.true))

pub returns-then-down-clause-crash : goal.returns-then-down-clause-crash
returns-then-down-clause-crash g c = λ up.
    let b = g.D.Disk in
    let old = c.args.self in
    let stop = c.args.stop in
    let call = call_of c.args.call.now in
    let s1 = c.arm.new.self in
    let set1 : disk_in s1 ≡ record (disk_in old) { script = Some (set_by (or_never stop)) } = c.arm.ensures.disk ∙ ap (λ (s : Stop). record (disk_in old) { script = Some (set_by s) }) c.stop_or_never.ensures in
    let s2 = c.step-made.new.self in
    let cut = cut-off c.in-Err.why c.disarm-reached.result (sym c.step_refusal.ensures ∙ c.in-None.is) in
    let M : StepRefused → Type 0 = λ w. StepsOver {D = Torn g.row.D.Denot} {d = torn b} s1 call s2 (Err w) in
    let made = subst M cut.0 (c.in-Err.ensures {u = tt}) in
    let e = c.lies_down-seat.ensures in
    leaves_cut b g.met.D.Disk.keeping_tells old stop call c.requires.stands up c.requires.stop s1 set1 (c.arm.ensures.site up) c.arm.ensures.same s2 made (sym c.disarm-reached.ensures.reached ∙ cut.1) c.disarm-reached.new.self c.disarm-reached.ensures.disk
    (e.lost c.if-down.true) c.lies_down-seat.result.0 (e.down c.if-down.true)

pub returns-else-down-clause-crash : goal.returns-else-down-clause-crash
returns-else-down-clause-crash g c = λ up.
    let b = g.D.Disk in
    let old = c.args.self in
    let stop = c.args.stop in
    let s1 = c.arm.new.self in
    let set1 : disk_in s1 ≡ record (disk_in old) { script = Some (set_by (or_never stop)) } = c.arm.ensures.disk ∙ ap (λ (s : Stop). record (disk_in old) { script = Some (set_by s) }) c.stop_or_never.ensures in
    let left = leaves_refused b g.met.D.Disk.keeping_tells old stop (call_of c.args.call.now) c.requires.stands up c.requires.stop s1 set1 (c.arm.ensures.site up) c.arm.ensures.same c.step-made.new.self c.in-Err.why (c.in-Err.ensures {u = tt}) c.disarm-reached.new.self c.disarm-reached.ensures.disk in
    let P : Torn g.row.D.Denot → Type 0 = λ x. CrashLeaves (torn b) (disk_in old) x (IsBeforeOrServed old (call_of c.args.call.now)) in
    subst P (sym (c.lies_down-seat.ensures.disk c.if-down.false)) left
