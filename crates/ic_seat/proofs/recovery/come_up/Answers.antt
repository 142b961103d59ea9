use Rattle.std.proofs.Common.{◌≡◌, ◌∙◌, sym, ap, subst, true, false, Some}
use Rattle.std.specs.Prelude.{◌&&◌}
use Rattle.ic_base.specs.declared.events.Stop.{Stop}
use Rattle.ic_disk.specs.Armings.{set_by}
use Rattle.ic_moves.specs.Chiefs.{openings_of}
use Rattle.ic_seat.specs.Recovering.{FailsToRecover, is_halt}
use Rattle.ic_seat.specs.declared.call.SeatRefused.{SeatRefused}
use Rattle.ic_seat.specs.declared.seat.Seat.TheVariants.{Down}
use Rattle.ic_seat.proofs.Ends.{never-both}
use Rattle.ic_seat.proofs.Recovered.{is_both, recovers_up, recovers_cut, fails_up, leaves_up, leaves_cut, leaves_off}
use Rattle.ic_seat.proofs.recovery.come_up.Goals as goal
use Rattle.ic_seat.proofs.recovery.come_up.Goals.{else-is_cut-via-then-is_cut+else-is_stopped, else-is_cut-via-else-is_cut}

pub returns-in-Ok-clause-step : goal.returns-in-Ok-clause-step
returns-in-Ok-clause-step g c =
    let disk = c.args.disk in
    let set1 = c.arm.ensures ∙ ap (λ (s : Stop). record disk { script = Some (set_by s) }) c.stop_or_never.ensures in
    let e = c.in-Ok.ensures {u = tt} in
    let four = c.arm-in-Ok.ensures in
    recovers_up g.D.Disk g.met.D.Disk.keeping_tells (openings_of c.args.books.now) c.args.c c.args.fingerprint.now disk c.args.kept c.args.stop c.requires.stands c.requires.stop c.arm.new.self set1
    _ c.in-Ok.seat e.step e.disk e.calls c.arm-in-Ok.new.self four.disk (four.site e.step.up) four.same

pub returns-then-is_stopped-clause-step : goal.returns-then-is_stopped-clause-step
returns-then-is_stopped-clause-step g c =
    let disk = c.args.disk in
    let set1 = c.arm.ensures ∙ ap (λ (s : Stop). record disk { script = Some (set_by s) }) c.stop_or_never.ensures in
    let e = c.in-Err.ensures {u = tt} in
    let both = is_both c.disarm-reached.result c.in-Err.refused.why (sym c.is_cut.ensures ∙ c.if-is_cut.true) in
    recovers_cut g.D.Disk g.met.D.Disk.keeping_tells (openings_of c.args.books.now) c.args.c c.args.fingerprint.now disk c.args.kept c.args.stop c.requires.stands c.requires.stop c.arm.new.self set1
    c.in-Err.refused.why c.in-Err.refused.disk e.disk e.calls c.disarm-reached.new.self c.disarm-reached.ensures.after
    (sym c.disarm-reached.ensures.reached ∙ both.0) both.1 (c.is_stopped.ensures.lost (sym c.is_stopped.ensures.stopped ∙ c.if-is_stopped.true))
    c.power_on.new.self c.power_on.ensures.after c.arm-then-is_stopped.new.self c.arm-then-is_stopped.ensures

pub returns-else-is_cut-clause-refused : goal.returns-else-is_cut-clause-refused
returns-else-is_cut-clause-refused g c =
    let disk = c.args.disk in
    let openings = openings_of c.args.books.now in
    let print = c.args.fingerprint.now in
    let set1 = c.arm.ensures ∙ ap (λ (s : Stop). record disk { script = Some (set_by s) }) c.stop_or_never.ensures in
    let e = c.in-Err.ensures {u = tt} in
    let off = c.disarm-reached.new.self in
    let why = c.in-Err.refused.why in
    let not_cut : (c.disarm-reached.result && is_halt why) ≡ true → off.stopped ≡ false = λ cut. (elim c.else-is_cut.branch [
      | else-is_cut-via-then-is_cut+else-is_stopped w ↦ sym w.is_stopped.ensures.stopped ∙ w.if-is_stopped.false
      | else-is_cut-via-else-is_cut w ↦ never-both c.is_cut.result (c.is_cut.ensures ∙ cut) w.if-is_cut.false
    ]) in
    let P : SeatRefused → Type 0 = λ r. FailsToRecover g.D.Disk openings c.args.c print (Down disk c.args.kept) (Down off c.args.kept) r in
    subst P (sym c.load_refusal.ensures)
    (fails_up g.D.Disk g.met.D.Disk.keeping_tells openings c.args.c print disk c.args.kept c.args.stop c.requires.stands c.requires.stop c.arm.new.self set1
    why c.in-Err.refused.disk e.disk e.calls off c.disarm-reached.ensures.after c.disarm-reached.result c.disarm-reached.ensures.reached not_cut e.refused)

pub returns-in-Ok-clause-crash : goal.returns-in-Ok-clause-crash
returns-in-Ok-clause-crash g c =
    let disk = c.args.disk in
    let set1 = c.arm.ensures ∙ ap (λ (s : Stop). record disk { script = Some (set_by s) }) c.stop_or_never.ensures in
    let e = c.in-Ok.ensures {u = tt} in
    let four = c.arm-in-Ok.ensures in
    leaves_up g.D.Disk g.met.D.Disk.keeping_tells (openings_of c.args.books.now) c.args.c c.args.fingerprint.now disk c.args.kept c.args.stop c.requires.stands c.requires.stop c.arm.new.self set1
    _ c.in-Ok.seat e.step e.disk e.calls c.arm-in-Ok.new.self four.disk (four.site e.step.up) four.same e.crash

pub returns-then-is_stopped-clause-crash : goal.returns-then-is_stopped-clause-crash
returns-then-is_stopped-clause-crash g c =
    let disk = c.args.disk in
    let set1 = c.arm.ensures ∙ ap (λ (s : Stop). record disk { script = Some (set_by s) }) c.stop_or_never.ensures in
    let e = c.in-Err.ensures {u = tt} in
    let both = is_both c.disarm-reached.result c.in-Err.refused.why (sym c.is_cut.ensures ∙ c.if-is_cut.true) in
    leaves_cut g.D.Disk g.met.D.Disk.keeping_tells (openings_of c.args.books.now) c.args.c c.args.fingerprint.now disk c.args.kept c.args.stop c.requires.stands c.requires.stop c.arm.new.self set1
    c.in-Err.refused.why c.in-Err.refused.disk e.disk e.calls c.disarm-reached.new.self c.disarm-reached.ensures.after
    (sym c.disarm-reached.ensures.reached ∙ both.0) both.1 (c.is_stopped.ensures.lost (sym c.is_stopped.ensures.stopped ∙ c.if-is_stopped.true))
    c.power_on.new.self c.power_on.ensures.after c.arm-then-is_stopped.new.self c.arm-then-is_stopped.ensures e.crash

pub returns-else-is_cut-clause-crash : goal.returns-else-is_cut-clause-crash
returns-else-is_cut-clause-crash g c =
    let disk = c.args.disk in
    let set1 = c.arm.ensures ∙ ap (λ (s : Stop). record disk { script = Some (set_by s) }) c.stop_or_never.ensures in
    let e = c.in-Err.ensures {u = tt} in
    leaves_off g.D.Disk g.met.D.Disk.keeping_tells (openings_of c.args.books.now) c.args.c c.args.fingerprint.now disk c.args.kept c.args.stop c.requires.stands c.requires.stop c.arm.new.self set1
    c.in-Err.refused.why c.in-Err.refused.disk e.disk e.calls c.disarm-reached.new.self c.disarm-reached.ensures.after e.crash
