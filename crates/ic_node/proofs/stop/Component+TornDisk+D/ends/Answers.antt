use Rattle.std.proofs.Common.{◌∙◌, sym, ap, refl, subst, Some, None}
use Rattle.std.specs.Prelude.{Ok, Err}
use Rattle.std.proofs.Math.Logic.{∥∥₁_map}
use Rattle.ic_disk.specs.Armings.{set_by}
use Rattle.ic_node.specs.Calling.{call_of}
use Rattle.ic_node.specs.DeviceCalls.{is_done}
use Rattle.ic_node.specs.Doing.{Does, would_force}
use Rattle.ic_node.specs.Steps.{idle_answer, with_script}
use Rattle.ic_disk.specs.Torns.{or_never, torn}
use Rattle.ic_node.specs.Views.{node_of, disk_of, com_of}
use Rattle.ic_node.specs.declared.done.Ended.TheVariants.{Done}
use Rattle.ic_node.proofs.Arms.{stop_set, same_twice, set_twice, cut_counts, step_keeps, step_crash, step_counts, step_open, step_which, step_stands, step_begun, step_fit, step_done, step_cut, step_fails, step_makes}
use Rattle.ic_node.proofs.Cuts.{kept_self}
use Rattle.ic_node.proofs.Resting.{rests}
use Rattle.ic_node.proofs.Steps.{live_here}
use Rattle.ic_node.proofs.Ups.{none_of}
use Rattle.ic_node.proofs.Stills.{idle_does, idle_calls, idle_played}
use Rattle.ic_node.proofs.DeviceCalls.{not_done, cut_by_stop, idle_ends}
use Rattle.ic_node.proofs.stop.Component+TornDisk+D.ends.Goals as goal

pub returns-in-Some-clause-step : goal.returns-in-Some-clause-step
returns-in-Some-clause-step g c =
    let x = c.args.self.now in
    subst (λ d. Does c.args.program.now x c.args.stop c.args.number c.args.call.now x d) (sym c.just.ensures)
    (idle_does g.D.Disk c.args.program.now x c.args.stop c.args.number c.args.call.now c.in-Some.answer c.requires.ready.allowed c.requires.ready.going (sym (c.idle_answer.ensures x.kept) ∙ c.in-Some.is))

pub returns-in-Some-clause-disk : goal.returns-in-Some-clause-disk
returns-in-Some-clause-disk g c =
    kept_self (torn g.D.Disk) (disk_of c.args.self.now)

pub returns-in-Some-clause-crash : goal.returns-in-Some-clause-crash
returns-in-Some-clause-crash g c =
    let x = c.args.self.now in
    let law = g.met.D.Disk in
    rests g.D.Disk law.only_now law.keeping_tells x.node x.kept (would_force c.args.program.now x c.args.number c.args.call.now) (x.durable c.requires.ready.going) (x.whole c.requires.ready.going) (x.on_disk c.requires.ready.going)

pub returns-in-Some-clause-played : goal.returns-in-Some-clause-played
returns-in-Some-clause-played g c =
    idle_played (node_of c.args.self.now) c.args.steps.now

pub step-made-requires-clause-live : goal.step-made-requires-clause-live
step-made-requires-clause-live g c =
    let x = c.args.self.now in
    let busy = sym (c.idle_answer.ensures x.kept) ∙ none_of c.idle_answer.result c.in_default.not-Some in
    c.arm.ensures.same.live ∙ live_here x.node x.kept c.args.number (call_of c.args.call.now) (x.opened c.requires.ready.going) busy

pub step-made-requires-clause-busy : goal.step-made-requires-clause-busy
step-made-requires-clause-busy g c =
    λ kept. ap (λ k. idle_answer k c.args.number (call_of c.args.call.now)) (c.arm.ensures.same.same kept) ∙ sym (c.idle_answer.ensures kept) ∙ none_of c.idle_answer.result c.in_default.not-Some

pub step-made-requires-clause-fit : goal.step-made-requires-clause-fit
step-made-requires-clause-fit g c =
    ∥∥₁_map (c.args.self.now.writable c.requires.ready.going) c.arm.ensures.same.fit

pub returns-in-Ok-clause-step : goal.returns-in-Ok-clause-step
returns-in-Ok-clause-step g c =
    let x = c.args.self.now in
    let busy = sym (c.idle_answer.ensures x.kept) ∙ none_of c.idle_answer.result c.in_default.not-Some in
    let set = stop_set (disk_of x) _ _ _ c.stop_or_never.ensures c.arm.ensures.disk in
    let e = c.in-Ok.ensures {u = tt} in
    let unset = c.arm-in-Ok.ensures.disk ∙ ap (λ o. with_script (Some (set_by (or_never None))) o) c.disarm-reached.ensures.disk ∙ set_twice (Some (set_by (or_never None))) None _ in
    let same = same_twice _ _ _ c.disarm-reached.ensures.same c.arm-in-Ok.ensures.same in
    step_done g.D.Disk c.args.program.now x c.requires.ready.going c.args.number c.args.call.now c.args.stop busy c.arm.new.self set c.arm.ensures.same c.step-made.new.self (Ok c.in-Ok.done) e.step c.arm-in-Ok.new.self (Some (set_by (or_never None))) unset same c.in-Ok.done refl refl c.requires.ready.allowed e.live _ refl refl refl c.requires.ready.going

pub returns-in-Ok-clause-disk : goal.returns-in-Ok-clause-disk
returns-in-Ok-clause-disk g c =
    let x = c.args.self.now in
    let busy = sym (c.idle_answer.ensures x.kept) ∙ none_of c.idle_answer.result c.in_default.not-Some in
    let set = stop_set (disk_of x) _ _ _ c.stop_or_never.ensures c.arm.ensures.disk in
    let e = c.in-Ok.ensures {u = tt} in
    let unset = c.arm-in-Ok.ensures.disk ∙ ap (λ o. with_script (Some (set_by (or_never None))) o) c.disarm-reached.ensures.disk ∙ set_twice (Some (set_by (or_never None))) None _ in
    let same = same_twice _ _ _ c.disarm-reached.ensures.same c.arm-in-Ok.ensures.same in
    step_keeps g.D.Disk c.args.program.now x c.requires.ready.going c.args.number c.args.call.now c.args.stop busy c.arm.new.self set c.arm.ensures.same c.step-made.new.self (Ok c.in-Ok.done) e.step c.arm-in-Ok.new.self (Some (set_by (or_never None))) unset same

pub returns-in-Ok-clause-crash : goal.returns-in-Ok-clause-crash
returns-in-Ok-clause-crash g c =
    let x = c.args.self.now in
    let busy = sym (c.idle_answer.ensures x.kept) ∙ none_of c.idle_answer.result c.in_default.not-Some in
    let set = stop_set (disk_of x) _ _ _ c.stop_or_never.ensures c.arm.ensures.disk in
    let e = c.in-Ok.ensures {u = tt} in
    let unset = c.arm-in-Ok.ensures.disk ∙ ap (λ o. with_script (Some (set_by (or_never None))) o) c.disarm-reached.ensures.disk ∙ set_twice (Some (set_by (or_never None))) None _ in
    let same = same_twice _ _ _ c.disarm-reached.ensures.same c.arm-in-Ok.ensures.same in
    step_crash g.D.Disk c.args.program.now x c.requires.ready.going c.args.number c.args.call.now c.args.stop busy c.arm.new.self set c.arm.ensures.same c.step-made.new.self (Ok c.in-Ok.done) e.step c.arm-in-Ok.new.self (Some (set_by (or_never None))) unset same

pub returns-in-Ok-clause-played : goal.returns-in-Ok-clause-played
returns-in-Ok-clause-played g c =
    let x = c.args.self.now in
    let busy = sym (c.idle_answer.ensures x.kept) ∙ none_of c.idle_answer.result c.in_default.not-Some in
    let set = stop_set (disk_of x) _ _ _ c.stop_or_never.ensures c.arm.ensures.disk in
    let e = c.in-Ok.ensures {u = tt} in
    let unset = c.arm-in-Ok.ensures.disk ∙ ap (λ o. with_script (Some (set_by (or_never None))) o) c.disarm-reached.ensures.disk ∙ set_twice (Some (set_by (or_never None))) None _ in
    let same = same_twice _ _ _ c.disarm-reached.ensures.same c.arm-in-Ok.ensures.same in
    step_counts g.D.Disk c.args.program.now x c.requires.ready.going c.args.number c.args.call.now c.args.stop busy c.arm.new.self set c.arm.ensures.same c.step-made.new.self (Ok c.in-Ok.done) e.step c.arm-in-Ok.new.self (Some (set_by (or_never None))) unset same _ _ (e.steps x.kept)

pub invariant_of-self : goal.invariant_of-self
invariant_of-self g c =
    let x = c.args.self.now in
    let busy = sym (c.idle_answer.ensures x.kept) ∙ none_of c.idle_answer.result c.in_default.not-Some in
    let set = stop_set (disk_of x) _ _ _ c.stop_or_never.ensures c.arm.ensures.disk in
    let e = c.in-Ok.ensures {u = tt} in
    let unset = c.arm-in-Ok.ensures.disk ∙ ap (λ o. with_script (Some (set_by (or_never None))) o) c.disarm-reached.ensures.disk ∙ set_twice (Some (set_by (or_never None))) None _ in
    let same = same_twice _ _ _ c.disarm-reached.ensures.same c.arm-in-Ok.ensures.same in
    let st = step_stands g.D.Disk c.args.program.now x c.requires.ready.going c.args.number c.args.call.now c.args.stop busy c.arm.new.self set c.arm.ensures.same c.step-made.new.self (Ok c.in-Ok.done) e.step c.arm-in-Ok.new.self (Some (set_by (or_never None))) unset same c.in-Ok.done refl refl c.requires.ready.allowed e.live in
    record {
      opened = λ over. step_open g.D.Disk c.args.program.now x c.requires.ready.going c.args.number c.args.call.now c.args.stop busy c.arm.new.self set c.arm.ensures.same c.step-made.new.self (Ok c.in-Ok.done) e.step c.arm-in-Ok.new.self (Some (set_by (or_never None))) unset same c.in-Ok.done refl refl c.requires.ready.allowed e.live;
      which = λ over. step_which g.D.Disk c.args.program.now x c.requires.ready.going c.args.number c.args.call.now c.args.stop busy c.arm.new.self set c.arm.ensures.same c.step-made.new.self (Ok c.in-Ok.done) e.step c.arm-in-Ok.new.self (Some (set_by (or_never None))) unset same c.in-Ok.done refl refl c.requires.ready.allowed e.live;
      working = λ over. st.working;
      on_disk = λ over. st.on_disk;
      whole = λ over. st.whole;
      owned = λ over. st.owned;
      durable = λ over. st.durable;
      settled = λ over. st.settled;
      begun = λ over. step_begun g.D.Disk c.args.program.now x c.requires.ready.going c.args.number c.args.call.now c.args.stop busy c.arm.new.self set c.arm.ensures.same c.step-made.new.self (Ok c.in-Ok.done) e.step c.arm-in-Ok.new.self (Some (set_by (or_never None))) unset same c.in-Ok.done refl refl c.requires.ready.allowed e.live;
      writable = λ over. step_fit g.D.Disk c.args.program.now x c.requires.ready.going c.args.number c.args.call.now c.args.stop busy c.arm.new.self set c.arm.ensures.same c.step-made.new.self (Ok c.in-Ok.done) e.step c.arm-in-Ok.new.self (Some (set_by (or_never None))) unset same c.in-Ok.done refl refl c.requires.ready.allowed e.live;
    }

pub returns-in-Err-clause-step : goal.returns-in-Err-clause-step
returns-in-Err-clause-step g c =
    let x = c.args.self.now in
    let busy = sym (c.idle_answer.ensures x.kept) ∙ none_of c.idle_answer.result c.in_default.not-Some in
    let set = stop_set (disk_of x) _ _ _ c.stop_or_never.ensures c.arm.ensures.disk in
    let e = c.in-Err.ensures {u = tt} in
    step_cut g.D.Disk c.args.program.now x c.requires.ready.going c.args.number c.args.call.now c.args.stop busy c.arm.new.self set c.arm.ensures.same c.step-made.new.self (Err c.in-Err.why) e.step c.disarm-reached.new.self None c.disarm-reached.ensures.disk c.disarm-reached.ensures.same c.in-Err.why refl refl c.disarm-reached.result c.disarm-reached.ensures.reached _ refl refl refl c.refused.result c.refused.ensures

pub returns-in-Err-clause-refused : goal.returns-in-Err-clause-refused
returns-in-Err-clause-refused g c =
    let x = c.args.self.now in
    let busy = sym (c.idle_answer.ensures x.kept) ∙ none_of c.idle_answer.result c.in_default.not-Some in
    let set = stop_set (disk_of x) _ _ _ c.stop_or_never.ensures c.arm.ensures.disk in
    let e = c.in-Err.ensures {u = tt} in
    step_fails g.D.Disk c.args.program.now x c.requires.ready.going c.args.number c.args.call.now c.args.stop busy c.arm.new.self set c.arm.ensures.same c.step-made.new.self (Err c.in-Err.why) e.step c.disarm-reached.new.self None c.disarm-reached.ensures.disk c.disarm-reached.ensures.same c.in-Err.why refl refl c.disarm-reached.result c.disarm-reached.ensures.reached _ refl refl refl c.args.fingerprint.now c.refused.result c.refused.ensures

pub returns-in-Err-clause-disk : goal.returns-in-Err-clause-disk
returns-in-Err-clause-disk g c =
    let x = c.args.self.now in
    let busy = sym (c.idle_answer.ensures x.kept) ∙ none_of c.idle_answer.result c.in_default.not-Some in
    let set = stop_set (disk_of x) _ _ _ c.stop_or_never.ensures c.arm.ensures.disk in
    let e = c.in-Err.ensures {u = tt} in
    step_keeps g.D.Disk c.args.program.now x c.requires.ready.going c.args.number c.args.call.now c.args.stop busy c.arm.new.self set c.arm.ensures.same c.step-made.new.self (Err c.in-Err.why) e.step c.disarm-reached.new.self None c.disarm-reached.ensures.disk c.disarm-reached.ensures.same

pub returns-in-Err-clause-crash : goal.returns-in-Err-clause-crash
returns-in-Err-clause-crash g c =
    let x = c.args.self.now in
    let busy = sym (c.idle_answer.ensures x.kept) ∙ none_of c.idle_answer.result c.in_default.not-Some in
    let set = stop_set (disk_of x) _ _ _ c.stop_or_never.ensures c.arm.ensures.disk in
    let e = c.in-Err.ensures {u = tt} in
    step_crash g.D.Disk c.args.program.now x c.requires.ready.going c.args.number c.args.call.now c.args.stop busy c.arm.new.self set c.arm.ensures.same c.step-made.new.self (Err c.in-Err.why) e.step c.disarm-reached.new.self None c.disarm-reached.ensures.disk c.disarm-reached.ensures.same

pub returns-in-Err-clause-played : goal.returns-in-Err-clause-played
returns-in-Err-clause-played g c =
    let x = c.args.self.now in
    let busy = sym (c.idle_answer.ensures x.kept) ∙ none_of c.idle_answer.result c.in_default.not-Some in
    let set = stop_set (disk_of x) _ _ _ c.stop_or_never.ensures c.arm.ensures.disk in
    let e = c.in-Err.ensures {u = tt} in
    cut_counts c.in-Err.why c.disarm-reached.result c.args.steps.now c.step-made.new.steps (node_of x) _ c.refused.result c.refused.ensures (step_counts g.D.Disk c.args.program.now x c.requires.ready.going c.args.number c.args.call.now c.args.stop busy c.arm.new.self set c.arm.ensures.same c.step-made.new.self (Err c.in-Err.why) e.step c.disarm-reached.new.self None c.disarm-reached.ensures.disk c.disarm-reached.ensures.same _ _ (e.steps x.kept))

pub invariant_of-self-in-Err : goal.invariant_of-self-in-Err
invariant_of-self-in-Err g c =
    record {
      opened = λ over. absurd (cc);
      which = λ over. absurd (cc);
      working = λ over. absurd (cc);
      on_disk = λ over. absurd (cc);
      whole = λ over. absurd (cc);
      owned = λ over. absurd (cc);
      durable = λ over. absurd (cc);
      settled = λ over. absurd (cc);
      begun = λ over. absurd (cc);
      writable = λ over. absurd (cc);
    }

pub returns-in-Some-clause-calls : goal.returns-in-Some-clause-calls
returns-in-Some-clause-calls g c =
    let x = c.args.self.now in
    idle_ends c.args.program.now x c.args.stop c.args.number c.args.call.now c.just.result
    (λ free. idle_calls c.args.program.now (com_of x) (node_of x) c.args.number (call_of c.args.call.now) c.in-Some.answer free (sym (c.idle_answer.ensures x.kept) ∙ c.in-Some.is))

pub returns-in-Ok-clause-calls : goal.returns-in-Ok-clause-calls
returns-in-Ok-clause-calls g c =
    let x = c.args.self.now in
    let busy = sym (c.idle_answer.ensures x.kept) ∙ none_of c.idle_answer.result c.in_default.not-Some in
    let set = stop_set (disk_of x) _ _ _ c.stop_or_never.ensures c.arm.ensures.disk in
    let e = c.in-Ok.ensures {u = tt} in
    let unset = c.arm-in-Ok.ensures.disk ∙ ap (λ o. with_script (Some (set_by (or_never None))) o) c.disarm-reached.ensures.disk ∙ set_twice (Some (set_by (or_never None))) None _ in
    let same = same_twice _ _ _ c.disarm-reached.ensures.same c.arm-in-Ok.ensures.same in
    step_makes g.D.Disk c.args.program.now x c.requires.ready.going c.args.number c.args.call.now c.args.stop busy c.arm.new.self set c.arm.ensures.same c.step-made.new.self (Ok c.in-Ok.done) e.step c.arm-in-Ok.new.self (Some (set_by (or_never None))) unset same _ refl (Ok (Done c.in-Ok.done)) (λ is. is) (λ is. cc)

pub returns-in-Err-clause-calls : goal.returns-in-Err-clause-calls
returns-in-Err-clause-calls g c =
    let x = c.args.self.now in
    let busy = sym (c.idle_answer.ensures x.kept) ∙ none_of c.idle_answer.result c.in_default.not-Some in
    let set = stop_set (disk_of x) _ _ _ c.stop_or_never.ensures c.arm.ensures.disk in
    let e = c.in-Err.ensures {u = tt} in
    let is = c.refused.ensures in
    step_makes g.D.Disk c.args.program.now x c.requires.ready.going c.args.number c.args.call.now c.args.stop busy c.arm.new.self set c.arm.ensures.same c.step-made.new.self (Err c.in-Err.why) e.step c.disarm-reached.new.self None c.disarm-reached.ensures.disk c.disarm-reached.ensures.same _ refl c.refused.result
    (λ done. sym (not_done c.in-Err.why c.disarm-reached.result) ∙ ap is_done (sym is) ∙ done)
    (λ cut. let both = cut_by_stop c.in-Err.why c.disarm-reached.result (sym is ∙ cut) in (ap (λ w. Err w) both.0, sym c.disarm-reached.ensures.reached ∙ both.1))
