use Rattle.std.proofs.Common.{◌≡◌, ◌+◌, sym, subst, refl, ℕ, true, arith, map}
use Rattle.ic_base.specs.declared.events.Event.{Event}
use Rattle.def_step.specs.Settle.{settling_event}
use Rattle.ic_node.specs.Doing.{IsAllowed}
use Rattle.ic_node.specs.Views.{node_of}
use Rattle.ic_settle.specs.Policies.{intervals_of}
use Rattle.ic_world.specs.Allowing.{is_allowed}
use Rattle.ic_world.specs.Stepping.{Steps, CrashLeavesLogs, FailsToStep}
use Rattle.ic_world.specs.Views.{world_of}
use Rattle.ic_world.proofs.WorkSteps.{played-none}
use Rattle.ic_settle.proofs.Allowed.{none-mapped, event-is, same-event, settling-allowed, settling-lowers}
use Rattle.ic_settle.proofs.settling.settle.Goals as goal

pub returns-in_default-clause-step : goal.returns-in_default-clause-step
returns-in_default-clause-step g c = (none-mapped (settling_event (world_of c.args.world.now) (intervals_of c.args.policy.now) c.args.last) c.in_default.ensures, refl)

no-more : (n m : ℕ) → m ≡ 0 → n ≡ n + m
no-more n m e = omega (arith, e)

pub returns-in_default-clause-played : goal.returns-in_default-clause-played
returns-in_default-clause-played g c = no-more c.args.steps.now _ (played-none (map (λ x. node_of x) c.args.world.now.components.items))

pub step-requires-clause-allowed : goal.step-requires-clause-allowed
step-requires-clause-allowed g c =
    let w = world_of c.args.world.now in
    let x = intervals_of c.args.policy.now in
    let m = event-is (settling_event w x c.args.last) c.in-Some.event c.in-Some.ensures in
    let P : Event → Type 0 = λ e. is_allowed c.args.program.now e.what ≡ true in
    subst P (sym m.2) (settling-allowed c.args.program.now w c.requires.world.made x c.args.last m.0 m.1)

pub step-requires-clause-stop : goal.step-requires-clause-stop
step-requires-clause-stop g c =
    let m = event-is (settling_event (world_of c.args.world.now) (intervals_of c.args.policy.now) c.args.last) c.in-Some.event c.in-Some.ensures in
    let P : Event → Type 0 = λ e. IsAllowed e.stop in
    subst P (sym m.2) tt

pub returns-in-Ok-clause-step : goal.returns-in-Ok-clause-step
returns-in-Ok-clause-step g c =
    let w = world_of c.args.world.now in
    let x = intervals_of c.args.policy.now in
    let m = event-is (settling_event w x c.args.last) c.in-Some.event c.in-Some.ensures in
    let P : Event → Type 0 = λ e. Steps c.args.program.now c.args.world.now e c.step.new.self c.in-Ok.trace in
    let steps = subst P m.2 c.in-Ok.ensures.step in
    record {
      what = m.0;
      is = m.1;
      steps = steps;
      lowers = settling-lowers c.args.program.now w c.requires.world.made x c.args.last m.0 m.1 steps.outcome _ steps.happens (c.step.new.self.counted steps.going);
    }

pub returns-in-Ok-clause-crash : goal.returns-in-Ok-clause-crash
returns-in-Ok-clause-crash g c = λ what is.
    let same = same-event (settling_event (world_of c.args.world.now) (intervals_of c.args.policy.now) c.args.last) c.in-Some.event what c.in-Some.ensures is in
    let P : Event → Type 0 = λ e. CrashLeavesLogs c.args.program.now c.args.world.now e.what c.step.new.self in
    subst P same c.step.ensures.crash

pub returns-in-Err-clause-crash : goal.returns-in-Err-clause-crash
returns-in-Err-clause-crash g c = λ what is.
    let same = same-event (settling_event (world_of c.args.world.now) (intervals_of c.args.policy.now) c.args.last) c.in-Some.event what c.in-Some.ensures is in
    let P : Event → Type 0 = λ e. CrashLeavesLogs c.args.program.now c.args.world.now e.what c.step.new.self in
    subst P same c.step.ensures.crash

pub returns-in-Err-clause-refused : goal.returns-in-Err-clause-refused
returns-in-Err-clause-refused g c = λ what is.
    let same = same-event (settling_event (world_of c.args.world.now) (intervals_of c.args.policy.now) c.args.last) c.in-Some.event what c.in-Some.ensures is in
    let P : Event → Type 0 = λ e. FailsToStep g.D.Disk c.args.program.now c.args.world.now e c.step.new.self c.in-Err.why in
    subst P same c.in-Err.ensures.refused
