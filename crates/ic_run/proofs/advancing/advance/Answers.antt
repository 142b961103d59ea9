use Rattle.std.proofs.Common.{◌≡◌, ◌+◌, sym, refl, ℕ, arith, map}
use Rattle.ic_run.proofs.Nexts.{none-mapped}
use Rattle.ic_run.proofs.Ready.{next-allowed, next-stop, advances-by}
use Rattle.ic_node.specs.Views.{node_of}
use Rattle.ic_settle.specs.Policies.{intervals_of}
use Rattle.ic_world.proofs.WorkSteps.{played-none}
use Rattle.ic_run.proofs.advancing.advance.Goals as goal

pub returns-in_default-clause-step : goal.returns-in_default-clause-step
returns-in_default-clause-step g c = (none-mapped _ c.in_default.ensures, refl)

no-more : (n m : ℕ) → m ≡ 0 → n ≡ n + m
no-more n m e = omega (arith, e)

pub returns-in_default-clause-played : goal.returns-in_default-clause-played
returns-in_default-clause-played g c = no-more c.args.steps.now _ (played-none (map (λ x. node_of x) c.args.world.now.components.items))

pub step-requires-clause-allowed : goal.step-requires-clause-allowed
step-requires-clause-allowed g c = next-allowed c.args.program.now c.args.world.now (intervals_of c.args.policy.now) c.args.agenda.now c.in-Some.coming c.requires.world.made c.requires.ready (sym c.in-Some.ensures)

pub step-requires-clause-stop : goal.step-requires-clause-stop
step-requires-clause-stop g c = next-stop c.args.program.now c.args.world.now (intervals_of c.args.policy.now) c.args.agenda.now c.in-Some.coming c.requires.world.made c.requires.ready (sym c.in-Some.ensures)

pub returns-in-Ok-clause-step : goal.returns-in-Ok-clause-step
returns-in-Ok-clause-step g c =
    advances-by c.args.program.now c.args.world.now (intervals_of c.args.policy.now) c.args.agenda.now c.in-Some.coming c.requires.world.made c.requires.ready (sym c.in-Some.ensures)
    _ c.step.new.self c.in-Ok.trace c.in-Ok.ensures.step (c.step.new.self.counted c.in-Ok.ensures.step.going) refl refl c.asked_of-agenda.ensures c.step.ensures.disks c.step.ensures.crash

pub returns-in-Err-clause-refused : goal.returns-in-Err-clause-refused
returns-in-Err-clause-refused g c = record {
  event = c.in-Some.coming.event;
  left = c.in-Some.coming.left.now;
  next = sym c.in-Some.ensures;
  fails = c.in-Err.ensures.refused;
  disks = c.step.ensures.disks;
  crash = c.step.ensures.crash;
}
