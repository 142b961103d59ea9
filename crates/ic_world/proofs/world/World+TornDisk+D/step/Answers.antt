use Rattle.std.proofs.Common.{◌≡◌, ◌+◌, refl, ℕ, true, arith, map}
use Rattle.std.specs.Prelude.{is_ok}
use Rattle.ic_node.specs.Views.{node_of}
use Rattle.ic_world.proofs.Crashes.{calls-asked, calls-none, crash-none, crash-asked, disks-asked, disks-stay}
use Rattle.ic_world.proofs.Durable.{files-durable, steps-durable}
use Rattle.ic_world.proofs.Explained.{step-explained, steps-explained, crash-sound}
use Rattle.ic_world.proofs.Made.{asked-kept}
use Rattle.ic_world.proofs.Stepped.{steps-as_acted, fails-as_acted, steps-as_answered}
use Rattle.ic_world.proofs.WorkSteps.{played-none}
use Rattle.ic_world.proofs.world.World+TornDisk+D.step.Goals as goal

pub acts-requires-clause-kept : goal.acts-requires-clause-kept
acts-requires-clause-kept g c =
    let w = c.args.self.now in
    asked-kept c.args.program.now _ _ c.args.event.now.what c.in-Asks.c _ c.requires.world.made c.requires.allowed (c.in-Asks.ensures.task (map (λ x. node_of x) w.components.items) w.shown.showings)

pub returns-in-Asks-clause-step : goal.returns-in-Asks-clause-step
returns-in-Asks-clause-step g c =
    let w = c.args.self.now in
    steps-as_acted c.args.program.now w _ c.acts.new.self c.args.event.now c.in-Asks.c c.in-Asks.work c.acts.result (c.in-Asks.ensures.task (map (λ x. node_of x) w.components.items) w.shown.showings) refl refl refl
    (w.placed c.requires.world.going) (w.logs c.requires.world.going) c.requires.world.made c.requires.allowed c.requires.stop c.acts.ensures.step

pub returns-in-Asks-clause-disks : goal.returns-in-Asks-clause-disks
returns-in-Asks-clause-disks g c =
    let w = c.args.self.now in
    disks-asked w _ c.acts.new.self c.args.event.now.what c.in-Asks.c c.in-Asks.work (c.in-Asks.ensures.task (map (λ x. node_of x) w.components.items) w.shown.showings) refl refl c.acts.ensures.others

pub returns-in-Asks-clause-crash : goal.returns-in-Asks-clause-crash
returns-in-Asks-clause-crash g c =
    let w = c.args.self.now in
    let law = g.met.D.Disk in
    crash-asked g.D.Disk law.only_now law.keeping_tells c.args.program.now w _ c.acts.new.self c.args.event.now.what c.in-Asks.c c.in-Asks.work (c.in-Asks.ensures.task (map (λ x. node_of x) w.components.items) w.shown.showings) refl
    (w.placed c.requires.world.going) c.acts.ensures.others c.acts.ensures.crash

pub returns-in-Asks-clause-refused : goal.returns-in-Asks-clause-refused
returns-in-Asks-clause-refused g c =
    let w = c.args.self.now in
    fails-as_acted g.D.Disk c.args.program.now w _ c.acts.new.self c.args.event.now c.in-Asks.c c.in-Asks.work c.acts.result (c.in-Asks.ensures.task (map (λ x. node_of x) w.components.items) w.shown.showings) refl refl refl
    (w.placed c.requires.world.going) (w.logs c.requires.world.going) c.requires.world.made c.requires.allowed c.requires.stop c.acts.ensures.refused c.acts.ensures.ends

pub returns-in-Answers-clause-step : goal.returns-in-Answers-clause-step
returns-in-Answers-clause-step g c =
    let w = c.args.self.now in
    steps-as_answered c.args.program.now w _ c.args.event.now c.in-Answers.answer c.answered.result (c.in-Answers.ensures.task (map (λ x. node_of x) w.components.items) w.shown.showings) refl refl refl refl c.requires.world.going
    (w.logs c.requires.world.going) c.requires.world.made c.requires.allowed w.plays (c.answered.ensures (map (λ x. node_of x) w.components.items) w.shown.showings)

pub returns-in-Answers-clause-crash : goal.returns-in-Answers-clause-crash
returns-in-Answers-clause-crash g c =
    let law = g.met.D.Disk in
    crash-none g.D.Disk law.only_now law.keeping_tells c.args.program.now c.args.self.now c.args.self.now c.args.event.now.what refl (c.args.self.now.placed c.requires.world.going)

no-more : (n m : ℕ) → m ≡ 0 → n ≡ n + m
no-more n m e = omega (arith, e)

pub returns-in-Answers-clause-played : goal.returns-in-Answers-clause-played
returns-in-Answers-clause-played g c = no-more c.args.steps.now _ (played-none (map (λ x. node_of x) c.args.self.now.components.items))

pub returns-in-Asks-clause-explained : goal.returns-in-Asks-clause-explained
returns-in-Asks-clause-explained g c =
    let w = c.args.self.now in
    steps-explained c.args.program.now w c.acts.new.self c.args.event.now c.requires.world.made (w.logs c.requires.world.going) c.acts.result (returns-in-Asks-clause-step g c)

pub returns-in-Asks-clause-sound : goal.returns-in-Asks-clause-sound
returns-in-Asks-clause-sound g c =
    let w = c.args.self.now in
    crash-sound c.args.program.now w c.acts.new.self c.args.event.now c.requires.world.made (returns-in-Asks-clause-disks g c) (returns-in-Asks-clause-crash g c)

pub returns-in-Answers-clause-explained : goal.returns-in-Answers-clause-explained
returns-in-Answers-clause-explained g c =
    let w = c.args.self.now in
    step-explained c.args.program.now w _ c.args.event.now c.requires.world.made (w.logs c.requires.world.going) c.answered.result (returns-in-Answers-clause-step g c)

pub returns-in-Answers-clause-sound : goal.returns-in-Answers-clause-sound
returns-in-Answers-clause-sound g c =
    let w = c.args.self.now in
    crash-sound c.args.program.now w w c.args.event.now c.requires.world.made (disks-stay w w c.args.event.now.what refl refl) (returns-in-Answers-clause-crash g c)

pub returns-in-Asks-clause-durable : goal.returns-in-Asks-clause-durable
returns-in-Asks-clause-durable g c = steps-durable c.args.program.now c.args.self.now c.acts.new.self c.args.event.now c.acts.result (returns-in-Asks-clause-step g c)

pub returns-in-Answers-clause-durable : goal.returns-in-Answers-clause-durable
returns-in-Answers-clause-durable g c = files-durable c.args.self.now c.requires.world.going

pub returns-in-Asks-clause-calls : goal.returns-in-Asks-clause-calls
returns-in-Asks-clause-calls g c =
    let w = c.args.self.now in
    calls-asked c.args.program.now w c.args.event.now c.in-Asks.c _ c.acts.new.self c.in-Asks.work (is_ok c.acts.result) (c.in-Asks.ensures.task (map (λ x. node_of x) w.components.items) w.shown.showings) refl (w.placed c.requires.world.going) c.acts.ensures.calls

pub returns-in-Answers-clause-calls : goal.returns-in-Answers-clause-calls
returns-in-Answers-clause-calls g c =
    let w = c.args.self.now in
    calls-none c.args.program.now w w _ c.args.event.now c.in-Answers.answer true (c.in-Answers.ensures.task (map (λ x. node_of x) w.components.items) w.shown.showings)
