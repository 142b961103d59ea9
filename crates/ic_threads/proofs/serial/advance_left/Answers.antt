use Rattle.std.proofs.Common.{◌≡◌, ◌∙◌, sym, refl, subst, arith, true, false, []}
use Rattle.ic_run.specs.Advancing as plain
use Rattle.ic_settle.specs.Policies.{intervals_of}
use Rattle.ic_world.specs.Views.{world_of}
use Rattle.ic_world.specs.declared.world.World.{World}
use Rattle.ic_run.proofs.Runs.{advanced}
use Rattle.ic_threads.specs.Serial.{is_input_first}
use Rattle.ic_threads.proofs.Leading.{next-plain, nothing-first, nothing-done, plain-advances, settles-advances, plain-fails, settles-fails, ok-maps, err-maps, still-on}
use Rattle.ic_threads.proofs.serial.advance_left.Goals as goal

pub returns-then-not-is_input_next-clause-step : goal.returns-then-not-is_input_next-clause-step
returns-then-not-is_input_next-clause-step g c =
    let law = g.met.D.Disk in
    let w = c.args.world.now in
    let x = intervals_of c.args.policy.now in
    let other : is_input_first c.args.agenda.now.left.now ≡ false = sym c.is_input_next.ensures ∙ c.if-not-is_input_next.true in
    ok-maps c.advance.result c.advance.ensures.step
    (λ o a. plain-advances g.D.Disk law.only_now law.keeping_tells c.args.program.now x w c.advance.new.world c.requires.world.made c.requires.world.going (w.placed c.requires.world.going) (omega (arith, w.plays)) c.args.agenda.now c.advance.new.agenda o (next-plain (world_of w) x c.args.agenda.now other) a)

pub returns-then-not-is_input_next-clause-refused : goal.returns-then-not-is_input_next-clause-refused
returns-then-not-is_input_next-clause-refused g c =
    let w = c.args.world.now in
    let x = intervals_of c.args.policy.now in
    let other : is_input_first c.args.agenda.now.left.now ≡ false = sym c.is_input_next.ensures ∙ c.if-not-is_input_next.true in
    err-maps c.advance.result c.advance.ensures.refused (λ why f. plain-fails g.D.Disk c.args.program.now x w c.advance.new.world c.args.agenda.now why (next-plain (world_of w) x c.args.agenda.now other) f)

pub returns-then-not-is_input_next-clause-settles : goal.returns-then-not-is_input_next-clause-settles
returns-then-not-is_input_next-clause-settles g c =
    ok-maps c.advance.result c.advance.ensures.step (λ o a. still-on c.args.program.now (intervals_of c.args.policy.now) c.args.agenda.now c.advance.new.agenda c.args.world.now c.advance.new.world o c.requires.settles a)

pub returns-in-Ok-Some-clause-step : goal.returns-in-Ok-Some-clause-step
returns-in-Ok-Some-clause-step g c =
    let law = g.met.D.Disk in
    let w = c.args.world.now in
    let x = intervals_of c.args.policy.now in
    let input : is_input_first c.args.agenda.now.left.now ≡ true = sym c.is_input_next.ensures ∙ c.if-not-is_input_next.false in
    settles-advances g.D.Disk law.only_now law.keeping_tells c.args.program.now x w c.advance-2.new.world c.requires.world.made c.requires.world.going (w.placed c.requires.world.going) (omega (arith, w.plays)) c.args.agenda.now _ c.advance-2.new.agenda _ c.in-Ok-Some.trace
    input refl refl refl refl refl refl c.requires.ready (advanced _ c.in-Ok-Some.trace c.in-Ok-Some.field-0-is c.in-Ok-Some.ensures.step)

pub returns-in-Ok-None-clause-step : goal.returns-in-Ok-None-clause-step
returns-in-Ok-None-clause-step g c =
    let law = g.met.D.Disk in
    let w = c.args.world.now in
    let x = intervals_of c.args.policy.now in
    let input : is_input_first c.args.agenda.now.left.now ≡ true = sym c.is_input_next.ensures ∙ c.if-not-is_input_next.false in
    let none = nothing-done c.args.program.now x (record { left = record { ref_ptr = (c.settling-1.given.0, 0); now = [] }; halts = false; last = c.args.agenda.now.last }) c.advance-2.new.agenda w c.advance-2.new.world _ c.in-Ok-None.field-0-is c.in-Ok-None.ensures.step in
    let same = nothing-first (world_of w) x c.args.agenda.now (record { left = record { ref_ptr = (c.settling-1.given.0, 0); now = [] }; halts = false; last = c.args.agenda.now.last }) input refl refl refl none.0 in
    let a = c.args.agenda.now in
    ok-maps c.advance-in-Ok-None.result c.advance-in-Ok-None.ensures.step
    (λ o f. plain-advances g.D.Disk law.only_now law.keeping_tells c.args.program.now x w c.advance-in-Ok-None.new.world c.requires.world.made c.requires.world.going (w.placed c.requires.world.going) (omega (arith, w.plays)) a c.advance-in-Ok-None.new.agenda o same
    (subst (λ (z : World _ _). plain.Advances c.args.program.now x a c.advance-in-Ok-None.new.agenda z c.advance-in-Ok-None.new.world o) none.1 f))

pub returns-in-Ok-None-clause-refused : goal.returns-in-Ok-None-clause-refused
returns-in-Ok-None-clause-refused g c =
    let w = c.args.world.now in
    let x = intervals_of c.args.policy.now in
    let input : is_input_first c.args.agenda.now.left.now ≡ true = sym c.is_input_next.ensures ∙ c.if-not-is_input_next.false in
    let none = nothing-done c.args.program.now x (record { left = record { ref_ptr = (c.settling-1.given.0, 0); now = [] }; halts = false; last = c.args.agenda.now.last }) c.advance-2.new.agenda w c.advance-2.new.world _ c.in-Ok-None.field-0-is c.in-Ok-None.ensures.step in
    let same = nothing-first (world_of w) x c.args.agenda.now (record { left = record { ref_ptr = (c.settling-1.given.0, 0); now = [] }; halts = false; last = c.args.agenda.now.last }) input refl refl refl none.0 in
    let a = c.args.agenda.now in
    err-maps c.advance-in-Ok-None.result c.advance-in-Ok-None.ensures.refused
    (λ why f. plain-fails g.D.Disk c.args.program.now x w c.advance-in-Ok-None.new.world a why same
    (subst (λ (z : World _ _). plain.FailsToAdvance g.D.Disk c.args.program.now x a z c.advance-in-Ok-None.new.world why) none.1 f))

pub returns-in-Ok-None-clause-settles : goal.returns-in-Ok-None-clause-settles
returns-in-Ok-None-clause-settles g c =
    ok-maps c.advance-in-Ok-None.result c.advance-in-Ok-None.ensures.step (λ o a. still-on c.args.program.now (intervals_of c.args.policy.now) c.args.agenda.now c.advance-in-Ok-None.new.agenda c.advance-2.new.world c.advance-in-Ok-None.new.world o c.requires.settles a)

pub returns-in-Err-clause-refused : goal.returns-in-Err-clause-refused
returns-in-Err-clause-refused g c =
    let input : is_input_first c.args.agenda.now.left.now ≡ true = sym c.is_input_next.ensures ∙ c.if-not-is_input_next.false in
    settles-fails g.D.Disk c.args.program.now (intervals_of c.args.policy.now) c.args.world.now c.advance-2.new.world c.args.agenda.now _ c.in-Err.why input refl refl refl c.in-Err.ensures.refused
