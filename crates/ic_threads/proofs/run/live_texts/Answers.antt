use Rattle.std.proofs.Common.{◌∙◌, sym, ap, subst, refl, arith, ◌≤◌, ◌+◌, length, option_map, inl}
use Rattle.ic_run.proofs.Places.{lent_count, all_count}
use Rattle.ic_run.proofs.Programs.{enough_back}
use Rattle.std.specs.Prelude.{Result}
use Rattle.ic_report.specs.declared.ending.Why.{Why}
use Rattle.ic_threads.specs.Runs.{IsToldBy}
use Rattle.ic_world.specs.Opening.{disks_in}
use Rattle.ic_threads.proofs.Back.{counted-back, handed-back}
use Rattle.ic_threads.proofs.Completing.{completes}
use Rattle.ic_threads.proofs.Lived.{on-some, lives-as}
use Rattle.ic_threads.proofs.run.live_texts.Goals as goal

pub live_over-back-requires-clause-disks : goal.live_over-back-requires-clause-disks
live_over-back-requires-clause-disks g c κs within =
    ap length (c.in-Ok.ensures {u = tt}).taken ∙ lent_count c.args.texts.now.program.components c.args.disks.now.items (omega (arith, c.requires.may.fit.bytes.components, c.requires.disks))

pub returns-in_default-clause-lives : goal.returns-in_default-clause-lives
returns-in_default-clause-lives g c = inl (refl, (c.in_default.ensures {u = tt}).kept, refl)

pub returns-in_default-clause-disks : goal.returns-in_default-clause-disks
returns-in_default-clause-disks g c = inl refl

pub hand_back-requires-clause-enough : goal.hand_back-requires-clause-enough
hand_back-requires-clause-enough g c =
    on-some c.live_over-back.result.0 c.live_over-back.ensures.count
    (λ v n. subst (λ m. length c.args.texts.now.program.components ≤ m + length v.items) (sym (ap length (c.in-Ok.ensures {u = tt}).left))
    (enough_back c.args.texts.now.program c.args.disks.now.items v.items (omega (arith, c.requires.may.fit.bytes.components, c.requires.disks)) n))

pub hand_back-requires-clause-room : goal.hand_back-requires-clause-room
hand_back-requires-clause-room g c =
    let few : length c.args.texts.now.program.components ≤ length c.args.disks.now.items = omega (arith, c.requires.may.fit.bytes.components, c.requires.disks) in
    on-some c.live_over-back.result.0 c.live_over-back.ensures.count
    (λ v n. omega (
      arith,
      n,
      ap length (c.in-Ok.ensures {u = tt}).left,
      all_count c.args.texts.now.program.components c.args.disks.now.items few,
      lent_count c.args.texts.now.program.components c.args.disks.now.items few,
      (c.in-Ok.ensures {u = tt}).room,
      c.args.disks.now.ok.0,
      c.args.disks.now.ok.1,
      c.take_disks.new.disks.ok.0,
      v.ok.0,
    ))

pub returns-in-Ok-ended-clause-lives : goal.returns-in-Ok-ended-clause-lives
returns-in-Ok-ended-clause-lives g c =
    lives-as g.D.Disk g.K.Sink c.args.texts.now c.args.disks.now.items c.in-Ok.taken.items c.take_disks.new.disks.items c.hand_back.new.disks.items (option_map (λ v. v.items) c.live_over-back.result.0) c.args.out.now c.live_over-back.new.out c.live_over-back.new.out c.live_over-back.result.1 0 (c.in-Ok.ensures {u = tt}).taken (c.in-Ok.ensures {u = tt}).left c.live_over-back.ensures.lives c.hand_back.ensures
    (subst (λ (z : Result Unit Why). IsToldBy g.D.Disk g.K.Sink c.args.texts.now z c.live_over-back.new.out c.live_over-back.new.out 0) (sym c.in-Ok-ended.is) (refl, refl))

pub returns-in-Ok-ended-clause-disks : goal.returns-in-Ok-ended-clause-disks
returns-in-Ok-ended-clause-disks g c =
    handed-back g.D.Disk c.args.texts.now g.K.Sink c.args.out.now c.live_over-back.new.out c.live_over-back.new.out 0 c.args.disks.now.items c.in-Ok.taken.items c.take_disks.new.disks.items c.hand_back.new.disks.items (option_map (λ v. v.items) c.live_over-back.result.0) c.live_over-back.result.1
    (omega (arith, c.requires.may.fit.bytes.components, c.requires.disks)) (c.in-Ok.ensures {u = tt}).left c.hand_back.ensures (counted-back (disks_in c.args.texts.now.program.components) c.live_over-back.result.0 (λ v. v.items) c.live_over-back.ensures.count) c.live_over-back.ensures.lives
    (subst (λ (z : Result Unit Why). IsToldBy g.D.Disk g.K.Sink c.args.texts.now z c.live_over-back.new.out c.live_over-back.new.out 0) (sym c.in-Ok-ended.is) (refl, refl))

pub returns-in-Err-clause-lives : goal.returns-in-Err-clause-lives
returns-in-Err-clause-lives g c =
    lives-as g.D.Disk g.K.Sink c.args.texts.now c.args.disks.now.items c.in-Ok.taken.items c.take_disks.new.disks.items c.hand_back.new.disks.items (option_map (λ v. v.items) c.live_over-back.result.0) c.args.out.now c.live_over-back.new.out c.end_as.new.out c.live_over-back.result.1 c.end_as.result (c.in-Ok.ensures {u = tt}).taken (c.in-Ok.ensures {u = tt}).left c.live_over-back.ensures.lives c.hand_back.ensures
    (subst (λ (z : Result Unit Why). IsToldBy g.D.Disk g.K.Sink c.args.texts.now z c.live_over-back.new.out c.end_as.new.out c.end_as.result) (sym c.in-Err.is) c.end_as.ensures)

pub returns-in-Err-clause-disks : goal.returns-in-Err-clause-disks
returns-in-Err-clause-disks g c =
    handed-back g.D.Disk c.args.texts.now g.K.Sink c.args.out.now c.live_over-back.new.out c.end_as.new.out c.end_as.result c.args.disks.now.items c.in-Ok.taken.items c.take_disks.new.disks.items c.hand_back.new.disks.items (option_map (λ v. v.items) c.live_over-back.result.0) c.live_over-back.result.1
    (omega (arith, c.requires.may.fit.bytes.components, c.requires.disks)) (c.in-Ok.ensures {u = tt}).left c.hand_back.ensures (counted-back (disks_in c.args.texts.now.program.components) c.live_over-back.result.0 (λ v. v.items) c.live_over-back.ensures.count) c.live_over-back.ensures.lives
    (subst (λ (z : Result Unit Why). IsToldBy g.D.Disk g.K.Sink c.args.texts.now z c.live_over-back.new.out c.end_as.new.out c.end_as.result) (sym c.in-Err.is) c.end_as.ensures)

pub returns-in_default-clause-completes : goal.returns-in_default-clause-completes
returns-in_default-clause-completes g c = completes g.D.Disk g.K.Sink c.args.texts.now c.requires.may.fit.playable c.requires.may.fit.flat c.requires.may.fit.bytes c.args.disks.now.items c.take_disks.new.disks.items c.args.out.now c.args.out.now (omega (arith, c.requires.may.fit.bytes.components, c.requires.disks)) 12 (returns-in_default-clause-lives g c)

pub returns-in-Ok-ended-clause-completes : goal.returns-in-Ok-ended-clause-completes
returns-in-Ok-ended-clause-completes g c = completes g.D.Disk g.K.Sink c.args.texts.now c.requires.may.fit.playable c.requires.may.fit.flat c.requires.may.fit.bytes c.args.disks.now.items c.hand_back.new.disks.items c.args.out.now c.live_over-back.new.out (omega (arith, c.requires.may.fit.bytes.components, c.requires.disks)) 0 (returns-in-Ok-ended-clause-lives g c)

pub returns-in-Err-clause-completes : goal.returns-in-Err-clause-completes
returns-in-Err-clause-completes g c = completes g.D.Disk g.K.Sink c.args.texts.now c.requires.may.fit.playable c.requires.may.fit.flat c.requires.may.fit.bytes c.args.disks.now.items c.hand_back.new.disks.items c.args.out.now c.end_as.new.out (omega (arith, c.requires.may.fit.bytes.components, c.requires.disks)) c.end_as.result (returns-in-Err-clause-lives g c)
