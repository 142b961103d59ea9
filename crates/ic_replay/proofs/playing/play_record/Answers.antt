use Rattle.std.proofs.Common.{◌∙◌, ap, sym, refl}
use Rattle.def_state.specs.Vol.{numbers_fit}
use Rattle.ic_ckpt.specs.Views.{seen}
use Rattle.ic_replay.specs.declared.prepared.Prepared.{Prepared}
use Rattle.ic_replay.specs.Applying.{applied}
use Rattle.ic_replay.proofs.Recording.{applied_is}
use Rattle.ic_replay.proofs.playing.play_record.Goals as goal

pub returns-then-not-keeps_limits-clause-step : goal.returns-then-not-keeps_limits-clause-step
returns-then-not-keeps_limits-clause-step c =
    let v = seen c.args.state.now in
    let r = c.args.stored.now in (
      refl,
      ap numbers_fit (sym (applied_is c.args.program.now c.args.«com» c.args.at c.args.content v r c.requires.content))
          ∙ ap (λ (p : Prepared). numbers_fit (applied c.args.«com» c.args.at p v r)) (sym c.in_ok-prepared.ensures.prepared)
          ∙ sym (c.if-not-keeps_limits.ensures c.args.«com» c.args.at),
    )
