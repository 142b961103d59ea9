use Rattle.std.proofs.Common.{◌≡◌, ◌∙◌, ◌+◌, ◌<◌, ◌^◌, ap, sym, subst, refl, arith, length, drop, List, ℕ, Some, None}
use Rattle.def_state.specs.Image as images
use Rattle.def_step.specs.Replay.{start_at}
use Rattle.ic_ckpt.specs.Views.{seen}
use Rattle.ic_replay.proofs.Checkpoints.{passed_is}
use Rattle.ic_replay.proofs.ImageLimits.{image_within}
use Rattle.ic_replay.proofs.start.start.Goals as goal

pub returns-in-Ok-clause-started : goal.returns-in-Ok-clause-started
returns-in-Ok-clause-started c =
    let p = c.args.program.now in
    let last = rw c.in-Some.is at (c.in_ok-last_checkpoint.ensures {u = tt}).some in
    let read : images.read_image p c.args.«com» c.in-Some.image ≡ Some (seen c.in-Ok.state) = ap (images.read_image p c.args.«com») (sym c.as_slice.ensures) ∙ c.in-Ok.ensures.state in
    record {
      state = ap (start_at p c.args.«com») last.image_is ∙ read;
      behind = last.behind ∙ ap (λ n. drop n c.args.records.now) (sym c.behind.ensures);
      within = let within = last.within in omega (arith, within, c.behind.ensures);
      limits = image_within p c.args.«com» c.in-Some.image (seen c.in-Ok.state) read;
    }

pub returns-in-Err-BadAt-clause-refused : goal.returns-in-Err-BadAt-clause-refused
returns-in-Err-BadAt-clause-refused c =
    let p = c.args.program.now in
    let rs = c.args.records.now in
    let last = rw c.in-Some.is at (c.in_ok-last_checkpoint.ensures {u = tt}).some in
    let same : c.as_slice.result.now ≡ c.in-Some.image = c.as_slice.ensures in
    let short : length c.as_slice.result.now < 2 ^ 32 = subst (λ (xs : List ℕ). length xs < 2 ^ 32) (sym same) last.short in
    let unread : images.read_image p c.args.«com» c.as_slice.result.now ≡ None = (rw c.in-Err-BadAt.field-0-is at (c.in-Err-BadAt.ensures.unread short)) c.in-Err-BadAt.field-0-0 refl in (
      ap (start_at p c.args.«com») last.image_is ∙ ap (images.read_image p c.args.«com») (sym same) ∙ unread,
      passed_is rs (c.in-Some.i + 1) last.behind (omega (arith, last.within)),
      last.within,
    )

pub behind-requires : goal.behind-requires
behind-requires c =
    let last = rw c.in-Some.is at (c.in_ok-last_checkpoint.ensures {u = tt}).some in
    last.within
