use Rattle.std.proofs.Common.{◌∙◌, arith, sym, subst}
use Rattle.std.proofs.lemmas.Grind.{common_steps}
use Rattle.std.proofs.lemmas.Option.{get_or_from_slice_get, slice_get_within}
use Rattle.def_log.specs.Spelling.{Fits}
use Rattle.ic_ckpt.specs.Views.{seen}
use Rattle.ic_replay.proofs.Runs.{reads}
use Rattle.ic_replay.proofs.Turns.{takes_new}
use Rattle.ic_replay.proofs.playing.play_records.Goals as goal

pub returns-then-not-branch-clause-refused : goal.returns-then-not-branch-clause-refused
returns-then-not-branch-clause-refused g c =
    let read = reads c.args.records.now c.loop-next.next c.in_ok-stored.stored (c.in_ok-stored.ensures {u = tt}) in
    grind (arith, common_steps, read)

pub returns-in-Take-clause-played : goal.returns-in-Take-clause-played
returns-in-Take-clause-played g c =
    let read = reads c.args.records.now c.loop-next.next c.in_ok-stored.stored (c.in_ok-stored.ensures {u = tt}) in
    grind (arith, common_steps, read)

pub returns-then-not-branch-2 : goal.returns-then-not-branch-2
returns-then-not-branch-2 g c =
    let read = reads c.args.records.now c.loop-next.next c.in_ok-stored.stored (c.in_ok-stored.ensures {u = tt}) in
    grind (arith, common_steps, read)

pub loop-next-preserved : goal.loop-next-preserved
loop-next-preserved g c =
    let read = reads c.args.records.now c.loop-next.next c.in_ok-stored.stored (c.in_ok-stored.ensures {u = tt}) in
    grind (arith, common_steps, read)

pub play_record-requires : goal.play_record-requires
play_record-requires g c =
    let rs = c.args.records.now in
    let r = c.in_ok-stored.stored in
    let at = c.in_ok-stored.ensures {u = tt} in
    let fit : Fits r = subst Fits (get_or_from_slice_get rs c.loop-next.next r r at) (c.requires.fields c.loop-next.next r (slice_get_within rs c.loop-next.next r at)) in
    let new = takes_new c.args.program.now c.args.«com» (seen c.loop-next.state) r fit (sym (c.in_ok-fits.ensures {u = tt}) ∙ c.if-not-branch.false) c.in_default.not-Take in
    record { limits = c.loop-next.invariant.limits; content = new.0; new = new.1 }
