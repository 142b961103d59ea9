use Rattle.std.proofs.Common.{rules, ◌≡◌, ◌∙◌, ◌+◌, ◌-◌, ◌<◌, ap, sym, arith, Some, length, drop, false}
use Rattle.std.proofs.lemmas.Grind.{common_steps}
use Rattle.std.proofs.lemmas.Option.{slice_get_past}
use Rattle.std.specs.Prelude.{is_some}
use Rattle.def_step.specs.Replay.{waits_for}
use Rattle.ic_ckpt.specs.Views.{seen}
use Rattle.ic_replay.specs.Quiet.{up_to_waiting}
use Rattle.ic_replay.proofs.Runs.{has_next, next_there, next_read, next_behind}
use Rattle.ic_replay.proofs.Turns.{misfits}
use Rattle.ic_replay.proofs.quiet.pass_records.Goals as goal

pub bounds-run-next : goal.bounds-run-next
bounds-run-next g c = has_next c.args.records.now c.args.run.now c.loop-next.next (c.loop-next.next - c.args.first) c.loop-next.invariant.run (omega (arith, c.len-next-end.ensures.count, c.loop-next-test.true))

pub offset_bounds-run-next : goal.offset_bounds-run-next
offset_bounds-run-next g c =
    let below : c.loop-next.next - c.args.first < length c.args.run.now = has_next c.args.records.now c.args.run.now c.loop-next.next (c.loop-next.next - c.args.first) c.loop-next.invariant.run (omega (arith, c.len-next-end.ensures.count, c.loop-next-test.true)) in
    search rules

pub fits_at_rest-requires : goal.fits_at_rest-requires
fits_at_rest-requires g c =
    let read = next_read c.args.records.now c.args.run.now c.loop-next.next (c.loop-next.next - c.args.first) c.loop-next.invariant.run (omega (arith, c.len-next-end.ensures.count, c.loop-next-test.true)) c.index-run-next.result c.index-run-next.is in
    grind (arith, common_steps, read)

pub returns-then-not-fits_at_rest-clause-refused : goal.returns-then-not-fits_at_rest-clause-refused
returns-then-not-fits_at_rest-clause-refused g c =
    let there = next_there c.args.records.now c.args.run.now c.loop-next.next (c.loop-next.next - c.args.first) c.loop-next.invariant.run (omega (arith, c.len-next-end.ensures.count, c.loop-next-test.true)) c.index-run-next.result c.index-run-next.is in
    let m = misfits c.args.program.now c.args.«com» (seen c.loop-next.state) c.args.records.now c.loop-next.next c.index-run-next.result there (sym c.fits_at_rest.ensures ∙ c.if-not-fits_at_rest.true) in
    (c.loop-next.invariant.playing ∙ m.0, c.loop-next.invariant.place ∙ m.1, omega (arith, c.len-next-end.ensures.count, c.loop-next-test.true))

pub returns-in-Take-clause-played : goal.returns-in-Take-clause-played
returns-in-Take-clause-played g c =
    let read = next_read c.args.records.now c.args.run.now c.loop-next.next (c.loop-next.next - c.args.first) c.loop-next.invariant.run (omega (arith, c.len-next-end.ensures.count, c.loop-next-test.true)) c.index-run-next.result c.index-run-next.is in
    grind (arith, common_steps, read)

pub returns-in-Take-clause-waiting : goal.returns-in-Take-clause-waiting
returns-in-Take-clause-waiting g c =
    let there = next_there c.args.records.now c.args.run.now c.loop-next.next (c.loop-next.next - c.args.first) c.loop-next.invariant.run (omega (arith, c.len-next-end.ensures.count, c.loop-next-test.true)) c.index-run-next.result c.index-run-next.is in
    there ∙ ap (λ r. Some r) c.in-Take.is

pub loop-next-preserved : goal.loop-next-preserved
loop-next-preserved g c =
    let read = next_read c.args.records.now c.args.run.now c.loop-next.next (c.loop-next.next - c.args.first) c.loop-next.invariant.run (omega (arith, c.len-next-end.ensures.count, c.loop-next-test.true)) c.index-run-next.result c.index-run-next.is in
    let there = next_there c.args.records.now c.args.run.now c.loop-next.next (c.loop-next.next - c.args.first) c.loop-next.invariant.run (omega (arith, c.len-next-end.ensures.count, c.loop-next-test.true)) c.index-run-next.result c.index-run-next.is in
    let behind : is_some (waits_for c.index-run-next.result) ≡ false → drop (c.loop-next.next - c.args.first + 1) c.args.run.now ≡ up_to_waiting (drop (c.loop-next.next + 1) c.args.records.now) = next_behind c.args.records.now c.args.run.now c.loop-next.next (c.loop-next.next - c.args.first) c.loop-next.invariant.run c.index-run-next.result there in
    grind (arith, common_steps, read, behind)

pub returns-clause-waiting : goal.returns-clause-waiting
returns-clause-waiting g c = slice_get_past c.args.records.now c.len.result (omega (arith, c.len.ensures.count))
