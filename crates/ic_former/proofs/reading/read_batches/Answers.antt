use Rattle.std.proofs.Common.{◌≡◌, ◌∙◌, ap, ◌-◌, ◌≤◌, ◌+◌, Option, Some, drop, length, arith}
use Rattle.ic_base.specs.declared.limits.TheConstants.{LOG_BYTES}
use Rattle.std.specs.Prelude.{Ok}
use Rattle.std.proofs.lemmas.Result.{err_from_is_err_and}
use Rattle.ic_base.specs.declared.record.Batch.{Batch}
use Rattle.def_log.specs.Loading.{first_batch}
use Rattle.def_log.specs.Sizes.{span}
use Rattle.ic_former.proofs.ReadBatches.{from_rest, all_read, refused, fits, still_below, one_more, gate_there, at_first, none_below}
use Rattle.ic_former.proofs.reading.read_batches.Goals as goal

pub loop-frame-init : goal.loop-frame-init
loop-frame-init c = record {
  start = c.new-frame.ensures.start;
  read = rw (c.new-frame.ensures.batches, c.new-frame.ensures.gate) (at_first c.args.gate c.args.bytes.now);
  inside = omega (arith, c.new-frame.ensures.gate);
  below = rw (c.new-frame.ensures.batches) (none_below LOG_BYTES);
}

pub returns-in_err-batch-clause-bad : goal.returns-in_err-batch-clause-bad
returns-in_err-batch-clause-bad c =
    let inv = c.loop-frame.invariant in
    let frame = c.loop-frame.frame in
    let p = err_from_is_err_and c.from_residual.result c.from_residual.ensures.1 in
    let place : frame.gate ≡ c.args.gate + span frame.batches = omega (arith, frame.placed, inv.start) in
    let inside : frame.gate - c.args.gate ≤ length c.args.bytes.now = omega (arith, inv.inside) in
    rw (p.1, p.2) (λ at e. refused c.args.gate c.args.bytes.now frame.batches frame.gate place inside inv.read at (from_rest c.args.bytes.now frame.gate (frame.gate - c.args.gate) _ (c.in_err-batch.ensures.bad at e)))

pub loop-frame-preserved : goal.loop-frame-preserved
loop-frame-preserved c =
    let inv = c.loop-frame.invariant in
    let frame = c.loop-frame.frame in
    let past = frame.gate - c.args.gate in
    let place : frame.gate ≡ c.args.gate + span frame.batches = omega (arith, frame.placed, inv.start) in
    let inside : frame.gate - c.args.gate ≤ length c.args.bytes.now = omega (arith, inv.inside) in
    let found : first_batch frame.gate (drop past c.args.bytes.now) ≡ Ok (Some c.in-Some.batch) = from_rest c.args.bytes.now frame.gate past _ c.in_ok-batch.ensures.found ∙ ap (λ (o : Option Batch). Ok o) c.in-Some.is in
    record {
      start = c.in_ok-push.ensures.start ∙ inv.start;
      read = rw (c.in_ok-push.ensures.batches, c.in_ok-push.ensures.gate) (one_more c.args.gate c.args.bytes.now frame.batches frame.gate place inside inv.read c.in-Some.batch found);
      inside = omega (arith, c.in_ok-push.ensures.gate, place, fits c.args.gate c.args.bytes.now frame.batches frame.gate place inside inv.read c.in-Some.batch found);
      below = rw (c.in_ok-push.ensures.batches) (still_below c.args.gate c.args.bytes.now frame.batches frame.gate place inside inv.read LOG_BYTES c.requires.short inv.below c.in-Some.batch found);
    }

pub returns-clause-whole : goal.returns-clause-whole
returns-clause-whole c =
    let inv = c.loop-frame.invariant in
    let frame = c.loop-frame.frame in
    let place : frame.gate ≡ c.args.gate + span frame.batches = omega (arith, frame.placed, inv.start) in
    let inside : frame.gate - c.args.gate ≤ length c.args.bytes.now = omega (arith, inv.inside) in
    let found = from_rest c.args.bytes.now frame.gate (frame.gate - c.args.gate) _ c.in_ok-batch.ensures.found in
    all_read c.args.gate c.args.bytes.now frame.batches frame.gate place inside inv.read (gate_there frame.gate (drop (frame.gate - c.args.gate) c.args.bytes.now) _ found) (found ∙ ap (λ (o : Option Batch). Ok o) c.in_default.is)
