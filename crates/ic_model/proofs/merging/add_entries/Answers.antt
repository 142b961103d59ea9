use Rattle.std.proofs.Common.{◌∙◌, ap, arith, get_or, length}
use Rattle.ic_model.proofs.Several.{next_record}
use Rattle.ic_model.proofs.merging.add_entries.Goals as goal

pub loop-record-preserved : goal.loop-record-preserved
loop-record-preserved c =
    let r = c.record-item.result in
    let i = c.loop-record.record-index in
    next_record c.args.kind c.args.«com» c.args.log.now c.args.entries.now c.loop-record.entries c.add_entry.new.entries i r (omega (arith, ap length c.as_slice-record-items.ensures, c.loop-record-test.true)) (c.record-item.is ∙ ap (λ l. get_or l i r) c.as_slice-record-items.ensures) c.in_ok-add_entry.ensures c.loop-record.invariant
