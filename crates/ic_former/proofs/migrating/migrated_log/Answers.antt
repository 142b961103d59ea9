use Rattle.std.proofs.Common.{◌≡◌, ◌∙◌, ap, ◌+◌, ◌<◌, length, get_or, arith}
use Rattle.std.proofs.lemmas.List.{length-take}
use Rattle.ic_base.specs.declared.limits.TheConstants.{FIRST_GATE, SLOTS}
use Rattle.ic_base.specs.declared.record.Batch.{Batch}
use Rattle.def_log.specs.Frame.{placed}
use Rattle.def_former.specs.Migrated.{payloads_of, checkpoint_gates}
use Rattle.ic_former.proofs.Building.{span-next, span-take}
use Rattle.ic_former.proofs.migrating.migrated_log.Goals as goal

pub header-requires : goal.header-requires
header-requires c =
    omega (arith, ap length c.deref.ensures.value, ap length c.in_ok-slots.ensures, length-take SLOTS (checkpoint_gates (placed FIRST_GATE (payloads_of c.args.log.now.batches))))

pub push_batch-requires : goal.push_batch-requires
push_batch-requires c =
    let bs = c.args.log.now.batches in
    let i = c.loop-batch.batch-index in
    let b = c.batch-item.result in
    let is : b ≡ get_or bs i b = c.batch-item.is ∙ ap (λ l. get_or l i b) c.as_slice-batch-items.ensures in
    let lt : i < length bs = omega (arith, c.loop-batch-test.true, c.loop-batch.auto.batch-index-end, ap length c.as_slice-batch-items.ensures) in
    omega (arith, ap length c.as_slice.ensures, ap (λ (x : Batch). length x.payload) is, span-next bs i b lt, span-take bs (i + 1), c.args.log.now.small)
