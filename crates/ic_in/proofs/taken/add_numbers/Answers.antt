use Rattle.std.proofs.Common.{◌∙◌, ap, refl, arith}
use Rattle.std.specs.Prelude.{is_some}
use Rattle.ic_index.specs.Entries.{value_of, is_in_order}
use Rattle.ic_index.proofs.Searching.{in_order-put}
use Rattle.ic_in.proofs.Joining.{add-next}
use Rattle.ic_in.proofs.taken.add_numbers.Goals as goal

pub loop-k-preserved : goal.loop-k-preserved
loop-k-preserved c = record {
  members = λ x. ap (λ l. is_some (value_of l x)) c.put.ensures.put ∙ add-next c.args.above.now.seen c.loop-k.above.seen c.args.from c.args.numbers.now c.loop-k.k-index _ c.loop-k-test.true refl c.loop-k.invariant.members x;
  ordered = ap is_in_order c.put.ensures.put ∙ in_order-put _ c.loop-k.above.seen c.loop-k.invariant.ordered;
  room = let room = c.put.ensures.room in let before = c.loop-k.invariant.room in omega arith;
}
