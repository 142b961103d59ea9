use Rattle.std.proofs.Common.{◌+◌, ap, refl, arith}
use Rattle.ic_world.proofs.Counting.{one-more, one-more_fits, puts-fit}
use Rattle.ic_world.proofs.world.World.tell.Goals as goal

pub overflow_add-self : goal.overflow_add-self
overflow_add-self g c = one-more_fits c.args.more c.args.self.now.received c.receipts.result c.receipts.ensures c.args.self.now.receipts c.requires.room

pub invariant_of-self-2 : goal.invariant_of-self-2
invariant_of-self-2 g c = record {
  few = c.args.self.now.few;
  receipts = one-more c.args.more c.args.self.now.received c.receipts.result c.receipts.ensures c.args.self.now.receipts c.requires.room;
  plays = omega (arith, c.saturating_add-self.ensures);
  placed = λ going. c.requires.placed;
  logs = λ going. c.requires.logs;
  counted = λ going. puts-fit c.args.self.now.network.network.packets c.args.done.puts c.told.new.network.network.packets c.count.result c.from-from.result c.len.result c.in-Ok.ensures.packets c.count.ensures.count c.from-from.ensures c.len.ensures (omega (arith, c.if-from-len-gt-PACKETS.false));
}

pub returns-clause-step : goal.returns-clause-step
returns-clause-step g c = record {
  told = c.in-Ok.ensures.told;
  received = ap (λ n. c.args.self.now.received + n) c.receipts.ensures;
  played = c.saturating_add-self.ensures;
  going = refl;
}
