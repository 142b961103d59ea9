use Rattle.std.proofs.Common.{◌≡◌, ◌∙◌, ap, arith, ◌+◌, length, length-append, take}
use Rattle.std.proofs.lemmas.List.{length-take-le}
use Rattle.ic_network.specs.Lanes.{numbers_from}
use Rattle.ic_moves.proofs.Ranges.{packets_on, waiting_on}
use Rattle.ic_moves.proofs.Waiting.{kept_pushed, pushed_waits}
use Rattle.ic_moves.proofs.network.Network2.put.Goals as goal

pub loop-p-preserved : goal.loop-p-preserved
loop-p-preserved c =
    let old = c.args.self.now.packets in
    let ps = c.args.puts.now in
    let i = c.loop-p.p-index in
    let lt = c.loop-p-test.true in
    let was = c.loop-p.self-inside in
    let h = c.loop-p.invariant in
    let part = length-take-le i ps (omega (arith, lt)) in
    let all : length was.packets.items ≡ length old + length (take i ps) = ap length h.packets ∙ length-append old (take i ps) in
    record {
      packets = packets_on old was.packets.items c.push_reserved.new.self.items ps i _ lt c.push_reserved.ensures.items h.packets;
      waiting = waiting_on c.args.self.now.waiting (numbers_from 1 was.waits.items) (numbers_from 1 c.push_reserved-in-loop-p.new.self.items) (length old) i (1 + length was.waits.items)
          (pushed_waits was.waits.items c.push_reserved-in-loop-p.new.self.items c.push_reserved-in-loop-p.ensures.items) h.waiting (omega (arith, h.kept.waits_len, all, part));
      kept = kept_pushed was.packets.items c.push_reserved.new.self.items was.waits.items c.push_reserved-in-loop-p.new.self.items was.passed.items was.first _ c.push_reserved.ensures.items c.push_reserved-in-loop-p.ensures.items h.kept;
      packets_room = omega (arith, h.packets_room, c.push_reserved.ensures.len, c.push_reserved.ensures.capacity);
      waits_room = omega (arith, h.waits_room, c.push_reserved-in-loop-p.ensures.len, c.push_reserved-in-loop-p.ensures.capacity);
    }
