use Rattle.std.proofs.Common.{◌∙◌, arith}
use Rattle.ic_two_world.proofs.Beginning.{put-step}
use Rattle.ic_two_world.proofs.Disks.{popped}
use Rattle.ic_two_world.proofs.Walking.{one-more}
use Rattle.ic_two_world.proofs.making.put_on.Goals as goal

pub loop-disk-preserved : goal.loop-disk-preserved
loop-disk-preserved g c =
    let was = c.loop-disk.disks.items in
    let left = c.pop.new.self.items in
    let xs = c.loop-disk.seats.items in
    let last = popped was left c.pop.result c.in-Some.disk c.pop.ensures.items c.in-Some.is in
    record {
      put = put-step g.D.Disk c.args.disks.now.items was left c.in-Some.disk xs c.push_reserved.new.self.items c.on.result c.loop-disk.invariant.put last c.on.ensures c.push_reserved.ensures.items;
      count = omega (arith, c.loop-disk.invariant.count, one-more was left c.in-Some.disk last, one-more c.push_reserved.new.self.items xs c.on.result c.push_reserved.ensures.items);
      capacity = c.pop.ensures.capacity ∙ c.loop-disk.invariant.capacity;
      room = c.push_reserved.ensures.capacity ∙ c.loop-disk.invariant.room;
    }
