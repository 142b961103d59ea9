use Rattle.ic_two_world.proofs.Placed.{taken, back}
use Rattle.ic_two_world.proofs.acting.go_down.Goals as goal

pub returns : goal.returns
returns g c =
    let xs = c.args.seats.now.items in
    let e = c.crash-seat.ensures in
    record {
      before = c.remove.result;
      now = c.crash-seat.result;
      at = taken xs c.from-place.result c.args.c c.remove.result c.from-place.ensures c.requires.there c.remove.ensures.value;
      set = back xs c.remove.new.self.items c.put_back.new.seats.items c.from-place.result c.args.c c.crash-seat.result c.from-place.ensures c.requires.there c.remove.ensures.items c.put_back.ensures;
      gone = record { disk = e.disk; site = e.site; heard = e.heard; is_open_still = e.open };
    }
