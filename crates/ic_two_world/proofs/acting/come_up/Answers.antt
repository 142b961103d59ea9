use Rattle.std.proofs.Common.{subst}
use Rattle.std.specs.Prelude.{Result, IfOk, IfErr}
use Rattle.ic_moves.specs.Chiefs.{openings_of}
use Rattle.ic_seat.specs.Recovering.{Recovers, FailsToRecover}
use Rattle.ic_seat.specs.declared.call.SeatRefused.{SeatRefused}
use Rattle.ic_two_world.proofs.Placed.{taken, back}
use Rattle.ic_two_world.proofs.acting.come_up.Goals as goal

pub recover-seat-requires-clause-stands : goal.recover-seat-requires-clause-stands
recover-seat-requires-clause-stands g c = c.requires.stand c.args.c c.remove.result (taken c.args.seats.now.items c.from-place.result c.args.c c.remove.result c.from-place.ensures c.requires.there c.remove.ensures.value)

pub returns-in-Ok-clause-step : goal.returns-in-Ok-clause-step
returns-in-Ok-clause-step g c =
    let xs = c.args.seats.now.items in
    let P : Result _ SeatRefused → Type 0 = λ r. IfOk r (λ u. Recovers g.D.Disk (openings_of c.args.books.now) c.args.c c.args.fingerprint.now c.remove.result c.args.stop c.recover-seat.result.0) in
    record {
      turns = record {
        before = c.remove.result;
        now = c.recover-seat.result.0;
        at = taken xs c.from-place.result c.args.c c.remove.result c.from-place.ensures c.requires.there c.remove.ensures.value;
        set = back xs c.remove.new.self.items c.put_back.new.seats.items c.from-place.result c.args.c c.recover-seat.result.0 c.from-place.ensures c.requires.there c.remove.ensures.items c.put_back.ensures;
        disk = c.recover-seat.ensures.disk;
      };
      recovers = subst P c.in-Ok.is c.recover-seat.ensures.step;
    }

pub returns-in-Err-clause-refused : goal.returns-in-Err-clause-refused
returns-in-Err-clause-refused g c =
    let xs = c.args.seats.now.items in
    let P : Result _ SeatRefused → Type 0 = λ r. IfErr r (FailsToRecover g.D.Disk (openings_of c.args.books.now) c.args.c c.args.fingerprint.now c.remove.result c.recover-seat.result.0) in
    record {
      turns = record {
        before = c.remove.result;
        now = c.recover-seat.result.0;
        at = taken xs c.from-place.result c.args.c c.remove.result c.from-place.ensures c.requires.there c.remove.ensures.value;
        set = back xs c.remove.new.self.items c.put_back.new.seats.items c.from-place.result c.args.c c.recover-seat.result.0 c.from-place.ensures c.requires.there c.remove.ensures.items c.put_back.ensures;
        disk = c.recover-seat.ensures.disk;
      };
      own = c.in-Err.why;
      is = c.refusal.ensures;
      fails = subst P c.in-Err.is c.recover-seat.ensures.refused;
    }
