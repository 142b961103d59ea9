use Rattle.std.proofs.Common.{sym, subst, arith, ◌<◌, List, length}
use Rattle.std.specs.Prelude.{Result, IfOk, IfErr}
use Rattle.def_two.specs.declared.moves.Packet2.{Packet2}
use Rattle.ic_seat.specs.Seats.{call_of}
use Rattle.ic_seat.specs.Serving.{Serves, FailsToServe}
use Rattle.ic_seat.specs.declared.call.SeatRefused.{SeatRefused}
use Rattle.ic_two_world.proofs.Acted.{acts-put, fails-put, fails-served}
use Rattle.ic_two_world.proofs.Placed.{taken, back}
use Rattle.ic_two_world.proofs.acting.act.Goals as goal

pub serve-seat-requires-clause-stands : goal.serve-seat-requires-clause-stands
serve-seat-requires-clause-stands g c =
    let xs = c.args.seats.now.items in
    let within : c.args.c < length xs = omega (arith, c.if-len-place.false, c.len.ensures, c.from-place.ensures) in
    c.requires.stand c.args.c c.remove.result (taken xs c.from-place.result c.args.c c.remove.result c.from-place.ensures within c.remove.ensures.value)

pub serve-seat-requires-clause-may : goal.serve-seat-requires-clause-may
serve-seat-requires-clause-may g c =
    let xs = c.args.seats.now.items in
    let within : c.args.c < length xs = omega (arith, c.if-len-place.false, c.len.ensures, c.from-place.ensures) in
    c.requires.may c.remove.result (taken xs c.from-place.result c.args.c c.remove.result c.from-place.ensures within c.remove.ensures.value)

pub returns-in-Ok-clause-step : goal.returns-in-Ok-clause-step
returns-in-Ok-clause-step g c =
    let xs = c.args.seats.now.items in
    let within : c.args.c < length xs = omega (arith, c.if-len-place.false, c.len.ensures, c.from-place.ensures) in
    let at = taken xs c.from-place.result c.args.c c.remove.result c.from-place.ensures within c.remove.ensures.value in
    let set = back xs c.remove.new.self.items c.put_back.new.seats.items c.from-place.result c.args.c c.serve-seat.result.0 c.from-place.ensures within c.remove.ensures.items c.put_back.ensures in
    let P : Result (List Packet2) SeatRefused → Type 0 = λ r. IfOk r (Serves g.D.Disk c.remove.result c.args.stop (call_of c.args.call.now) c.serve-seat.result.0) in
    let S : List Packet2 → Type 0 = λ l. Serves g.D.Disk c.remove.result c.args.stop (call_of c.args.call.now) c.serve-seat.result.0 l in
    acts-put g.D.Disk xs c.args.network.now c.args.c c.args.stop (call_of c.args.call.now) c.remove.result c.serve-seat.result.0 at c.put_back.new.seats.items set c.serve-seat.ensures.disk
    c.put.result c.as_slice.result.now c.put.new.network (subst S (sym c.as_slice.ensures) (subst P c.in-Ok.is c.serve-seat.ensures.step)) c.put.ensures.put c.put.ensures.few

pub returns-in-Ok-clause-refused : goal.returns-in-Ok-clause-refused
returns-in-Ok-clause-refused g c =
    let xs = c.args.seats.now.items in
    let within : c.args.c < length xs = omega (arith, c.if-len-place.false, c.len.ensures, c.from-place.ensures) in
    let at = taken xs c.from-place.result c.args.c c.remove.result c.from-place.ensures within c.remove.ensures.value in
    let set = back xs c.remove.new.self.items c.put_back.new.seats.items c.from-place.result c.args.c c.serve-seat.result.0 c.from-place.ensures within c.remove.ensures.items c.put_back.ensures in
    let P : Result (List Packet2) SeatRefused → Type 0 = λ r. IfOk r (Serves g.D.Disk c.remove.result c.args.stop (call_of c.args.call.now) c.serve-seat.result.0) in
    let S : List Packet2 → Type 0 = λ l. Serves g.D.Disk c.remove.result c.args.stop (call_of c.args.call.now) c.serve-seat.result.0 l in
    fails-put g.D.Disk xs c.args.network.now c.args.c c.args.stop (call_of c.args.call.now) c.remove.result c.serve-seat.result.0 at c.put_back.new.seats.items set c.serve-seat.ensures.disk
    c.put.result c.as_slice.result.now (subst S (sym c.as_slice.ensures) (subst P c.in-Ok.is c.serve-seat.ensures.step)) c.put.ensures.refused

pub returns-in-Err-clause-refused : goal.returns-in-Err-clause-refused
returns-in-Err-clause-refused g c =
    let xs = c.args.seats.now.items in
    let within : c.args.c < length xs = omega (arith, c.if-len-place.false, c.len.ensures, c.from-place.ensures) in
    let at = taken xs c.from-place.result c.args.c c.remove.result c.from-place.ensures within c.remove.ensures.value in
    let set = back xs c.remove.new.self.items c.put_back.new.seats.items c.from-place.result c.args.c c.serve-seat.result.0 c.from-place.ensures within c.remove.ensures.items c.put_back.ensures in
    let P : Result (List Packet2) SeatRefused → Type 0 = λ r. IfErr r (FailsToServe g.D.Disk c.remove.result (call_of c.args.call.now) c.serve-seat.result.0) in
    fails-served g.D.Disk xs c.args.network.now c.args.c c.args.stop (call_of c.args.call.now) c.remove.result c.serve-seat.result.0 at c.put_back.new.seats.items set c.serve-seat.ensures.disk
    c.in-Err.why c.refusal.result c.refusal.ensures (subst P c.in-Err.is c.serve-seat.ensures.refused)
