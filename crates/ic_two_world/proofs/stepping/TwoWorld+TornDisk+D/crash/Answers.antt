use Rattle.std.proofs.Common.{refl, arith, length, ◌≤◌}
use Rattle.ic_two_world.proofs.Stepped.{crash-done, crash-not}
use Rattle.ic_two_world.proofs.stepping.TwoWorld+TornDisk+D.crash.Goals as goal

pub returns-then-from-len : goal.returns-then-from-len
returns-then-from-len g c = λ stop ok.
    let w = c.args.self.now in
    crash-done g.D.Disk g.met.D.Disk.keeping_tells w (record w { seats = c.go_down.new.seats }) (record { books = refl; print = refl }) c.requires stop c.args.c ok c.go_down.ensures refl

pub returns-else-from-len : goal.returns-else-from-len
returns-else-from-len g c = λ stop ok.
    let w = c.args.self.now in
    let past : length w.seats.items ≤ c.args.c = omega (arith, c.if-from-len.false, c.len.ensures, c.from.ensures) in
    crash-not g.D.Disk g.met.D.Disk.keeping_tells w w (record { books = refl; print = refl }) c.requires stop c.args.c ok past refl refl
