use Rattle.std.proofs.Common.{refl, arith, length, ◌≤◌}
use Rattle.ic_two_world.proofs.Stepped.{on-ok, if-err, up-done, up-not, up-undone}
use Rattle.ic_two_world.proofs.stepping.TwoWorld+TornDisk+D.recover.Goals as goal

pub returns-then-len-from-clause-step : goal.returns-then-len-from-clause-step
returns-then-len-from-clause-step g c =
    let w = c.args.self.now in
    let past : length w.seats.items ≤ c.args.c = omega (arith, c.if-len-from.true, c.len.ensures, c.from.ensures) in
    up-not g.D.Disk g.met.D.Disk.keeping_tells w w (record { books = refl; print = refl }) c.requires.going c.args.stop c.args.c c.requires.stop past refl refl

pub come_up-requires-clause-stand : goal.come_up-requires-clause-stand
come_up-requires-clause-stand g c = λ k x e. (c.requires.going.seated k x e).stands

pub returns-clause-step : goal.returns-clause-step
returns-clause-step g c =
    let w = c.args.self.now in
    let v = record w { seats = c.come_up.new.seats } in
    on-ok c.come_up.result (λ u. up-done g.D.Disk g.met.D.Disk.keeping_tells w v (record { books = refl; print = refl }) c.requires.going c.args.stop c.args.c c.requires.stop u refl) c.come_up.ensures.step

pub returns-clause-refused : goal.returns-clause-refused
returns-clause-refused g c =
    let w = c.args.self.now in
    let v = record w { seats = c.come_up.new.seats } in
    if-err c.come_up.result (up-undone g.D.Disk g.met.D.Disk.keeping_tells w v (record { books = refl; print = refl }) c.requires.going c.args.stop c.args.c c.requires.stop) c.come_up.ensures.refused
