use Rattle.std.proofs.Common.{refl}
use Rattle.ic_two_world.proofs.Stepped.{on-ok, if-err, resend-done, resend-undone}
use Rattle.ic_two_world.proofs.stepping.TwoWorld+TornDisk+D.resend.Goals as goal

pub act-requires-clause-stand : goal.act-requires-clause-stand
act-requires-clause-stand g c = λ k x e. (c.requires.going.seated k x e).stands

pub returns-clause-step : goal.returns-clause-step
returns-clause-step g c =
    let w = c.args.self.now in
    let v = record w { seats = c.act.new.seats; network = c.act.new.network } in
    on-ok c.act.result (resend-done g.D.Disk g.met.D.Disk.keeping_tells w v (record { books = refl; print = refl }) c.requires.going c.args.stop c.args.c c.requires.stop) c.act.ensures.step

pub returns-clause-refused : goal.returns-clause-refused
returns-clause-refused g c =
    let w = c.args.self.now in
    let v = record w { seats = c.act.new.seats; network = c.act.new.network } in
    if-err c.act.result (resend-undone g.D.Disk g.met.D.Disk.keeping_tells w v (record { books = refl; print = refl }) c.requires.going c.args.stop c.args.c c.requires.stop) c.act.ensures.refused
