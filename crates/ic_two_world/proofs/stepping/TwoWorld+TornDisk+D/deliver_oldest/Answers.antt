use Rattle.std.proofs.Common.{◌∙◌, refl, sym, subst}
use Rattle.std.specs.Prelude.{OnOk, IfErr}
use Rattle.def_two.specs.World.{packet_at}
use Rattle.ic_moves.specs.Networks.{Network}
use Rattle.ic_two_world.specs.Stepping.{Delivers, FailsToDeliver}
use Rattle.ic_two_world.specs.Views.{world_of}
use Rattle.ic_two_world.proofs.Stepped.{on-ok, if-err, deliver-done, deliver-undone, deliver-not}
use Rattle.ic_two_world.proofs.stepping.TwoWorld+TornDisk+D.deliver_oldest.Goals as goal

pub returns-in-Some-clause-step : goal.returns-in-Some-clause-step
returns-in-Some-clause-step g c =
    let w = c.args.self.now in
    let i = c.in-Some.number in
    let new = c.deliver.new.self in
    let P : Network → Type 0 = λ n. OnOk c.deliver.result (Delivers g.D.Disk (record w { network = n }) i c.args.stop (packet_at (world_of (record w { network = n })) i) new) in
    on-ok c.deliver.result (deliver-done g.D.Disk g.met.D.Disk.keeping_tells w new (record { books = c.deliver.ensures.same.books; print = c.deliver.ensures.same.print }) c.requires.going c.args.stop c.args.from c.args.to c.requires.stop
    i (sym c.oldest_of.ensures.found ∙ c.in-Some.is)) (subst P c.oldest_of.ensures.same c.deliver.ensures.step)

pub returns-in-Some-clause-refused : goal.returns-in-Some-clause-refused
returns-in-Some-clause-refused g c =
    let w = c.args.self.now in
    let i = c.in-Some.number in
    let new = c.deliver.new.self in
    let P : Network → Type 0 = λ n. IfErr c.deliver.result (FailsToDeliver g.D.Disk (record w { network = n }) i c.args.stop (packet_at (world_of (record w { network = n })) i) new) in
    if-err c.deliver.result (deliver-undone g.D.Disk g.met.D.Disk.keeping_tells w new (record { books = c.deliver.ensures.same.books; print = c.deliver.ensures.same.print }) c.requires.going c.args.stop c.args.from c.args.to c.requires.stop
    i (sym c.oldest_of.ensures.found ∙ c.in-Some.is)) (subst P c.oldest_of.ensures.same c.deliver.ensures.refused)

pub returns-in-None-clause-step : goal.returns-in-None-clause-step
returns-in-None-clause-step g c =
    let w = c.args.self.now in
    deliver-not g.D.Disk g.met.D.Disk.keeping_tells w (record w { network = c.oldest_of.new.self }) (record { books = refl; print = refl }) c.requires.going c.args.stop c.args.from c.args.to c.requires.stop
    (sym c.oldest_of.ensures.found ∙ c.in-None.is) refl c.oldest_of.ensures.same
