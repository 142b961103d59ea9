use Rattle.std.proofs.Common.{◌∙◌, sym, ap, refl}
use Rattle.ic_moves.specs.Networks.{without}
use Rattle.ic_two_world.proofs.Lists.{no-some}
use Rattle.ic_two_world.proofs.Stepped.{lose-done, lose-not}
use Rattle.ic_two_world.proofs.stepping.TwoWorld+TornDisk+D.lose.Goals as goal

pub returns-in-Some : goal.returns-in-Some
returns-in-Some g c = λ stop ok.
    let w = c.args.self.now in
    lose-done g.D.Disk g.met.D.Disk.keeping_tells w (record w { network = c.take_off.new.self }) (record { books = refl; print = refl }) c.requires stop c.args.from c.args.to ok
    c.in-Some.number (sym c.oldest_of.ensures.found ∙ c.in-Some.is) refl (c.take_off.ensures ∙ ap (λ m. without m c.in-Some.number) c.oldest_of.ensures.same)

pub returns-in_default : goal.returns-in_default
returns-in_default g c = λ stop ok.
    let w = c.args.self.now in
    lose-not g.D.Disk g.met.D.Disk.keeping_tells w (record w { network = c.oldest_of.new.self }) (record { books = refl; print = refl }) c.requires stop c.args.from c.args.to ok
    (sym c.oldest_of.ensures.found ∙ no-some c.oldest_of.result c.in_default.not-Some) refl c.oldest_of.ensures.same
