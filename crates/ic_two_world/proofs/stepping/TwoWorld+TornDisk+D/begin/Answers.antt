use Rattle.std.proofs.Common.{◌∙◌, sym, ap, refl}
use Rattle.std.specs.Prelude.{slice_get}
use Rattle.ic_two_world.specs.Views.{begun_if_up_in}
use Rattle.ic_two_world.proofs.Stepped.{on-ok, if-err, begin-idle, begin-may, begin-done, begin-undone, begin-past}
use Rattle.ic_two_world.proofs.stepping.TwoWorld+TornDisk+D.begin.Goals as goal

pub returns-in_default-clause-step : goal.returns-in_default-clause-step
returns-in_default-clause-step g c =
    let w = c.args.self.now in
    begin-idle g.D.Disk g.met.D.Disk.keeping_tells w w (record { books = refl; print = refl }) c.requires.going c.args.stop c.args.from c.args.source c.args.to c.args.target c.args.amount c.requires.event
    (λ k e. c.in_default.not-Some k (c.begun_if_up.ensures ∙ ap (λ l. begun_if_up_in (slice_get l 0)) c.as_slice.ensures.value ∙ e)) refl refl

pub returns-then-begun-ge-GREATEST_NUMBER-clause-refused : goal.returns-then-begun-ge-GREATEST_NUMBER-clause-refused
returns-then-begun-ge-GREATEST_NUMBER-clause-refused g c =
    let w = c.args.self.now in
    begin-past g.D.Disk g.met.D.Disk.keeping_tells w w (record { books = refl; print = refl }) c.requires.going c.args.stop c.args.from c.args.source c.args.to c.args.target c.args.amount c.requires.event
    c.in-Some.begun (sym (c.begun_if_up.ensures ∙ ap (λ l. begun_if_up_in (slice_get l 0)) c.as_slice.ensures.value) ∙ c.in-Some.is) c.if-begun-ge-GREATEST_NUMBER.true refl

pub act-requires-clause-stand : goal.act-requires-clause-stand
act-requires-clause-stand g c = λ k x e. (c.requires.going.seated k x e).stands

pub act-requires-clause-may : goal.act-requires-clause-may
act-requires-clause-may g c =
    let w = c.args.self.now in
    begin-may g.D.Disk g.met.D.Disk.keeping_tells w w (record { books = refl; print = refl }) c.requires.going c.args.stop c.args.from c.args.source c.args.to c.args.target c.args.amount c.requires.event
    c.in-Some.begun (sym (c.begun_if_up.ensures ∙ ap (λ l. begun_if_up_in (slice_get l 0)) c.as_slice.ensures.value) ∙ c.in-Some.is)

pub returns-clause-step : goal.returns-clause-step
returns-clause-step g c =
    let w = c.args.self.now in
    let v = record w { seats = c.act.new.seats; network = c.act.new.network } in
    on-ok c.act.result (begin-done g.D.Disk g.met.D.Disk.keeping_tells w v (record { books = refl; print = refl }) c.requires.going c.args.stop c.args.from c.args.source c.args.to c.args.target c.args.amount c.requires.event
    c.in-Some.begun (sym (c.begun_if_up.ensures ∙ ap (λ l. begun_if_up_in (slice_get l 0)) c.as_slice.ensures.value) ∙ c.in-Some.is)) c.act.ensures.step

pub returns-clause-refused : goal.returns-clause-refused
returns-clause-refused g c =
    let w = c.args.self.now in
    let v = record w { seats = c.act.new.seats; network = c.act.new.network } in
    if-err c.act.result (begin-undone g.D.Disk g.met.D.Disk.keeping_tells w v (record { books = refl; print = refl }) c.requires.going c.args.stop c.args.from c.args.source c.args.to c.args.target c.args.amount c.requires.event
    c.in-Some.begun (sym (c.begun_if_up.ensures ∙ ap (λ l. begun_if_up_in (slice_get l 0)) c.as_slice.ensures.value) ∙ c.in-Some.is)) c.act.ensures.refused
