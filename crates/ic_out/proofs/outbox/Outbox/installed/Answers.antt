use Rattle.std.proofs.Common.{◌∙◌, ap, sym, List}
use Rattle.def_state.specs.Names.{Identity}
use Rattle.def_state.specs.Outbox.{Held, Outbox, is_held_as}
use Rattle.ic_index.proofs.Alone.{alone-any, alone-gone, none-kept}
use Rattle.ic_out.proofs.outbox.Outbox.installed.Goals as goal

pub returns-in-Some-clause-was : goal.returns-in-Some-clause-was
returns-in-Some-clause-was c =
    let x : Identity = record { peer = c.args.to; k = c.args.k } in
    sym (alone-any (is_held_as x) c.args.self.now.seen.held _ _ c.in-Some.ensures.found)

pub returns-in-Some-clause-gone : goal.returns-in-Some-clause-gone
returns-in-Some-clause-gone c =
    let x : Identity = record { peer = c.args.to; k = c.args.k } in
    let P : List Held → Outbox = λ hs. record c.args.self.now.seen { held = hs } in
    c.remove.ensures.gone ∙ ap P (sym (alone-gone (is_held_as x) c.args.self.now.seen.held _ _ c.in-Some.ensures.found))

pub returns-in-None-clause-gone : goal.returns-in-None-clause-gone
returns-in-None-clause-gone c =
    let x : Identity = record { peer = c.args.to; k = c.args.k } in
    let P : List Held → Outbox = λ hs. record c.args.self.now.seen { held = hs } in
    sym (ap P (none-kept (is_held_as x) c.args.self.now.seen.held (c.find.ensures.none c.in-None.is)))
