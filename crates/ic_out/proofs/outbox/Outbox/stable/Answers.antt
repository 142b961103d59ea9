use Rattle.std.proofs.Common.{◌∙◌, ap, sym, List}
use Rattle.std.specs.Prelude.{not}
use Rattle.def_state.specs.Names.{Identity}
use Rattle.def_state.specs.Outbox.{Held, Outbox, is_held_as}
use Rattle.ic_out.specs.Views.{held_of}
use Rattle.ic_index.proofs.Alone.{alone-both, none-both}
use Rattle.ic_out.proofs.Finding.{stable-alone, stable-none}
use Rattle.ic_out.proofs.outbox.Outbox.stable.Goals as goal

pub returns-in-Some-clause-was : goal.returns-in-Some-clause-was
returns-in-Some-clause-was c =
    let x : Identity = record { peer = c.args.to; k = c.args.k } in
    sym (alone-both (is_held_as x) (λ h. not h.stable) c.args.self.now.seen.held _ _ c.in-Some.ensures.found)

pub returns-in-Some-clause-marked : goal.returns-in-Some-clause-marked
returns-in-Some-clause-marked c =
    let x : Identity = record { peer = c.args.to; k = c.args.k } in
    let P : List Held → Outbox = λ hs. record c.args.self.now.seen { held = hs } in
    c.mark.ensures.marked ∙ ap P (sym (stable-alone x c.args.self.now.seen.held _ (held_of c.in-Some.row) c.in-Some.ensures.found))

pub returns-in-None-clause-was : goal.returns-in-None-clause-was
returns-in-None-clause-was c =
    let x : Identity = record { peer = c.args.to; k = c.args.k } in
    sym (none-both (is_held_as x) (λ h. not h.stable) c.args.self.now.seen.held (c.find.ensures.none c.in-None.is))

pub returns-in-None-clause-marked : goal.returns-in-None-clause-marked
returns-in-None-clause-marked c =
    let x : Identity = record { peer = c.args.to; k = c.args.k } in
    let P : List Held → Outbox = λ hs. record c.args.self.now.seen { held = hs } in
    sym (ap P (stable-none x c.args.self.now.seen.held (c.find.ensures.none c.in-None.is)))
