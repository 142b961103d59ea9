use Rattle.std.proofs.Common.{sym}
use Rattle.std.specs.Prelude.{not}
use Rattle.def_state.specs.Names.{Identity}
use Rattle.def_state.specs.Outbox.{is_held_as}
use Rattle.ic_index.proofs.Alone.{alone-both, none-both}
use Rattle.ic_out.proofs.outbox.Outbox.may_become_stable.Goals as goal

pub returns-in-Some : goal.returns-in-Some
returns-in-Some c =
    let x : Identity = record { peer = c.args.to; k = c.args.k } in
    sym (alone-both (is_held_as x) (λ h. not h.stable) c.args.self.now.seen.held _ _ c.in-Some.ensures.found)

pub returns-in-None : goal.returns-in-None
returns-in-None c =
    let x : Identity = record { peer = c.args.to; k = c.args.k } in
    sym (none-both (is_held_as x) (λ h. not h.stable) c.args.self.now.seen.held (c.find.ensures.none c.in-None.is))
