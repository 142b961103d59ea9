use Rattle.std.proofs.Common.{sym}
use Rattle.def_state.specs.Names.{Identity}
use Rattle.def_state.specs.Outbox.{is_held_as}
use Rattle.ic_index.proofs.Alone.{alone-any}
use Rattle.ic_out.proofs.outbox.Outbox.holds.Goals as goal

pub returns-in-Some : goal.returns-in-Some
returns-in-Some c =
    let x : Identity = record { peer = c.args.to; k = c.args.k } in
    sym (alone-any (is_held_as x) c.args.self.now.seen.held _ _ c.in-Some.ensures.found)
