use Rattle.std.proofs.Common.{sym, true, false}
use Rattle.std.proofs.lemmas.Bool.{le-leb, lt-leb}
use Rattle.def_state.specs.Names.{Identity}
use Rattle.ic_out.specs.Views.{held_of}
use Rattle.ic_out.proofs.Finding.{fetch-alone, fetch-none}
use Rattle.ic_out.proofs.outbox.Outbox.fetch.Goals as goal

pub returns-then-row-forced : goal.returns-then-row-forced
returns-then-row-forced c =
    let x : Identity = record { peer = c.args.to; k = c.args.k } in
    sym (fetch-alone x c.args.forced c.args.self.now.seen.held _ (held_of c.in-Some.row) true c.in-Some.ensures.found (le-leb c.in-Some.row.at c.args.forced c.if-row-forced.true))

pub returns-else-row-forced : goal.returns-else-row-forced
returns-else-row-forced c =
    let x : Identity = record { peer = c.args.to; k = c.args.k } in
    sym (fetch-alone x c.args.forced c.args.self.now.seen.held _ (held_of c.in-Some.row) false c.in-Some.ensures.found (lt-leb c.in-Some.row.at c.args.forced c.if-row-forced.false))

pub returns-in-None : goal.returns-in-None
returns-in-None c =
    let x : Identity = record { peer = c.args.to; k = c.args.k } in
    sym (fetch-none x c.args.forced c.args.self.now.seen.held (c.find.ensures.none c.in-None.is))
