use Rattle.std.proofs.Common.{◌∙◌, ap, sym, arith, max}
use Rattle.def_state.specs.Names.{number_of}
use Rattle.def_step.specs.Tcom.{Book}
use Rattle.ic_tcom.specs.Roomy.{Roomy}
use Rattle.ic_tcom.specs.EngineState.{EngineState}
use Rattle.ic_tcom.proofs.Found.{serves_found}
use Rattle.ic_tcom.proofs.Laters.{commit_decides}
use Rattle.ic_tcom.proofs.OneEach.{least_is}
use Rattle.ic_tcom.proofs.engine.Engine.decide.Goals as goal

pub returns-clause-step : goal.returns-clause-step
returns-clause-step c =
    let e = c.self.inside in
    let state = λ (b : Book). let v : EngineState = record { book = b; counter = e.counter; sittings = e.sittings.held; least = e.least.held } in v in
    let found = sym c.in-Some.ensures.found ∙ c.at.ensures in
    let least = rw (← c.self.view_is) at c.requires.least in
    let its = serves_found c.args.session c.args.on.peer c.args.on.n _ c.at.result.now found in
    let clock = c.max-before.ensures ∙ ap (λ n. max n c.args.stamp) c.clock.ensures.value in (
      ap state c.in_ok-reserve.ensures.same ∙ ap (λ (v : Roomy EngineState). v.held) c.self.view_is,
      (c.requires.open, least_is e.least.held e.sittings.held c.in-Some.at c.at.result.now c.args.on.peer c.args.on.n c.self.invariant.2 c.in-Some.ensures.within c.at.ensures its.0 its.1 least ∙ ap (λ (v : Roomy EngineState). number_of 1 v.held.least c.args.on.peer) c.self.view_is, omega (arith, c.if-before-ge-GREATEST_NUMBER.false), c.requires.peer, c.requires.first, c.requires.limit, c.in_ok-writes.ensures.few),
      rw (← c.self.view_is) (λ log. commit_decides c.args.on.tcom c.args.on.peer c.args.on.n c.args.place c.args.stamp _ c.args.session (state e.book.held) log _ c.at.result.now c.in_ok-writes.writes c.outcome.result found its.0 its.1 c.in_ok-writes.ensures.same clock c.outcome.ensures),
    )
