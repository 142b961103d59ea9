use Rattle.std.proofs.Common.{◌∙◌, ◌≤◌, ap, arith, not, List, ℕ}
use Rattle.std.proofs.lemmas.List.Elements.{All-filter}
use Rattle.ic_base.specs.declared.record.Record.TheVariants.{Decided}
use Rattle.def_state.specs.Names.{Numbers, number_of}
use Rattle.def_step.specs.Tcom.{Book, Sitting, sits_for}
use Rattle.ic_tcom.specs.EngineState.{EngineState, with_decision}
use Rattle.ic_tcom.proofs.Decisions.{held_entered}
use Rattle.ic_tcom.proofs.engine.Engine.enter.Goals as goal

pub invariant_of-self : goal.invariant_of-self
invariant_of-self c =
    let decision = rw c.in-Decided.is at c.requires.decision in
    let clock = ap (λ (b : Book). b.clock) c.enter.ensures in (
      omega (arith, clock, decision.2),
      c.self.invariant.1,
      rw c.end.ensures (All-filter (λ (s : Sitting). not (sits_for c.in-Decided.c c.in-Decided.n s)) (λ (s : Sitting). s.n ≤ number_of 1 c.self.inside.least.held s.peer) _ c.self.invariant.2),
    )

abbrev state : ℕ → Numbers → Book → List Sitting → EngineState
state counter least b ss = record { book = b; counter = counter; sittings = ss; least = least }

pub returns-in-Decided-clause-keeps : goal.returns-in-Decided-clause-keeps
returns-in-Decided-clause-keeps c =
    let i = c.self.inside in
    let d = c.in-Decided in
    let decision = rw (← c.self.view_is, d.is) at c.requires.decision in
    let made = c.enter.ensures ∙ ap (with_decision i.book.held d.stamp d.c d.n) c.as_slice.ensures in
    let entered = ap (λ b. state i.counter i.least.held b c.end.new.self.held) made ∙ ap (state i.counter i.least.held (with_decision i.book.held d.stamp d.c d.n d.writes)) c.end.ensures in
    rw (← c.self.view_is, d.is) (λ log h. held_entered log (state i.counter i.least.held i.book.held i.sittings.held) (state i.counter i.least.held c.enter.new.self.held c.end.new.self.held) (Decided d.stamp d.c d.n d.writes) decision entered h)
