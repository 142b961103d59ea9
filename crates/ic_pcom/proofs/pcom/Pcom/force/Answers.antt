use Rattle.std.proofs.Common.{◌≡◌, ◌∙◌, sym, ap, refl, true, []}
use Rattle.ic_pcom.proofs.Results.{ok_then, err_then}
use Rattle.ic_base.specs.declared.scenario.Program.{Program}
use Rattle.def_step.specs.Pcom.{Forces, Effects, is_replaying}
use Rattle.ic_pcom.specs.Views.{component_of}
use Rattle.ic_pcom.proofs.Planned.{up_is}
use Rattle.ic_pcom.proofs.Steps.{idles, replays_within, replays_idly}
use Rattle.ic_pcom.proofs.Still.{keeps_log, idle_calls, leaves_still}
use Rattle.ic_pcom.proofs.pcom.Pcom.force.Goals as goal

pub returns-then-is_replaying-clause-step : goal.returns-then-is_replaying-clause-step
returns-then-is_replaying-clause-step g c program =
    let p = c.args.self.now in
    let replays : is_replaying (component_of p) ≡ true = sym c.is_replaying.ensures ∙ c.if-is_replaying.true in
    idles program p Forces (replays_idly program p Forces replays refl) (replays_within program p Forces replays) c.requires.open _ c.nothing.ensures

pub returns-then-is_replaying-clause-crash : goal.returns-then-is_replaying-clause-crash
returns-then-is_replaying-clause-crash g c program =
    let p = c.args.self.now in
    let law = g.met.D.Disk in
    leaves_still {D = g.row.D.Denot} {d = g.D.Disk} p program Forces c.requires.open law.only_now law.keeping_tells

pub follow-requires-clause-up : goal.follow-requires-clause-up
follow-requires-clause-up g c = up_is c.args.self.now (sym c.is_replaying.ensures ∙ c.if-is_replaying.false)

pub follow-requires-clause-ready : goal.follow-requires-clause-ready
follow-requires-clause-ready g c =
    let p = c.args.self.now in
    let none : Program = record { components = [] } in
    ap (λ (e : Effects). e.adds) (c.on_force.ensures none p.«com» (component_of p))

pub returns-clause-step : goal.returns-clause-step
returns-clause-step g c = ok_then c.follow.result c.follow.ensures.step (λ told h program. h program Forces (sym (c.on_force.ensures program c.args.self.now.«com» (component_of c.args.self.now))))

pub returns-clause-refused : goal.returns-clause-refused
returns-clause-refused g c = err_then c.follow.result c.follow.ensures.refused (λ why h program. h program Forces (sym (c.on_force.ensures program c.args.self.now.«com» (component_of c.args.self.now))))

pub returns-clause-crash : goal.returns-clause-crash
returns-clause-crash g c program = c.follow.ensures.crash program Forces (sym (c.on_force.ensures program c.args.self.now.«com» (component_of c.args.self.now)))

pub returns-clause-calls : goal.returns-clause-calls
returns-clause-calls g c program = c.follow.ensures.calls program Forces (sym (c.on_force.ensures program c.args.self.now.«com» (component_of c.args.self.now)))

pub returns-then-is_replaying-clause-log : goal.returns-then-is_replaying-clause-log
returns-then-is_replaying-clause-log g c = keeps_log c.args.self.now c.requires.open

pub returns-then-is_replaying-clause-calls : goal.returns-then-is_replaying-clause-calls
returns-then-is_replaying-clause-calls g c program = idle_calls c.args.self.now program Forces _ (replays_idly program c.args.self.now Forces (sym c.is_replaying.ensures ∙ c.if-is_replaying.true) refl)
