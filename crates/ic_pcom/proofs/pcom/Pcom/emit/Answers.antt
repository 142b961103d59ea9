use Rattle.std.proofs.Common.{◌≡◌, ◌∙◌, sym, refl, true}
use Rattle.ic_pcom.proofs.Results.{ok_then, err_then}
use Rattle.def_step.specs.Pcom.{Emits, is_replaying}
use Rattle.ic_pcom.specs.Views.{component_of}
use Rattle.ic_pcom.proofs.Planned.{up_is}
use Rattle.ic_pcom.proofs.Steps.{idles, replays_within, replays_idly}
use Rattle.ic_pcom.proofs.Still.{unmoved, keeps_log, calls_none, idle_calls, leaves_still}
use Rattle.ic_pcom.proofs.pcom.Pcom.emit.Goals as goal

pub returns-then-is_replaying-clause-step : goal.returns-then-is_replaying-clause-step
returns-then-is_replaying-clause-step g c program =
    let p = c.args.self.now in
    let replays : is_replaying (component_of p) ≡ true = sym c.is_replaying.ensures ∙ c.if-is_replaying.true in
    idles program p Emits (replays_idly program p Emits replays refl) (replays_within program p Emits replays) c.requires.open _ c.nothing.ensures

pub returns-then-is_replaying-clause-crash : goal.returns-then-is_replaying-clause-crash
returns-then-is_replaying-clause-crash g c program =
    let p = c.args.self.now in
    let law = g.met.D.Disk in
    leaves_still {D = g.row.D.Denot} {d = g.D.Disk} p program Emits c.requires.open law.only_now law.keeping_tells

pub returns-in_default-clause-crash : goal.returns-in_default-clause-crash
returns-in_default-clause-crash g c program =
    let p = c.args.self.now in
    let law = g.met.D.Disk in
    leaves_still {D = g.row.D.Denot} {d = g.D.Disk} p program Emits c.requires.open law.only_now law.keeping_tells

pub follow-requires-clause-up : goal.follow-requires-clause-up
follow-requires-clause-up g c = up_is c.args.self.now (sym c.is_replaying.ensures ∙ c.if-is_replaying.false)

pub plan_emit-requires : goal.plan_emit-requires
plan_emit-requires g c = record { up = up_is c.args.self.now (sym c.is_replaying.ensures ∙ c.if-is_replaying.false) }

pub returns-clause-step : goal.returns-clause-step
returns-clause-step g c = ok_then c.follow.result c.follow.ensures.step (λ told h program. h program Emits ((c.in-Ok.ensures {u = tt}).decided program))

pub returns-clause-refused : goal.returns-clause-refused
returns-clause-refused g c = err_then c.follow.result c.follow.ensures.refused (λ why h program. h program Emits ((c.in-Ok.ensures {u = tt}).decided program))

pub returns-clause-crash : goal.returns-clause-crash
returns-clause-crash g c program = c.follow.ensures.crash program Emits ((c.in-Ok.ensures {u = tt}).decided program)

pub returns-clause-calls : goal.returns-clause-calls
returns-clause-calls g c program = c.follow.ensures.calls program Emits ((c.in-Ok.ensures {u = tt}).decided program)

pub returns-then-is_replaying-clause-log : goal.returns-then-is_replaying-clause-log
returns-then-is_replaying-clause-log g c = keeps_log c.args.self.now c.requires.open

pub returns-then-is_replaying-clause-calls : goal.returns-then-is_replaying-clause-calls
returns-then-is_replaying-clause-calls g c program = idle_calls c.args.self.now program Emits _ (replays_idly program c.args.self.now Emits (sym c.is_replaying.ensures ∙ c.if-is_replaying.true) refl)

pub returns-in_default-clause-log : goal.returns-in_default-clause-log
returns-in_default-clause-log g c = keeps_log c.args.self.now c.requires.open

pub returns-in_default-clause-calls : goal.returns-in_default-clause-calls
returns-in_default-clause-calls g c program = calls_none c.args.self.now program Emits _

pub returns-in_default-clause-refused : goal.returns-in_default-clause-refused
returns-in_default-clause-refused g c program = unmoved c.args.self.now c.requires.open
