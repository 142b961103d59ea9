use Rattle.std.proofs.Common.{◌∙◌, sym}
use Rattle.def_step.specs.Pcom.{Checkpoints, is_replaying, in_hand}
use Rattle.ic_pcom.specs.Views.{component_of}
use Rattle.ic_pcom.proofs.Idle.{misses, free_by}
use Rattle.ic_pcom.proofs.Planned.{up_is}
use Rattle.ic_pcom.proofs.Results.{ok_then, err_then}
use Rattle.ic_pcom.proofs.Steps.{idles}
use Rattle.ic_pcom.proofs.Still.{keeps_log, calls_none, idle_calls, leaves_still}
use Rattle.ic_pcom.proofs.pcom.Pcom.checkpoint.Goals as goal

pub returns-then-not-is_idle-clause-step : goal.returns-then-not-is_idle-clause-step
returns-then-not-is_idle-clause-step g c program =
    let p = c.args.self.now in
    let m = misses program p (sym c.is_idle.ensures ∙ c.if-not-is_idle.true) in
    idles program p Checkpoints m.0 m.1 c.requires.open _ c.nothing.ensures

pub returns-then-not-is_idle-clause-log : goal.returns-then-not-is_idle-clause-log
returns-then-not-is_idle-clause-log g c = keeps_log c.args.self.now c.requires.open

pub returns-then-not-is_idle-clause-crash : goal.returns-then-not-is_idle-clause-crash
returns-then-not-is_idle-clause-crash g c program =
    let p = c.args.self.now in
    let law = g.met.D.Disk in
    leaves_still {D = g.row.D.Denot} {d = g.D.Disk} p program Checkpoints c.requires.open law.only_now law.keeping_tells

pub returns-then-not-is_idle-clause-calls : goal.returns-then-not-is_idle-clause-calls
returns-then-not-is_idle-clause-calls g c program =
    let p = c.args.self.now in
    idle_calls p program Checkpoints _ (misses program p (sym c.is_idle.ensures ∙ c.if-not-is_idle.true)).0

pub plan_checkpoint-requires-clause-up : goal.plan_checkpoint-requires-clause-up
plan_checkpoint-requires-clause-up g c =
    let q = component_of c.args.self.now in
    up_is c.args.self.now (free_by (is_replaying q) (in_hand q) (sym c.is_idle.ensures ∙ c.if-not-is_idle.false)).0

pub plan_checkpoint-requires-clause-free : goal.plan_checkpoint-requires-clause-free
plan_checkpoint-requires-clause-free g c =
    let q = component_of c.args.self.now in
    (free_by (is_replaying q) (in_hand q) (sym c.is_idle.ensures ∙ c.if-not-is_idle.false)).1

pub follow-requires-clause-up : goal.follow-requires-clause-up
follow-requires-clause-up g c =
    let q = component_of c.args.self.now in
    up_is c.args.self.now (free_by (is_replaying q) (in_hand q) (sym c.is_idle.ensures ∙ c.if-not-is_idle.false)).0

pub returns-in-Ok-clause-step : goal.returns-in-Ok-clause-step
returns-in-Ok-clause-step g c = ok_then c.follow.result c.follow.ensures.step (λ told h program. h program Checkpoints ((c.in-Ok.ensures {u = tt}).decided program))

pub returns-in-Ok-clause-refused : goal.returns-in-Ok-clause-refused
returns-in-Ok-clause-refused g c = err_then c.follow.result c.follow.ensures.refused (λ why h program. h program Checkpoints ((c.in-Ok.ensures {u = tt}).decided program))

pub returns-in-Ok-clause-crash : goal.returns-in-Ok-clause-crash
returns-in-Ok-clause-crash g c program = c.follow.ensures.crash program Checkpoints ((c.in-Ok.ensures {u = tt}).decided program)

pub returns-in-Ok-clause-calls : goal.returns-in-Ok-clause-calls
returns-in-Ok-clause-calls g c program = c.follow.ensures.calls program Checkpoints ((c.in-Ok.ensures {u = tt}).decided program)

pub returns-in-Err-clause-log : goal.returns-in-Err-clause-log
returns-in-Err-clause-log g c = keeps_log c.args.self.now c.requires.open

pub returns-in-Err-clause-crash : goal.returns-in-Err-clause-crash
returns-in-Err-clause-crash g c program =
    let p = c.args.self.now in
    let law = g.met.D.Disk in
    leaves_still {D = g.row.D.Denot} {d = g.D.Disk} p program Checkpoints c.requires.open law.only_now law.keeping_tells

pub returns-in-Err-clause-calls : goal.returns-in-Err-clause-calls
returns-in-Err-clause-calls g c program = calls_none c.args.self.now program Checkpoints _
