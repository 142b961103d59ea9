use Rattle.std.proofs.Common.{◌≡◌, ◌∙◌, ◌+◌, [], ◌∷◌, sym, ap, refl, Bool, true, false, cond}
use Rattle.std.specs.Prelude.{is_some, ◌||◌}
use Rattle.ic_gate.specs.RecordLogs.{records_of}
use Rattle.ic_base.specs.declared.record.Record.TheVariants.{Input}
use Rattle.def_step.specs.Pcom.{Gives, Took, is_replaying, in_hand, just_tail, nothing_at_all, decide}
use Rattle.ic_pcom.specs.Carrying.{up}
use Rattle.ic_pcom.specs.Stages.{vol_of}
use Rattle.ic_pcom.specs.Views.{component_of}
use Rattle.ic_pcom.proofs.Planned.{up_is, stands_up}
use Rattle.ic_pcom.proofs.Steps.{idles, replays_within, replays_idly, stands_idly, no_limit}
use Rattle.ic_pcom.proofs.Still.{unmoved, keeps_log, calls_none, idle_calls, leaves_still}
use Rattle.ic_disk.proofs.Disks.{makes_named}
use Rattle.ic_pcom.proofs.pcom.Pcom.input.Goals as goal

pub returns-then-is_replaying-clause-step : goal.returns-then-is_replaying-clause-step
returns-then-is_replaying-clause-step g c =
    let p = c.args.self.now in
    let call = Gives c.args.handler c.args.args in
    let replays : is_replaying (component_of p) ≡ true = sym c.is_replaying.ensures ∙ c.if-is_replaying.true in
    (replays, idles c.args.program.now p call (replays_idly c.args.program.now p call replays refl) (replays_within c.args.program.now p call replays) c.requires.open _ refl)

pub returns-then-in_hand-clause-step : goal.returns-then-in_hand-clause-step
returns-then-in_hand-clause-step g c =
    let p = c.args.self.now in
    let program = c.args.program.now in
    let call = Gives c.args.handler c.args.args in
    let v = vol_of p.stage in
    let replays : is_replaying (component_of p) ≡ false = sym c.is_replaying.ensures ∙ c.if-is_replaying.false in
    let held : is_some v.hand ≡ true = sym c.in_hand.ensures ∙ c.if-in_hand.true in
    let here : component_of p ≡ up (records_of p.log) v = stands_up p v (up_is p replays) refl in
    let none : decide program p.«com» (up (records_of p.log) v) call ≡ nothing_at_all = ap (λ (b : Bool). cond b nothing_at_all (record just_tail { word = Took; adds = Input (v.clock + 1) c.args.handler c.args.args ∷ []; forces = true })) held in
    (replays, held, idles program p call (stands_idly program p call v here none) (no_limit program p call v nothing_at_all here none refl) c.requires.open _ refl)

pub returns-then-is_replaying-clause-crash : goal.returns-then-is_replaying-clause-crash
returns-then-is_replaying-clause-crash g c =
    let p = c.args.self.now in
    let law = g.met.D.Disk in
    leaves_still {D = g.row.D.Denot} {d = g.D.Disk} p c.args.program.now (Gives c.args.handler c.args.args) c.requires.open law.only_now law.keeping_tells

pub returns-then-in_hand-clause-crash : goal.returns-then-in_hand-clause-crash
returns-then-in_hand-clause-crash g c =
    let p = c.args.self.now in
    let law = g.met.D.Disk in
    leaves_still {D = g.row.D.Denot} {d = g.D.Disk} p c.args.program.now (Gives c.args.handler c.args.args) c.requires.open law.only_now law.keeping_tells

pub returns-in_default-clause-crash : goal.returns-in_default-clause-crash
returns-in_default-clause-crash g c =
    let p = c.args.self.now in
    let law = g.met.D.Disk in
    leaves_still {D = g.row.D.Denot} {d = g.D.Disk} p c.args.program.now (Gives c.args.handler c.args.args) c.requires.open law.only_now law.keeping_tells

pub plan_input-requires-clause-up : goal.plan_input-requires-clause-up
plan_input-requires-clause-up g c = up_is c.args.self.now (sym c.is_replaying.ensures ∙ c.if-is_replaying.false)

pub follow-requires-clause-up : goal.follow-requires-clause-up
follow-requires-clause-up g c = up_is c.args.self.now (sym c.is_replaying.ensures ∙ c.if-is_replaying.false)

pub returns-in-Ok-follow-clause-step : goal.returns-in-Ok-follow-clause-step
returns-in-Ok-follow-clause-step g c =
    let replays : is_replaying (component_of c.args.self.now) ≡ false = sym c.is_replaying.ensures ∙ c.if-is_replaying.false in
    let free : in_hand (component_of c.args.self.now) ≡ false = sym c.in_hand.ensures ∙ c.if-in_hand.false in
    (ap (λ (b : Bool). b || in_hand (component_of c.args.self.now)) replays ∙ free, (c.in-Ok-follow.ensures {u = tt}).step c.args.program.now (Gives c.args.handler c.args.args) (c.in-Ok.ensures {u = tt}).decided)

pub returns-then-is_replaying-clause-log : goal.returns-then-is_replaying-clause-log
returns-then-is_replaying-clause-log g c = keeps_log c.args.self.now c.requires.open

pub returns-then-in_hand-clause-log : goal.returns-then-in_hand-clause-log
returns-then-in_hand-clause-log g c = keeps_log c.args.self.now c.requires.open

pub returns-in_default-clause-log : goal.returns-in_default-clause-log
returns-in_default-clause-log g c = keeps_log c.args.self.now c.requires.open

pub returns-then-is_replaying-clause-calls : goal.returns-then-is_replaying-clause-calls
returns-then-is_replaying-clause-calls g c = idle_calls c.args.self.now c.args.program.now (Gives c.args.handler c.args.args) _ (replays_idly c.args.program.now c.args.self.now (Gives c.args.handler c.args.args) (sym c.is_replaying.ensures ∙ c.if-is_replaying.true) refl)

pub returns-then-in_hand-clause-calls : goal.returns-then-in_hand-clause-calls
returns-then-in_hand-clause-calls g c =
    let p = c.args.self.now in
    let program = c.args.program.now in
    let call = Gives c.args.handler c.args.args in
    let v = vol_of p.stage in
    let held : is_some v.hand ≡ true = sym c.in_hand.ensures ∙ c.if-in_hand.true in
    let here : component_of p ≡ up (records_of p.log) v = stands_up p v (up_is p (sym c.is_replaying.ensures ∙ c.if-is_replaying.false)) refl in
    let none : decide program p.«com» (up (records_of p.log) v) call ≡ nothing_at_all = ap (λ (b : Bool). cond b nothing_at_all (record just_tail { word = Took; adds = Input (v.clock + 1) c.args.handler c.args.args ∷ []; forces = true })) held in
    idle_calls p program call _ (stands_idly program p call v here none)

pub returns-in_default-clause-calls : goal.returns-in_default-clause-calls
returns-in_default-clause-calls g c = calls_none c.args.self.now c.args.program.now (Gives c.args.handler c.args.args) _

pub returns-in_default-clause-refused : goal.returns-in_default-clause-refused
returns-in_default-clause-refused g c = unmoved c.args.self.now c.requires.open

pub returns-in-Ok-follow-clause-crash : goal.returns-in-Ok-follow-clause-crash
returns-in-Ok-follow-clause-crash g c = c.follow.ensures.crash c.args.program.now (Gives c.args.handler c.args.args) (c.in-Ok.ensures {u = tt}).decided

pub returns-in-Ok-follow-clause-calls : goal.returns-in-Ok-follow-clause-calls
returns-in-Ok-follow-clause-calls g c = makes_named _ (λ h. cc) ((c.in-Ok-follow.ensures {u = tt}).calls c.args.program.now (Gives c.args.handler c.args.args) (c.in-Ok.ensures {u = tt}).decided)

pub returns-in-Err-clause-crash : goal.returns-in-Err-clause-crash
returns-in-Err-clause-crash g c = c.follow.ensures.crash c.args.program.now (Gives c.args.handler c.args.args) (c.in-Ok.ensures {u = tt}).decided

pub returns-in-Err-clause-calls : goal.returns-in-Err-clause-calls
returns-in-Err-clause-calls g c = makes_named _ (λ h. cc) ((c.in-Err.ensures {u = tt}).calls c.args.program.now (Gives c.args.handler c.args.args) (c.in-Ok.ensures {u = tt}).decided)

pub returns-in-Err-clause-refused : goal.returns-in-Err-clause-refused
returns-in-Err-clause-refused g c = (c.in-Err.ensures {u = tt}).refused c.args.program.now (Gives c.args.handler c.args.args) (c.in-Ok.ensures {u = tt}).decided
