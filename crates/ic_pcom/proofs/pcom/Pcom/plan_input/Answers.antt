use Rattle.std.proofs.Common.{◌≡◌, ◌∙◌, sym, ap, refl, subst, ◌+◌, Bool, true, false, cond, [], ◌∷◌}
use Rattle.std.specs.Prelude.{is_some, IsTrue}
use Rattle.ic_base.specs.declared.record.Record.{Record}
use Rattle.ic_base.specs.declared.record.Record.TheVariants.{Input}
use Rattle.def_state.specs.Positions.{end_of}
use Rattle.def_state.specs.Vol.{Vol}
use Rattle.def_step.specs.Pcom.{Gives, Took, Effects, decide, just_tail, nothing_at_all}
use Rattle.ic_ckpt.specs.Views.{seen}
use Rattle.ic_pcom.specs.Effects.{effects_of}
use Rattle.ic_gate.specs.RecordLogs.{records_of}
use Rattle.ic_replay.specs.Preparing.{has_content, has_place}
use Rattle.ic_pcom.specs.Carrying.{up}
use Rattle.ic_pcom.proofs.Planned.{stands_up, one_decided, one_ready}
use Rattle.ic_pcom.proofs.pcom.Pcom.plan_input.Goals as goal

pub returns-clause-decided : goal.returns-clause-decided
returns-clause-decided g c =
    let p = c.args.self.now in
    let v = seen c.state-state.result.now in
    let l = records_of p.log in
    let program = c.args.program.now in
    let e = c.in_ok-decided.decided in
    let r : Record = Input (v.clock + 1) c.args.handler c.args.args in
    let plain : Effects = record just_tail { word = Took; adds = r ∷ []; forces = true } in
    let free : is_some v.hand ≡ false = ap (λ (x : Vol). is_some x.hand) (sym c.state-state.ensures) ∙ c.requires.free in
    let dec : decide program p.«com» (up l v) (Gives c.args.handler c.args.args) ≡ effects_of e = c.in_ok-decided.ensures program p.«com» (end_of l.forced) l [] refl in
    let is : effects_of e ≡ plain = sym dec ∙ ap (λ (b : Bool). cond b nothing_at_all plain) free in
    one_decided p program (Gives c.args.handler c.args.args) v e r c.in_ok-prepared.prepared (stands_up p v c.requires.up c.state-state.ensures) dec
    (ap (λ (x : Effects). x.adds) is) (ap (λ (x : Effects). x.marks) is) (ap (λ (x : Effects). has_content x.content r) is) c.in_ok-prepared.ensures.prepared

pub returns-clause-ready : goal.returns-clause-ready
returns-clause-ready g c =
    let p = c.args.self.now in
    let v = seen c.state-state.result.now in
    let l = records_of p.log in
    let program = c.args.program.now in
    let e = c.in_ok-decided.decided in
    let r : Record = Input (v.clock + 1) c.args.handler c.args.args in
    let plain : Effects = record just_tail { word = Took; adds = r ∷ []; forces = true } in
    let free : is_some v.hand ≡ false = ap (λ (x : Vol). is_some x.hand) (sym c.state-state.ensures) ∙ c.requires.free in
    let dec : decide program p.«com» (up l v) (Gives c.args.handler c.args.args) ≡ effects_of e = c.in_ok-decided.ensures program p.«com» (end_of l.forced) l [] refl in
    let is : effects_of e ≡ plain = sym dec ∙ ap (λ (b : Bool). cond b nothing_at_all plain) free in
    let Has : Vol → Type 0 = λ x. IsTrue (has_place x r) in
    one_ready _ e r (ap (λ (x : Effects). x.adds) is) tt (subst Has (sym c.state-state.ensures) c.in_ok-prepared.ensures.place)
