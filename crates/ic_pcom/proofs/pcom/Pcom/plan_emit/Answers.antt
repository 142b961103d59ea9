use Rattle.std.proofs.Common.{◌≡◌, ◌∙◌, sym, ap, subst, ℕ, ◌<◌, [], length, arith, None, List, ℤ}
use Rattle.ic_base.specs.declared.record.Record.TheVariants.{Shown}
use Rattle.ic_base.specs.declared.scenario.Program.{Program}
use Rattle.def_state.specs.Positions.{end_of}
use Rattle.def_state.specs.Shelf.{next_due}
use Rattle.def_state.specs.Vol.{Vol}
use Rattle.def_step.specs.Pcom as step
use Rattle.def_step.specs.Pcom.{Emits, Effects, decide, on_emit}
use Rattle.ic_ckpt.specs.Views.{seen}
use Rattle.ic_pcom.specs.Effects.{effects_of}
use Rattle.ic_gate.specs.RecordLogs.{records_of}
use Rattle.ic_pcom.specs.Carrying.{last_in}
use Rattle.ic_pcom.specs.Deciding.{IsReady}
use Rattle.ic_pcom.proofs.Lasts.{none_in}
use Rattle.ic_pcom.proofs.Packets.{AreLeading, emit_leads, shows, led_decided, led_ready}
use Rattle.ic_pcom.proofs.Planned.{stands_up}
use Rattle.ic_pcom.proofs.pcom.Pcom.plan_emit.Goals as goal

pub returns-then-len-eq0-clause-decided : goal.returns-then-len-eq0-clause-decided
returns-then-len-eq0-clause-decided g c program =
    let p = c.args.self.now in
    let v = seen c.state-state.result.now in
    let l = records_of p.log in
    let is : effects_of c.in_ok-decided.decided ≡ on_emit (next_due v.shelf (end_of l.forced)) = c.in_ok-decided.ensures ∙ ap (λ (f : ℕ). on_emit (next_due v.shelf f)) c.forced_end.ensures in
    ap (λ (q : step.Pcom). decide program p.«com» q Emits) (stands_up p v c.requires.up c.state-state.ensures) ∙ sym is

pub returns-then-len-eq0-clause-ready : goal.returns-then-len-eq0-clause-ready
returns-then-len-eq0-clause-ready g c = none_in _ (sym c.len.ensures ∙ c.if-len-eq0.true)

pub returns-clause-decided : goal.returns-clause-decided
returns-clause-decided g c program =
    let p = c.args.self.now in
    let v = seen c.state-state.result.now in
    let l = records_of p.log in
    let e = c.in_ok-decided.decided in
    let o = next_due v.shelf (end_of l.forced) in
    let is : effects_of e ≡ on_emit o = c.in_ok-decided.ensures ∙ ap (λ (f : ℕ). on_emit (next_due v.shelf f)) c.forced_end.ensures in
    let Leading : Effects → Type 0 = λ x. AreLeading program p.«com» l v x in
    let some : 0 < length e.adds = omega (arith, c.len.ensures, c.if-len-eq0.false) in
    let has = shows o (omega (arith, some, ap (λ (x : Effects). length x.adds) is)) in
    led_decided p program Emits v e (Shown has.0) _ (stands_up p v c.requires.up c.state-state.ensures) (sym is) (subst Leading (sym is) (emit_leads program p.«com» l v)) some
    (ap (λ (x : Effects). last_in x.adds) is ∙ has.1) (ap (λ (a : List ℤ). record { hand = None; answers = a; played = None }) c.new.ensures)

pub returns-clause-ready : goal.returns-clause-ready
returns-clause-ready g c =
    let p = c.args.self.now in
    let v = seen c.state-state.result.now in
    let l = records_of p.log in
    let e = c.in_ok-decided.decided in
    let o = next_due v.shelf (end_of l.forced) in
    let none : Program = record { components = [] } in
    let is : effects_of e ≡ on_emit o = c.in_ok-decided.ensures ∙ ap (λ (f : ℕ). on_emit (next_due v.shelf f)) c.forced_end.ensures in
    let Leading : Effects → Type 0 = λ x. AreLeading none p.«com» l v x in
    let Ready : Vol → Type 0 = λ x. IsReady x e in
    let some : 0 < length e.adds = omega (arith, c.len.ensures, c.if-len-eq0.false) in
    let has = shows o (omega (arith, some, ap (λ (x : Effects). length x.adds) is)) in
    subst Ready (sym c.state-state.ensures)
    (led_ready none p.«com» l v e (Shown has.0) (subst Leading (sym is) (emit_leads none p.«com» l v)) some (ap (λ (x : Effects). last_in x.adds) is ∙ has.1) (sym c.has_next_place.ensures ∙ c.if-not-has_next_place.false))
