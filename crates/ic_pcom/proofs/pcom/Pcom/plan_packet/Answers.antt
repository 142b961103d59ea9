use Rattle.std.proofs.Common.{◌≡◌, ◌∙◌, sym, ap, subst, ◌-◌, ◌<◌, [], length, arith, Some}
use Rattle.std.specs.Prelude.{get_or}
use Rattle.def_state.specs.Vol.{Vol}
use Rattle.def_step.specs.Pcom as step
use Rattle.def_step.specs.Pcom.{Gets, Effects, decide}
use Rattle.ic_ckpt.specs.Views.{seen}
use Rattle.ic_pcom.specs.Effects.{effects_of}
use Rattle.ic_gate.specs.RecordLogs.{records_of}
use Rattle.ic_pcom.specs.Carrying.{last_in, up}
use Rattle.ic_pcom.specs.Deciding.{IsReady}
use Rattle.ic_pcom.proofs.Lasts.{last-get, none_in}
use Rattle.ic_pcom.proofs.Packets.{AreLeading, packet_leads, led_decided, led_ready}
use Rattle.ic_pcom.proofs.Planned.{stands_up}
use Rattle.ic_pcom.proofs.pcom.Pcom.plan_packet.Goals as goal

pub returns-then-n-eq0-clause-decided : goal.returns-then-n-eq0-clause-decided
returns-then-n-eq0-clause-decided g c =
    let p = c.args.self.now in
    let v = seen c.state-state.result.now in
    let l = records_of p.log in
    let program = c.args.program.now in
    let dec : decide program p.«com» (up l v) (Gets c.args.p.now) ≡ effects_of c.in_ok-decided.decided = c.in_ok-decided.ensures l [] (sym c.forced_end.ensures) in
    ap (λ (q : step.Pcom). decide program p.«com» q (Gets c.args.p.now)) (stands_up p v c.requires.up c.state-state.ensures) ∙ dec

pub returns-then-n-eq0-clause-ready : goal.returns-then-n-eq0-clause-ready
returns-then-n-eq0-clause-ready g c = none_in _ (sym c.len-n.ensures ∙ c.if-n-eq0.true)

pub returns-clause-decided : goal.returns-clause-decided
returns-clause-decided g c =
    let p = c.args.self.now in
    let v = seen c.state-state.result.now in
    let l = records_of p.log in
    let program = c.args.program.now in
    let e = c.in_ok-decided.decided in
    let r = c.index-as_slice-n.result in
    let dec : decide program p.«com» (up l v) (Gets c.args.p.now) ≡ effects_of e = c.in_ok-decided.ensures l [] (sym c.forced_end.ensures) in
    let Leading : Effects → Type 0 = λ x. AreLeading program p.«com» l v x in
    let some : 0 < length e.adds = omega (arith, c.len-n.ensures, c.if-n-eq0.false) in
    let last : last_in e.adds ≡ Some r = last-get e.adds (c.len-n.result - 1) r (omega (arith, c.len-n.ensures, c.if-n-eq0.false)) (c.index-as_slice-n.is ∙ ap (λ l. get_or l (c.len-n.result - 1) r) c.as_slice.ensures) in
    led_decided p program (Gets c.args.p.now) v e r c.in_ok-prepared.prepared (stands_up p v c.requires.up c.state-state.ensures) dec (subst Leading dec (packet_leads program p.«com» l v c.args.p.now)) some last c.in_ok-prepared.ensures.prepared

pub returns-clause-ready : goal.returns-clause-ready
returns-clause-ready g c =
    let p = c.args.self.now in
    let v = seen c.state-state.result.now in
    let l = records_of p.log in
    let program = c.args.program.now in
    let e = c.in_ok-decided.decided in
    let r = c.index-as_slice-n.result in
    let dec : decide program p.«com» (up l v) (Gets c.args.p.now) ≡ effects_of e = c.in_ok-decided.ensures l [] (sym c.forced_end.ensures) in
    let Leading : Effects → Type 0 = λ x. AreLeading program p.«com» l v x in
    let Ready : Vol → Type 0 = λ x. IsReady x e in
    let some : 0 < length e.adds = omega (arith, c.len-n.ensures, c.if-n-eq0.false) in
    let last : last_in e.adds ≡ Some r = last-get e.adds (c.len-n.result - 1) r (omega (arith, c.len-n.ensures, c.if-n-eq0.false)) (c.index-as_slice-n.is ∙ ap (λ l. get_or l (c.len-n.result - 1) r) c.as_slice.ensures) in
    subst Ready (sym c.state-state.ensures) (led_ready program p.«com» l v e r (subst Leading dec (packet_leads program p.«com» l v c.args.p.now)) some last c.in_ok-prepared.ensures.place)
