use Rattle.std.proofs.Common.{◌∙◌, ap, refl, sym, arith, find, filter, not, ℕ}
use Rattle.std.specs.Option.{option_copied}
use Rattle.ic_base.specs.declared.messages.ComId.{ComId}
use Rattle.ic_base.specs.Programs.{same_com}
use Rattle.def_state.specs.Names.{put_number}
use Rattle.def_step.specs.Tcom.{Sitting, is_below}
use Rattle.ic_tcom.specs.Sittings.{holds_for_another}
use Rattle.ic_tcom.proofs.OneEach.{none_of_it, number_rises, served_on, served_new}
use Rattle.ic_tcom.specs.EngineState.{EngineState}
use Rattle.ic_tcom.proofs.Firsts.{first_held}
use Rattle.ic_tcom.proofs.engine.Engine.on_first.Goals as goal

pub returns-in-Some-holder_from-clause-step : goal.returns-in-Some-holder_from-clause-step
returns-in-Some-holder_from-clause-step c =
    let kept = filter (λ (s : Sitting). not (is_below c.args.on.peer c.args.on.n s)) c.self.inside.sittings.held in
    let none = sym c.of.ensures ∙ ap option_copied c.in_default.is in
    let other = ap (λ (k : ℕ). find (holds_for_another c.args.on.peer c.args.on.n k) kept) (sym c.key_of.ensures) ∙ sym c.in-Some-holder_from.ensures in
    let v : EngineState = record { book = c.self.inside.book.held; counter = c.self.inside.counter; sittings = c.self.inside.sittings.held; least = c.self.inside.least.held } in
    rw (← c.self.view_is) (λ log. first_held c.args.on.tcom c.args.on.peer c.args.on.n c.args.request v log none c.in-Some-holder_from.other.now _ _ c.held_by-held.result other c.serve_from-in-Some-holder_from.ensures.sittings (c.serve_from-in-Some-holder_from.ensures.least ∙ ap (put_number c.args.on.peer c.args.on.n) c.in_ok-reserve.ensures.same) c.held_by-held.ensures)

pub add-requires-clause-new : goal.add-requires-clause-new
add-requires-clause-new c =
    let e = c.self.inside in
    let none = sym c.of.ensures ∙ ap option_copied c.in_default.is in
    let least = rw (← c.self.view_is) at c.requires in
    let alone = none_of_it c.args.on.peer c.args.on.n e.least.held e.sittings.held least c.self.invariant.2 none in
    let held = c.serve_from-2.new.sittings.held in
    let peer = ap (λ (s : Sitting). s.peer) c.in_ok-opened.ensures in
    let same = c.serve_from-2.ensures.sittings ∙ ap (filter (λ (s : Sitting). not (is_below c.args.on.peer c.args.on.n s))) c.in_ok-reserve-2.ensures.same in
    ap (λ (p : ComId). find (λ (s : Sitting). same_com p s.peer) held) peer ∙ ap (find (λ (s : Sitting). same_com c.args.on.peer s.peer)) same ∙ alone

pub invariant_of-self-in-Some : goal.invariant_of-self-in-Some
invariant_of-self-in-Some c =
    let e = c.self.inside in
    let least = rw (← c.self.view_is) at c.requires in (
      c.self.invariant.0,
      c.self.invariant.1,
      rw (c.serve_from.ensures.sittings, c.serve_from.ensures.least, c.in_ok-reserve.ensures.same) (served_on c.args.on.peer c.args.on.n e.least.held e.sittings.held least c.self.invariant.2 (λ (s : Sitting). not (is_below c.args.on.peer c.args.on.n s))),
    )

pub invariant_of-self-in-Some-holder_from : goal.invariant_of-self-in-Some-holder_from
invariant_of-self-in-Some-holder_from c =
    let e = c.self.inside in
    let least = rw (← c.self.view_is) at c.requires in (
      c.self.invariant.0,
      c.self.invariant.1,
      rw (c.serve_from-in-Some-holder_from.ensures.sittings, c.serve_from-in-Some-holder_from.ensures.least, c.in_ok-reserve.ensures.same) (served_on c.args.on.peer c.args.on.n e.least.held e.sittings.held least c.self.invariant.2 (λ (s : Sitting). not (is_below c.args.on.peer c.args.on.n s))),
    )

pub invariant_of-self-2 : goal.invariant_of-self-2
invariant_of-self-2 c =
    let e = c.self.inside in
    let least = rw (← c.self.view_is) at c.requires in
    let peer = ap (λ (s : Sitting). s.peer) c.in_ok-opened.ensures in
    let number = ap (λ (s : Sitting). s.n) c.in_ok-opened.ensures in (
      c.self.invariant.0,
      omega (arith, c.if-self-ge-GREATEST_NUMBER.false),
      rw (c.add.ensures, c.serve_from-2.ensures.sittings, c.serve_from-2.ensures.least, c.in_ok-reserve.ensures.same, c.in_ok-reserve-2.ensures.same) (served_new c.args.on.peer c.args.on.n e.least.held e.sittings.held least c.self.invariant.2 (λ (s : Sitting). not (is_below c.args.on.peer c.args.on.n s)) c.in_ok-opened.opened peer number),
    )

pub returns-in-Some-clause-on : goal.returns-in-Some-clause-on
returns-in-Some-clause-on c =
    let least = rw (← c.self.view_is) at c.requires in
    rw (← c.self.view_is, c.serve_from.ensures.least, c.in_ok-reserve.ensures.same) (refl, λ d. number_rises c.args.on.peer d c.args.on.n c.self.inside.least.held least)

pub returns-in-Some-holder_from-clause-on : goal.returns-in-Some-holder_from-clause-on
returns-in-Some-holder_from-clause-on c =
    let least = rw (← c.self.view_is) at c.requires in
    rw (← c.self.view_is, c.serve_from-in-Some-holder_from.ensures.least, c.in_ok-reserve.ensures.same) (refl, λ d. number_rises c.args.on.peer d c.args.on.n c.self.inside.least.held least)

pub returns-clause-on : goal.returns-clause-on
returns-clause-on c =
    let least = rw (← c.self.view_is) at c.requires in
    rw (← c.self.view_is, c.serve_from-2.ensures.least, c.in_ok-reserve.ensures.same) (refl, λ d. number_rises c.args.on.peer d c.args.on.n c.self.inside.least.held least)
