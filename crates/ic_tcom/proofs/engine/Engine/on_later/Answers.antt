use Rattle.std.proofs.Common.{◌≡◌, ◌∙◌, ap, sym, arith, length, refl, Some, find, ℕ, ℤ, List, slice_get, IfSome}
use Rattle.std.specs.Option.{option_copied}
use Rattle.def_step.specs.Tcom.{Sitting, done, reply_at}
use Rattle.ic_tcom.specs.EngineState.{EngineState}
use Rattle.ic_tcom.specs.Sittings.{holds_for_another, with_sitting}
use Rattle.ic_tcom.proofs.Found.{serves_found, changed_at}
use Rattle.ic_tcom.proofs.Laters.{later_held, later_done}
use Rattle.ic_tcom.proofs.OneEach.{served_changed}
use Rattle.ic_tcom.proofs.engine.Engine.on_later.Goals as goal

pub returns-in-Some-holder-clause-step : goal.returns-in-Some-holder-clause-step
returns-in-Some-holder-clause-step c =
    let xs = c.self.inside.sittings.held in
    let found = sym c.in-Some.ensures.found ∙ c.at-sitting.ensures in
    let its = serves_found c.args.session c.args.on.peer c.args.on.n xs c.at-sitting.result.now found in
    let next : c.args.place ≡ length c.at-sitting.result.now.answers = omega arith in
    let other = ap (λ (k : ℕ). find (holds_for_another c.args.on.peer c.args.on.n k) xs) (sym c.key_of.ensures) ∙ sym c.in-Some-holder.ensures in
    let v : EngineState = record { book = c.self.inside.book.held; counter = c.self.inside.counter; sittings = c.self.inside.sittings.held; least = c.self.inside.least.held } in
    rw (← c.self.view_is) (λ log. later_held c.args.on.tcom c.args.on.peer c.args.on.n c.args.place c.args.session c.args.request v log c.at-sitting.result.now its.0 its.1 _ found next c.in-Some-holder.other.now c.held_by.result other c.held_by.ensures)

-- the session's next state is what its request makes of it
given : (xs : List Sitting) (i : ℕ) (s : Sitting) (P : Sitting → Type 0) → IfSome (slice_get xs i) P → slice_get xs i ≡ Some s → P s
given xs i s P h is = rw is at h

pub returns-clause-step : goal.returns-clause-step
returns-clause-step c =
    let xs = c.self.inside.sittings.held in
    let s = c.at-sitting.result.now in
    let found = sym c.in-Some.ensures.found ∙ c.at-sitting.ensures in
    let its = serves_found c.args.session c.args.on.peer c.args.on.n xs s found in
    let next : c.args.place ≡ length s.answers = omega arith in
    let none = ap (λ (k : ℕ). find (holds_for_another c.args.on.peer c.args.on.n k) xs) (sym c.key_of.ensures) ∙ sym c.holder.ensures ∙ ap option_copied c.in_default-holder.is in
    let after = done c.self.inside.book.held.ledger s c.args.request in
    let made = given xs c.in-Some.at s (λ (s : Sitting). c.take_on.new.self.held ≡ with_sitting (done c.ledger.result.now s c.args.request) xs) c.in_ok-take_on.ensures.done c.at-sitting.ensures in
    let now = made ∙ ap (λ (l : List ℤ). with_sitting (done l s c.args.request) xs) c.ledger.ensures in
    let read = changed_at xs c.in-Some.at s after c.at.result.now c.at-sitting.ensures refl refl (ap (λ (ys : List Sitting). slice_get ys c.in-Some.at) (sym now) ∙ c.at.ensures) in
    let reply = c.reply_at-2.ensures ∙ ap (λ (r : Sitting). reply_at c.args.on.tcom r c.args.place) read in
    let v : EngineState = record { book = c.self.inside.book.held; counter = c.self.inside.counter; sittings = c.self.inside.sittings.held; least = c.self.inside.least.held } in
    rw (← c.self.view_is) (λ log. later_done c.args.on.tcom c.args.on.peer c.args.on.n c.args.place c.args.session c.args.request v log s its.0 its.1 _ found next c.take_on.new.self.held c.reply_at-2.result none now reply)

pub invariant_of-self-2 : goal.invariant_of-self-2
invariant_of-self-2 c =
    let e = c.self.inside in
    let made = given e.sittings.held c.in-Some.at c.at-sitting.result.now (λ (s : Sitting). c.take_on.new.self.held ≡ with_sitting (done c.ledger.result.now s c.args.request) e.sittings.held) c.in_ok-take_on.ensures.done c.at-sitting.ensures in
    (c.self.invariant.0, c.self.invariant.1, rw made (served_changed e.least.held (done c.ledger.result.now c.at-sitting.result.now c.args.request) e.sittings.held c.self.invariant.2))
