use Rattle.std.proofs.Common.{◌≡◌, ◌∙◌, ap, sym, refl, subst, ⊎_elim, ℕ, ℤ, Bool, true, cond, List, Option, None, Some, true≢false, ◌⊎◌}
use Rattle.std.specs.Prelude.{◌&&◌}
use Rattle.std.specs.Cmp.{unsigned_Decides}
use Rattle.ic_base.specs.declared.events.Answer.{Answer}
use Rattle.ic_base.specs.declared.events.Answer.TheVariants as answers
use Rattle.ic_base.specs.declared.events.What.{What}
use Rattle.ic_base.specs.declared.events.What.TheVariants as whats
use Rattle.ic_base.specs.declared.events.Trace.{Trace}
use Rattle.ic_base.specs.declared.messages.ComId.{ComId}
use Rattle.def_run.specs.CrashFree.{is_received, received_by}
use Rattle.ic_client.proofs.front.Front.saw.Goals as goal
use Rattle.ic_client.proofs.front.Front.saw.Goals.{in-Taken, in_default-matches}

received : (answer : Answer) → (answer ≡ answers.Taken) ⊎ (answer ≡ answers.Kept) → is_received answer ≡ true
received answer is = ⊎_elim (λ e. ap is_received e) (λ e. ap is_received e) is

-- such an input is received by its component
is-received : (t : Trace) (c : ComId) (handler : ℕ) (args : List ℤ) → t.event.what ≡ whats.Input c handler args → is_received t.answer ≡ true → received_by c t ≡ Some (handler, args)
is-received t c handler args is taken =
    let P : What → Type 0 = λ w. received_by c (record t { event = record t.event { what = w } }) ≡ Some (handler, args) in
    let some : Bool → Option (ℕ × List ℤ) = λ b. cond b (Some (handler, args)) None in
    subst P (sym is) (ap (λ b. some (b && is_received t.answer)) ((unsigned_Decides c.0 c.0).1 refl) ∙ ap some taken)

pub take-requires-clause-new : goal.take-requires-clause-new
take-requires-clause-new c =
    let x = c.in-Input-default in
    elim c.match-matches.branch [
      | in-Taken w ↦ (c.requires.may x.c (x.handler, x.args) (is-received c.args.t.now x.c x.handler x.args x.is-0 (received c.args.t.now.answer w.in-Taken.is))).0
      | in_default-matches w ↦ absurd (true≢false (sym c.if-matches.true ∙ w.matches-is))
    ]

pub take-requires-clause-room : goal.take-requires-clause-room
take-requires-clause-room c =
    let x = c.in-Input-default in
    elim c.match-matches.branch [
      | in-Taken w ↦ (c.requires.may x.c (x.handler, x.args) (is-received c.args.t.now x.c x.handler x.args x.is-0 (received c.args.t.now.answer w.in-Taken.is))).1
      | in_default-matches w ↦ absurd (true≢false (sym c.if-matches.true ∙ w.matches-is))
    ]
