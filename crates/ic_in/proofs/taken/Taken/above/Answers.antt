use Rattle.std.proofs.Common.{◌≡◌, ◌∙◌, ap, sym, subst, arith, List, Some, None, ℕ, ◌+◌, true, cond}
use Rattle.std.specs.Prelude.{slice_get}
use Rattle.std.proofs.lemmas.Bool.{eq-eqb, ne_eqb}
use Rattle.ic_base.specs.declared.messages.ComId.{ComId}
use Rattle.ic_base.specs.Programs.{same_com}
use Rattle.def_state.specs.Names.{Identity}
use Rattle.ic_index.proofs.Reading.{get-past}
use Rattle.ic_in.specs.Senders.{are_components, sender_of, number_above}
use Rattle.ic_in.proofs.Grouping.{above-none, above-at, number_if}
use Rattle.ic_in.proofs.taken.Taken.above.Goals as goal

pub returns-in_err-from : goal.returns-in_err-from
returns-in_err-from c =
    let P : List Identity → Type 0 = λ t. are_components t ≡ true → c.from_residual.result ≡ number_above (sender_of t c.args.i) c.args.j in
    let none : None ≡ slice_get c.self.inside.bounds.seen c.args.i = sym c.in_err-from.was ∙ c.at.ensures in
    subst P (ap (λ v. v.seen) c.self.view_is) (λ h. c.from_residual.ensures ∙ above-none c.self.inside.bounds.seen c.self.inside.above.seen c.args.i c.args.j none c.self.invariant h)

pub returns-then-len-first : goal.returns-then-len-first
returns-then-len-first c =
    let P : List Identity → Type 0 = λ t. are_components t ≡ true → None ≡ number_above (sender_of t c.args.i) c.args.j in
    let s : ComId × ℕ = (c.in_ok-from.from, c.in_ok-from.field-0-1) in
    let there : Some s ≡ slice_get c.self.inside.bounds.seen c.args.i = sym c.in_ok-from.was ∙ c.at.ensures in
    let at = above-at c.self.inside.bounds.seen c.self.inside.above.seen c.args.i c.args.j c.place-first.result s there c.self.invariant c.place-first.ensures.before in
    let len = c.len.ensures in
    let past : slice_get c.self.inside.above.seen (c.place-first.result + c.args.j) ≡ None = get-past c.self.inside.above.seen (c.place-first.result + c.args.j) (omega arith) in
    subst P (ap (λ v. v.seen) c.self.view_is) (λ h. sym (at h ∙ ap (number_if s.0) past))

pub returns-in_err-entry : goal.returns-in_err-entry
returns-in_err-entry c =
    let P : List Identity → Type 0 = λ t. are_components t ≡ true → c.from_residual-in_err-entry.result ≡ number_above (sender_of t c.args.i) c.args.j in
    let s : ComId × ℕ = (c.in_ok-from.from, c.in_ok-from.field-0-1) in
    let there : Some s ≡ slice_get c.self.inside.bounds.seen c.args.i = sym c.in_ok-from.was ∙ c.at.ensures in
    let at = above-at c.self.inside.bounds.seen c.self.inside.above.seen c.args.i c.args.j c.place-first.result s there c.self.invariant c.place-first.ensures.before in
    let past : slice_get c.self.inside.above.seen (c.place-first.result + c.args.j) ≡ None = sym c.at-2.ensures ∙ c.in_err-entry.was in
    subst P (ap (λ v. v.seen) c.self.view_is) (λ h. c.from_residual-in_err-entry.ensures ∙ sym (at h ∙ ap (number_if s.0) past))

pub returns-then-from-entry : goal.returns-then-from-entry
returns-then-from-entry c =
    let P : List Identity → Type 0 = λ t. are_components t ≡ true → Some c.in_ok-entry.entry.k ≡ number_above (sender_of t c.args.i) c.args.j in
    let s : ComId × ℕ = (c.in_ok-from.from, c.in_ok-from.field-0-1) in
    let there : Some s ≡ slice_get c.self.inside.bounds.seen c.args.i = sym c.in_ok-from.was ∙ c.at.ensures in
    let at = above-at c.self.inside.bounds.seen c.self.inside.above.seen c.args.i c.args.j c.place-first.result s there c.self.invariant c.place-first.ensures.before in
    let found : slice_get c.self.inside.above.seen (c.place-first.result + c.args.j) ≡ Some c.in_ok-entry.entry = sym c.at-2.ensures ∙ c.in_ok-entry.was in
    let same : same_com s.0 c.in_ok-entry.entry.peer ≡ true = eq-eqb s.0.0 c.in_ok-entry.entry.peer.0 c.if-from-entry.true in
    subst P (ap (λ v. v.seen) c.self.view_is) (λ h. sym (at h ∙ ap (number_if s.0) found ∙ ap (λ b. cond b (Some c.in_ok-entry.entry.k) None) same))

pub returns-else-from-entry : goal.returns-else-from-entry
returns-else-from-entry c =
    let P : List Identity → Type 0 = λ t. are_components t ≡ true → None ≡ number_above (sender_of t c.args.i) c.args.j in
    let s : ComId × ℕ = (c.in_ok-from.from, c.in_ok-from.field-0-1) in
    let there : Some s ≡ slice_get c.self.inside.bounds.seen c.args.i = sym c.in_ok-from.was ∙ c.at.ensures in
    let at = above-at c.self.inside.bounds.seen c.self.inside.above.seen c.args.i c.args.j c.place-first.result s there c.self.invariant c.place-first.ensures.before in
    let found : slice_get c.self.inside.above.seen (c.place-first.result + c.args.j) ≡ Some c.in_ok-entry.entry = sym c.at-2.ensures ∙ c.in_ok-entry.was in
    let other = ne_eqb s.0.0 c.in_ok-entry.entry.peer.0 c.if-from-entry.false in
    subst P (ap (λ v. v.seen) c.self.view_is) (λ h. sym (at h ∙ ap (number_if s.0) found ∙ ap (λ b. cond b (Some c.in_ok-entry.entry.k) None) other))
