use Rattle.std.proofs.Common.{◌≡◌, ◌∙◌, ap, sym, refl, Bool, true, false}
use Rattle.std.specs.Prelude.{◌||◌}
use Rattle.std.specs.List.{list_any}
use Rattle.ic_base.specs.declared.messages.Level.TheVariants.{Nothing}
use Rattle.def_state.specs.Names.{Identity, same_identity}
use Rattle.ic_index.proofs.Identities.{same-refl}
use Rattle.ic_in.specs.declared.inbox.Row.{Row}
use Rattle.ic_in.proofs.Ordering.{insert-any}
use Rattle.ic_in.proofs.Kept.{kept-took, kept-same, new-name}
use Rattle.ic_in.proofs.inbox.Inbox.took.Goals as goal

or-true : (b : Bool) → (b || true) ≡ true
or-true true = refl
or-true false = refl

pub push-requires-clause-new : goal.push-requires-clause-new
push-requires-clause-new c =
    let x : Identity = record { peer = c.args.from; k = c.args.k } in
    ap (list_any (same_identity x)) (sym c.self.invariant.named)
    ∙ new-name c.self.inside.taken.seen c.self.inside.rows.items x c.self.invariant.recorded (ap (λ v. list_any (same_identity x) v.seen.taken) c.self.view_is ∙ c.requires.new)

pub invariant_of-self : goal.invariant_of-self
invariant_of-self c =
    let x : Identity = record { peer = c.args.from; k = c.args.k } in
    let r : Row = record { from = c.args.from; k = c.args.k; at = c.args.at; covered = c.args.whole; told = Nothing } in
    let member : (z : Identity) → list_any (same_identity z) c.insert.new.self.seen ≡ (same_identity z x || list_any (same_identity z) c.self.inside.taken.seen) = λ z. ap (list_any (same_identity z)) c.insert.ensures.inserted ∙ insert-any z x c.self.inside.taken.seen in
    let there = member x ∙ ap (λ b. b || list_any (same_identity x) c.self.inside.taken.seen) (same-refl x) in
    let kept = kept-took c.self.inside.taken.seen c.insert.new.self.seen c.self.inside.rows.items c.self.inside.names.seen c.self.inside.first c.self.inside.quiet r c.self.invariant there (λ z e. member z ∙ ap (λ b. same_identity z x || b) e ∙ or-true (same_identity z x)) in
    kept-same _ _ _ _ _ _ _ _ _ _ refl c.push_back_reserved.ensures.items c.push.ensures.last refl c.min-self-inside.ensures kept
