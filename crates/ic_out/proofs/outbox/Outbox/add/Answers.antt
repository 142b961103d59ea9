use Rattle.std.proofs.Common.{◌≡◌, ◌∙◌, ap, sym, refl, arith, false}
use Rattle.std.specs.Prelude.{◌+◌}
use Rattle.std.specs.List.{list_any}
use Rattle.def_state.specs.Names.{Identity, same_identity, number_of}
use Rattle.ic_out.specs.declared.outbox.Row.{Row}
use Rattle.ic_out.proofs.Kept.{kept-push, kept-same, new-name}
use Rattle.ic_out.proofs.outbox.Outbox.add.Goals as goal

pub push-requires-clause-new : goal.push-requires-clause-new
push-requires-clause-new c =
    let x : Identity = record { peer = c.args.msg.to; k = c.args.msg.k } in
    let sent : number_of 0 c.self.inside.links.seen c.args.msg.to ≡ number_of 0 c.args.self.now.seen.links c.args.msg.to = ap (λ v. number_of 0 v.seen.links c.args.msg.to) c.self.view_is in
    ap (list_any (same_identity x)) (sym c.self.invariant.named)
    ∙ new-name c.self.inside.rows.items c.self.inside.links.seen x c.self.invariant.sent (omega arith)

pub invariant_of-self : goal.invariant_of-self
invariant_of-self c =
    let r : Row = record { msg = c.args.msg; at = c.args.at; put = false; stable = false } in
    let sent : c.args.msg.k ≡ number_of 0 c.self.inside.links.seen c.args.msg.to + 1 = c.requires.next ∙ ap (λ v. number_of 0 v.seen.links c.args.msg.to + 1) (sym c.self.view_is) in
    let kept = kept-push c.self.inside.rows.items c.self.inside.names.seen c.self.inside.links.seen c.self.inside.first c.self.inside.quiet r c.self.invariant refl sent in
    kept-same _ _ _ _ _ _ _ _ _ _ c.push_back_reserved.ensures.items c.push.ensures.last c.put.ensures.put refl c.min-self-inside.ensures kept
