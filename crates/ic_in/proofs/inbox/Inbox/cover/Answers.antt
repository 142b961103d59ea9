use Rattle.std.proofs.Common.{◌∙◌, ap, refl, map, List}
use Rattle.def_state.specs.Inbox.{Receipt, Inbox, cover_one}
use Rattle.ic_in.specs.Views.{receipt_of}
use Rattle.ic_in.proofs.Kept.{kept-covered, kept-same, receipts-covered}
use Rattle.ic_in.proofs.inbox.Inbox.cover.Goals as goal

pub invariant_of-self : goal.invariant_of-self
invariant_of-self c =
    kept-same _ _ _ _ _ _ _ _ _ _ refl c.cover_rows.ensures.covered refl refl refl (kept-covered c.self.inside.taken.seen c.self.inside.rows.items c.self.inside.names.seen c.self.inside.first c.self.inside.quiet c.args.at c.self.invariant)

pub returns-clause-covered : goal.returns-clause-covered
returns-clause-covered c =
    let P : List Receipt → Inbox = λ rs. record { taken = c.self.inside.taken.seen; receipts = rs } in
    let Q : Inbox → Inbox = λ o. record { taken = o.taken; receipts = map (cover_one c.args.at) o.receipts } in
    ap P (ap (map receipt_of) c.cover_rows.ensures.covered ∙ receipts-covered c.args.at c.self.inside.rows.items) ∙ ap (λ v. Q v.seen) c.self.view_is
