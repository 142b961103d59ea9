use Rattle.std.proofs.Common.{◌∙◌, ap, sym, subst, List}
use Rattle.std.specs.Prelude.{slice_get, slice_set}
use Rattle.std.proofs.lemmas.List.{map-set}
use Rattle.def_state.specs.Inbox.{Receipt, Inbox}
use Rattle.ic_in.specs.Views.{receipt_of, IsTold}
use Rattle.ic_in.proofs.Kept.{kept-told}
use Rattle.ic_in.proofs.inbox.Inbox.tell.Goals as goal

pub invariant_of-self : goal.invariant_of-self
invariant_of-self c =
    let P : List Receipt → Type 0 = λ rs. IsTold (slice_get rs c.args.i) (receipt_of c.args.row) in
    let told = subst P (ap (λ v. v.seen.receipts) (sym c.self.view_is)) c.requires in
    kept-told c.self.inside.taken.seen c.self.inside.rows.items c.self.inside.names.seen c.self.inside.first c.self.inside.quiet c.args.i c.args.row c.self.invariant told

pub returns-clause-told : goal.returns-clause-told
returns-clause-told c =
    let P : List Receipt → Inbox = λ rs. record { taken = c.self.inside.taken.seen; receipts = rs } in
    let Q : Inbox → Inbox = λ o. record { taken = o.taken; receipts = slice_set o.receipts c.args.i (receipt_of c.args.row) } in
    ap P (map-set receipt_of c.self.inside.rows.items c.args.i c.args.row) ∙ ap (λ v. Q v.seen) c.self.view_is
