use Rattle.std.proofs.Common.{◌≡◌, ◌∙◌, ap, sym, arith, length, map, List, option_map, Some}
use Rattle.std.specs.Prelude.{find}
use Rattle.std.specs.List.{position_or_len}
use Rattle.std.proofs.lemmas.List.{length-map}
use Rattle.def_state.specs.Inbox.{Receipt, Inbox, is_loud, tell_first, ack_of}
use Rattle.ic_index.proofs.Reading.{nothing-at, all-passed}
use Rattle.ic_in.specs.Views.{receipt_of}
use Rattle.ic_in.proofs.Louds.{told-first, acked-first, none-loud, quiet-loud, behind-forced}
use Rattle.ic_in.proofs.Kept.{kept-quiet}
use Rattle.ic_in.proofs.inbox.Inbox.next_ack.Goals as goal

pub returns-then-forced-self-clause-ack : goal.returns-then-forced-self-clause-ack
returns-then-forced-self-clause-ack c =
    let none = none-loud c.args.forced (map receipt_of c.self.inside.rows.items) (quiet-loud c.args.forced c.self.inside.quiet c.self.inside.rows.items c.if-forced-self.true c.self.invariant.later) in
    ap (option_map (ack_of c.args.forced)) (sym none.0 ∙ ap (λ v. find (is_loud c.args.forced) v.seen.receipts) c.self.view_is)

pub returns-then-forced-self-clause-told : goal.returns-then-forced-self-clause-told
returns-then-forced-self-clause-told c =
    let none = none-loud c.args.forced (map receipt_of c.self.inside.rows.items) (quiet-loud c.args.forced c.self.inside.quiet c.self.inside.rows.items c.if-forced-self.true c.self.invariant.later) in
    let same : c.args.self.now.seen.receipts ≡ tell_first c.args.forced c.args.self.now.seen.receipts = ap (λ v. v.seen.receipts) (sym c.self.view_is) ∙ sym none.1 ∙ ap (λ v. tell_first c.args.forced v.seen.receipts) c.self.view_is in
    let P : List Receipt → Inbox = λ rs. record c.args.self.now.seen { receipts = rs } in
    ap P same

pub invariant_of-self : goal.invariant_of-self
invariant_of-self c =
    let past = nothing-at c.args.self.now.seen.receipts c.loud-i.result (sym c.in-None.ensures) in
    let none : position_or_len (is_loud c.args.forced) (map receipt_of c.self.inside.rows.items) ≡ length c.self.inside.rows.items =
    ap (λ v. position_or_len (is_loud c.args.forced) v.seen.receipts) c.self.view_is
    ∙ all-passed (is_loud c.args.forced) c.args.self.now.seen.receipts c.loud-i.result c.loud-i.ensures past
    ∙ ap (λ v. length v.seen.receipts) (sym c.self.view_is)
    ∙ length-map c.self.inside.rows.items receipt_of in
    let behind = behind-forced c.args.forced c.self.inside.rows.items none in
    kept-quiet c.self.inside.taken.seen c.self.inside.rows.items c.self.inside.names.seen c.self.inside.first c.self.inside.quiet c.saturating_add-self-inside.result c.self.invariant (λ k d b w. let up = behind k d b w in omega arith)

pub returns-in-Some-clause-ack : goal.returns-in-Some-clause-ack
returns-in-Some-clause-ack c =
    ap (λ a. Some a) c.ack.ensures.ack
    ∙ sym (acked-first c.args.forced c.args.self.now.seen.receipts c.loud-i.result (receipt_of c.in-Some.row) c.loud-i.ensures (sym c.in-Some.ensures))

pub returns-in-Some-clause-told : goal.returns-in-Some-clause-told
returns-in-Some-clause-told c =
    let P : List Receipt → Inbox = λ rs. record c.args.self.now.seen { receipts = rs } in
    c.ack.ensures.told
    ∙ ap P (sym (told-first c.args.forced c.args.self.now.seen.receipts c.loud-i.result (receipt_of c.in-Some.row) c.loud-i.ensures (sym c.in-Some.ensures)))

pub returns-in-None-clause-ack : goal.returns-in-None-clause-ack
returns-in-None-clause-ack c =
    let past = nothing-at c.args.self.now.seen.receipts c.loud-i.result (sym c.in-None.ensures) in
    let none = none-loud c.args.forced c.args.self.now.seen.receipts (all-passed (is_loud c.args.forced) c.args.self.now.seen.receipts c.loud-i.result c.loud-i.ensures past) in
    sym (ap (option_map (ack_of c.args.forced)) none.0)

pub returns-in-None-clause-told : goal.returns-in-None-clause-told
returns-in-None-clause-told c =
    let past = nothing-at c.args.self.now.seen.receipts c.loud-i.result (sym c.in-None.ensures) in
    let none = none-loud c.args.forced c.args.self.now.seen.receipts (all-passed (is_loud c.args.forced) c.args.self.now.seen.receipts c.loud-i.result c.loud-i.ensures past) in
    let P : List Receipt → Inbox = λ rs. record c.args.self.now.seen { receipts = rs } in
    ap (λ v. v.seen) c.self.view_is ∙ ap P (sym none.1)
