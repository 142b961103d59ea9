use Rattle.std.proofs.Common.{◌≡◌, ◌∙◌, ap, sym, arith, length, map, List, option_map}
use Rattle.std.specs.Prelude.{find}
use Rattle.std.specs.List.{position_or_len}
use Rattle.std.proofs.lemmas.List.{length-map}
use Rattle.def_state.specs.Outbox.{Held, Outbox, is_due, put_first}
use Rattle.ic_out.specs.Views.{held_of}
use Rattle.ic_out.proofs.Dues.{one-due, none-due, quiet-due, behind-forced}
use Rattle.ic_out.proofs.Kept.{kept-quiet}
use Rattle.ic_index.proofs.Reading.{all-passed, nothing-at}
use Rattle.ic_out.proofs.outbox.Outbox.next_due.Goals as goal

pub returns-then-forced-self-clause-due : goal.returns-then-forced-self-clause-due
returns-then-forced-self-clause-due c =
    let none = none-due c.args.forced (map held_of c.self.inside.rows.items) (quiet-due c.args.forced c.self.inside.quiet c.self.inside.rows.items c.if-forced-self.true c.self.invariant.later) in
    ap (option_map (λ h. h.msg)) (sym none.0 ∙ ap (λ v. find (is_due c.args.forced) v.seen.held) c.self.view_is)

pub returns-then-forced-self-clause-marked : goal.returns-then-forced-self-clause-marked
returns-then-forced-self-clause-marked c =
    let none = none-due c.args.forced (map held_of c.self.inside.rows.items) (quiet-due c.args.forced c.self.inside.quiet c.self.inside.rows.items c.if-forced-self.true c.self.invariant.later) in
    let same : c.args.self.now.seen.held ≡ put_first c.args.forced c.args.self.now.seen.held = ap (λ v. v.seen.held) (sym c.self.view_is) ∙ sym none.1 ∙ ap (λ v. put_first c.args.forced v.seen.held) c.self.view_is in
    let P : List Held → Outbox = λ hs. record c.args.self.now.seen { held = hs } in
    ap P same

pub invariant_of-self : goal.invariant_of-self
invariant_of-self c =
    let past = nothing-at c.args.self.now.seen.held c.due-i.result (sym c.in-None.ensures) in
    let none : position_or_len (is_due c.args.forced) (map held_of c.self.inside.rows.items) ≡ length c.self.inside.rows.items =
    ap (λ v. position_or_len (is_due c.args.forced) v.seen.held) c.self.view_is
    ∙ all-passed (is_due c.args.forced) c.args.self.now.seen.held c.due-i.result c.due-i.ensures past
    ∙ ap (λ v. length v.seen.held) (sym c.self.view_is)
    ∙ length-map c.self.inside.rows.items held_of in
    let behind = behind-forced c.args.forced c.self.inside.rows.items none in
    kept-quiet c.self.inside.rows.items c.self.inside.names.seen c.self.inside.links.seen c.self.inside.first c.self.inside.quiet c.saturating_add-self-inside.result c.self.invariant (λ k d b u. let up = behind k d b u in omega arith)

pub returns-in-Some-clause-due : goal.returns-in-Some-clause-due
returns-in-Some-clause-due c =
    let one = one-due c.args.forced c.args.self.now.seen.held c.due-i.result (held_of c.in-Some.row) c.due-i.ensures (sym c.in-Some.ensures) in
    sym (ap (option_map (λ h. h.msg)) one.0)

pub returns-in-Some-clause-marked : goal.returns-in-Some-clause-marked
returns-in-Some-clause-marked c =
    let one = one-due c.args.forced c.args.self.now.seen.held c.due-i.result (held_of c.in-Some.row) c.due-i.ensures (sym c.in-Some.ensures) in
    let P : List Held → Outbox = λ hs. record c.args.self.now.seen { held = hs } in
    c.pass.ensures.same ∙ c.mark.ensures.marked ∙ ap P (sym one.1)

pub returns-in-None-clause-due : goal.returns-in-None-clause-due
returns-in-None-clause-due c =
    let past = nothing-at c.args.self.now.seen.held c.due-i.result (sym c.in-None.ensures) in
    let none = none-due c.args.forced c.args.self.now.seen.held (all-passed (is_due c.args.forced) c.args.self.now.seen.held c.due-i.result c.due-i.ensures past) in
    sym (ap (option_map (λ h. h.msg)) none.0)

pub returns-in-None-clause-marked : goal.returns-in-None-clause-marked
returns-in-None-clause-marked c =
    let past = nothing-at c.args.self.now.seen.held c.due-i.result (sym c.in-None.ensures) in
    let none = none-due c.args.forced c.args.self.now.seen.held (all-passed (is_due c.args.forced) c.args.self.now.seen.held c.due-i.result c.due-i.ensures past) in
    let P : List Held → Outbox = λ hs. record c.args.self.now.seen { held = hs } in
    ap (λ v. v.seen) c.self.view_is ∙ ap P (sym none.1)
