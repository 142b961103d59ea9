use Rattle.std.proofs.Common.{◌≡◌, ◌∙◌, ap, sym, arith}
use Rattle.std.specs.List.{position_or_len}
use Rattle.def_state.specs.Inbox.{is_loud}
use Rattle.ic_in.proofs.Louds.{first-loud, loud-read}
use Rattle.ic_in.proofs.inbox.Inbox.loud.Goals as goal

pub returns-then-is_waiting : goal.returns-then-is_waiting
returns-then-is_waiting c =
    let long = c.self.inside.rows.ok.0 in
    first-loud c.args.forced c.self.inside.rows.items c.loop-i.i (omega arith) c.loop-i.invariant (λ d b. loud-read c.args.forced c.self.inside.rows.items c.loop-i.i c.index-row.result.now b c.index-row.ensures c.if-row-forced.true (sym c.is_waiting.ensures ∙ c.if-is_waiting.true) d)
    ∙ ap (λ v. position_or_len (is_loud c.args.forced) v.seen.receipts) c.self.view_is

pub returns : goal.returns
returns c =
    let long = c.self.inside.rows.ok.0 in
    let bound = c.self.invariant.within in
    let end : c.len.result ≡ c.loop-i.i = omega arith in
    end
    ∙ first-loud c.args.forced c.self.inside.rows.items c.loop-i.i (omega arith) c.loop-i.invariant (λ d b. absurd (omega arith))
    ∙ ap (λ v. position_or_len (is_loud c.args.forced) v.seen.receipts) c.self.view_is
