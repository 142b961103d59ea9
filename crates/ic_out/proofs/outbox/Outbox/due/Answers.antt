use Rattle.std.proofs.Common.{◌≡◌, ◌∙◌, ap, arith}
use Rattle.std.specs.List.{position_or_len}
use Rattle.def_state.specs.Outbox.{is_due}
use Rattle.ic_out.proofs.Dues.{first-due, due-read}
use Rattle.ic_out.proofs.outbox.Outbox.due.Goals as goal

pub returns-then-row-forced : goal.returns-then-row-forced
returns-then-row-forced c =
    let long = c.self.inside.rows.ok.0 in
    first-due c.args.forced c.self.inside.rows.items c.loop-i.i (omega arith) c.loop-i.invariant (λ d b. due-read c.args.forced c.self.inside.rows.items c.loop-i.i c.index-row.result.now b c.index-row.ensures c.if-not-row.true c.if-row-forced.true d)
    ∙ ap (λ v. position_or_len (is_due c.args.forced) v.seen.held) c.self.view_is

pub returns : goal.returns
returns c =
    let long = c.self.inside.rows.ok.0 in
    let bound = c.self.invariant.within in
    let end : c.len.result ≡ c.loop-i.i = omega arith in
    end
    ∙ first-due c.args.forced c.self.inside.rows.items c.loop-i.i (omega arith) c.loop-i.invariant (λ d b. absurd (omega arith))
    ∙ ap (λ v. position_or_len (is_due c.args.forced) v.seen.held) c.self.view_is
