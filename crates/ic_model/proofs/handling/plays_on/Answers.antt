use Rattle.std.proofs.Common.{◌≡◌, ◌≤◌, ap, sym, subst, ◌∙◌, length, take, Some, []}
use Rattle.def_plain.specs.Cell.{come_to, hand_played}
use Rattle.ic_model.specs.Index.{IsIndexOf}
use Rattle.ic_model.proofs.Indexing.{sent-behind, index-behind}
use Rattle.ic_model.proofs.handling.plays_on.Goals as goal

pub send_all-requires : goal.send_all-requires
send_all-requires c = subst (λ n. n ≤ length c.in_ok-next.next.sent) (sym c.len-sent_before.ensures) (sent-behind (record c.args.pcom { hand = Some c.args.hand }) c.in_ok-played.played c.in_ok-next.next c.in_ok-next.ensures)

pub returns-clause-next : goal.returns-clause-next
returns-clause-next c =
    let holding = record c.args.pcom { hand = Some c.args.hand } in
    let played : c.in_ok-played.played ≡ hand_played c.args.program.now c.args.«com» c.args.pcom c.args.hand [] = c.in_ok-played.ensures ∙ ap (hand_played c.args.program.now c.args.«com» c.args.pcom c.args.hand) c.new-none.ensures in
    c.in_ok-next.ensures ∙ ap (come_to holding) played

pub returns-clause-index : goal.returns-clause-index
returns-clause-index c =
    c.in_ok-send_all.ensures c.in_ok-next.next.receipts (subst (λ n. IsIndexOf c.in_ok-next.next.receipts (take n c.in_ok-next.next.sent) c.args.index.now) (sym c.len-sent_before.ensures) (index-behind (record c.args.pcom { hand = Some c.args.hand }) c.in_ok-played.played c.in_ok-next.next c.args.index.now c.in_ok-next.ensures c.requires))
