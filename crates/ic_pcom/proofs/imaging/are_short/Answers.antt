use Rattle.std.proofs.Common.{◌≡◌, ◌∙◌, sym, ap, true, arith}
use Rattle.std.specs.Prelude.{is_some}
use Rattle.def_state.specs.Inbox.{Inbox}
use Rattle.ic_in.specs.Senders.{sender_of, number_above}
use Rattle.ic_pcom.proofs.Images.{all_short, one_long}
use Rattle.ic_pcom.proofs.imaging.are_short.Goals as goal

pub returns-then-is_some-clause-long : goal.returns-then-is_some-clause-long
returns-then-is_some-clause-long c is v same =
    let some : is_some (number_above (sender_of c.args.inbox.now.seen.taken c.loop-i.i) 4294967295) ≡ true = ap is_some (sym (c.above.ensures c.requires.peers)) ∙ sym c.is_some.ensures ∙ c.if-is_some.true in
    one_long v c.loop-i.i (ap (λ (i : Inbox). is_some (number_above (sender_of i.taken c.loop-i.i) 4294967295)) same ∙ some)

pub returns-clause-short : goal.returns-clause-short
returns-clause-short c is = all_short c.args.inbox.now.seen (λ j within. c.loop-i.invariant j (omega (arith, within, c.loop-i-test.false)))
