use Rattle.std.proofs.Common.{◌∙◌, ◌++◌, ap, sym}
use Rattle.def_log.specs.Spelling.{number}
use Rattle.ic_in.specs.Senders.{sender_of}
use Rattle.ic_ckpt.proofs.Spelling.{one-more, numbers_of, numbers-at, listed-is, listed-above}
use Rattle.ic_ckpt.proofs.writing.put_above.Goals as goal

pub loop-k-preserved : goal.loop-k-preserved
loop-k-preserved c =
    let o = sender_of c.args.inbox.now.seen.taken c.args.i in
    one-more number (numbers_of o) c.loop-k.j c.loop-k.body.items c.put_number.new.out.items c.in-Some.k c.loop-k.invariant (numbers-at o c.loop-k.j ∙ sym (c.in-Some.ensures c.requires.peers)) c.in_ok-put_number.ensures

pub returns : goal.returns
returns c =
    let o = sender_of c.args.inbox.now.seen.taken c.args.i in
    listed-above o c.args.out.now.items c.extend_from_slice.new.self.items
    (listed-is number (numbers_of o) c.loop-k.j c.args.out.now.items c.loop-k.body.items c.put_word.new.out.items c.extend_from_slice.new.self.items c.loop-k.invariant (numbers-at o c.loop-k.j ∙ sym (c.in_default.ensures c.requires.peers)) c.in_ok-put_word.ensures.spelled
    (c.in_ok-extend_from_slice.ensures.items ∙ ap (λ l. c.put_word.new.out.items ++ l) c.as_slice.ensures.value))
