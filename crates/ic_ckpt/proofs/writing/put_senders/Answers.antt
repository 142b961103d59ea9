use Rattle.std.proofs.Common.{◌∙◌, ◌<◌, ◌^◌, ◌++◌, length, ap, arith}
use Rattle.std.proofs.lemmas.Option.{slice_get_within}
use Rattle.def_state.specs.Image.{senders_of, sender_bytes}
use Rattle.ic_in.specs.Senders.{sender_of, above_bound}
use Rattle.law_image.proofs.Canonical.{senders_few}
use Rattle.ic_ckpt.proofs.Spelling.{one-more, all-at, sender-more, no-sender, counted-is}
use Rattle.ic_ckpt.proofs.writing.put_senders.Goals as goal

pub put_above-requires-clause-few : goal.put_above-requires-clause-few
unfolding sender_of
put_above-requires-clause-few c = all-at (λ x. length (above_bound x.1) < 2 ^ 32) (senders_of c.args.inbox.now.seen) c.loop-from.i c.requires.few

pub overflow_add-i : goal.overflow_add-i
overflow_add-i c = let few = senders_few c.args.inbox.now.seen in let within = c.loop-from.invariant.within in omega (arith, few, within)

pub overflow_cast-i : goal.overflow_cast-i
overflow_cast-i c = let few = senders_few c.args.inbox.now.seen in let within = c.loop-from.invariant.within in omega (arith, few, within)

pub loop-from-preserved : goal.loop-from-preserved
unfolding sender_of
loop-from-preserved c =
    let s = sender-more (sender_of c.args.inbox.now.seen.taken c.loop-from.i) c.in-Some.from.0 c.in-Some.w c.loop-from.body.items c.push.new.self.items c.put_number.new.out.items c.put_above.new.out.items (c.in-Some.ensures c.requires.peers) c.in_ok-push.ensures.items c.in_ok-put_number.ensures c.in_ok-put_above.ensures in
    one-more sender_bytes (senders_of c.args.inbox.now.seen) c.loop-from.i c.loop-from.body.items c.put_above.new.out.items s.0 c.loop-from.invariant s.1 s.2

pub loop-from-smaller : goal.loop-from-smaller
unfolding sender_of
loop-from-smaller c =
    let s = sender-more (sender_of c.args.inbox.now.seen.taken c.loop-from.i) c.in-Some.from.0 c.in-Some.w c.loop-from.body.items c.push.new.self.items c.put_number.new.out.items c.put_above.new.out.items (c.in-Some.ensures c.requires.peers) c.in_ok-push.ensures.items c.in_ok-put_number.ensures c.in_ok-put_above.ensures in
    let lt = slice_get_within (senders_of c.args.inbox.now.seen) c.loop-from.i s.0 s.1 in
    omega (arith, lt)

pub returns : goal.returns
unfolding sender_of
returns c =
    counted-is sender_bytes (senders_of c.args.inbox.now.seen) c.loop-from.i c.args.out.now.items c.loop-from.body.items c.push-2.new.self.items c.extend_from_slice.new.self.items c.loop-from.invariant (no-sender (sender_of c.args.inbox.now.seen.taken c.loop-from.i) (c.in_default.ensures c.requires.peers)) c.in_ok-push-2.ensures.items
    (c.in_ok-extend_from_slice.ensures.items ∙ ap (λ l. c.push-2.new.self.items ++ l) c.as_slice.ensures.value)
