use Rattle.std.proofs.Common.{◌∙◌, ◌++◌, ap, map}
use Rattle.def_state.specs.Outbox.{Held}
use Rattle.def_state.specs.Image.{message_bytes}
use Rattle.ic_ckpt.proofs.Spelling.{one-more, told-some, told-none, listed-is, listed-mapped}
use Rattle.ic_ckpt.proofs.writing.put_messages.Goals as goal

pub loop-message-preserved : goal.loop-message-preserved
loop-message-preserved c =
    let xs = c.args.outbox.now.seen.held in
    one-more message_bytes (map (λ (h : Held). h.msg) xs) c.loop-message.i c.loop-message.body.items c.put_message.new.out.items c.in-Some.message c.loop-message.invariant (told-some (λ (h : Held). h.msg) xs c.loop-message.i c.in-Some.message c.in-Some.ensures) c.in_ok-put_message.ensures

pub returns : goal.returns
returns c =
    let xs = c.args.outbox.now.seen.held in
    listed-is message_bytes (map (λ (h : Held). h.msg) xs) c.loop-message.i c.args.out.now.items c.loop-message.body.items c.put_word.new.out.items c.extend_from_slice.new.self.items c.loop-message.invariant (told-none (λ (h : Held). h.msg) xs c.loop-message.i c.in_default.ensures) c.in_ok-put_word.ensures.spelled
    (c.in_ok-extend_from_slice.ensures.items ∙ ap (λ l. c.put_word.new.out.items ++ l) c.as_slice.ensures.value)
    ∙ ap (λ l. c.args.out.now.items ++ l) (listed-mapped message_bytes (λ (h : Held). h.msg) xs)
