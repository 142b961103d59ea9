use Rattle.std.proofs.Common.{◌∙◌, ◌++◌, ap, sym}
use Rattle.def_state.specs.Image.{link_bytes}
use Rattle.ic_ckpt.proofs.Spelling.{one-more, counted-is}
use Rattle.ic_ckpt.proofs.writing.put_links.Goals as goal

pub loop-to-preserved : goal.loop-to-preserved
loop-to-preserved c =
    one-more link_bytes c.args.outbox.now.seen.links c.loop-to.i c.loop-to.body.items c.put_link.new.out.items (c.in-Some.to, c.in-Some.sent) c.loop-to.invariant (sym c.in-Some.ensures) c.in_ok-put_link.ensures

pub returns : goal.returns
returns c =
    counted-is link_bytes c.args.outbox.now.seen.links c.loop-to.i c.args.out.now.items c.loop-to.body.items c.push.new.self.items c.extend_from_slice.new.self.items c.loop-to.invariant (sym c.in_default.ensures) c.in_ok-push.ensures.items
    (c.in_ok-extend_from_slice.ensures.items ∙ ap (λ l. c.push.new.self.items ++ l) c.as_slice.ensures.value)
