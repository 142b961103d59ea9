use Rattle.std.proofs.Common.{◌∙◌, ap, sym, slice_get, slice_set, ◌<◌, List, [], length, subst}
use Rattle.std.specs.Prelude.{unwrap_or}
use Rattle.ic_base.specs.declared.messages.Send.{Send}
use Rattle.ic_model.proofs.Indexing.{link-put}
use Rattle.ic_model.proofs.index.MessageIndex.send.Goals as goal

pub returns : goal.returns
returns c = λ receipts sent h.
    let reached = c.in_ok-reach.ensures.same receipts sent h in
    let items = c.reach.new.self.sent.items in
    let within : c.from.result < length items = subst (λ i. i < length items) (sym c.from.ensures) c.in_ok-reach.ensures.there in
    record {
      taken = reached.taken;
      sent_to = λ d. ap (λ (l : List Send). unwrap_or (slice_get (slice_set items c.from.result l) d.0) []) c.in_ok-push.ensures.ok
          ∙ link-put items sent c.index_mut.result.now c.args.message.now c.from.result d c.from.ensures within c.index_mut.ensures.value reached.sent_to;
    }
