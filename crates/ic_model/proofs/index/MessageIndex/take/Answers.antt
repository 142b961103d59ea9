use Rattle.std.proofs.Common.{◌∙◌, ap, true, cond, not}
use Rattle.ic_model.specs.Index.{same_key}
use Rattle.ic_model.proofs.Indexing.{among-added}
use Rattle.ic_model.proofs.index.MessageIndex.take.Goals as goal

pub returns : goal.returns
returns c = λ receipts sent h. (
  c.in_ok-insert.ensures.added ∙ ap not (h.taken c.args.from c.args.k),
  record {
    taken = λ s k. c.in_ok-insert.ensures.updates.0 (s.0, k) ∙ ap (cond (same_key (c.args.from.0, c.args.k) (s.0, k)) true) (h.taken s k) ∙ among-added receipts c.args.from c.args.k s k;
    sent_to = h.sent_to;
  },
)
