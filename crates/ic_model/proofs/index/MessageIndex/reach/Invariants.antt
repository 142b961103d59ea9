use Rattle.std.proofs.Common.{◌≡◌, ℕ, List, length}
use Rattle.ic_base.specs.declared.messages.ComId.{ComId}
use Rattle.ic_base.specs.declared.messages.Send.{Send}
use Rattle.ic_model.specs.Index.{IsIndexOf}
use Rattle.ic_model.proofs.index.MessageIndex.reach.Given as goal

abbrev pub invariant-loop-place : goal.invariant-loop-place
invariant-loop-place l = record {
  same : (receipts : List (ComId × ℕ)) (sent : List Send) → IsIndexOf receipts sent l.fn.self → IsIndexOf receipts sent l.self;
  reached : length l.self.sent.items ≡ l._place;
}
