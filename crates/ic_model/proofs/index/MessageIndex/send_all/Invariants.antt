use Rattle.std.proofs.Common.{ℕ, List, take}
use Rattle.ic_base.specs.declared.messages.ComId.{ComId}
use Rattle.ic_model.specs.Index.{IsIndexOf}
use Rattle.ic_model.proofs.index.MessageIndex.send_all.Given as goal

abbrev pub invariant-loop-at : goal.invariant-loop-at
invariant-loop-at l = (receipts : List (ComId × ℕ)) → IsIndexOf receipts (take l.fn.before l.fn.sent) l.fn.self → IsIndexOf receipts (take l.at l.fn.sent) l.self
