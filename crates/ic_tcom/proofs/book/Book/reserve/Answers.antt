use Rattle.std.proofs.Common.{◌∙◌}
use Rattle.ic_tcom.proofs.book.Book.reserve.Goals as goal

pub invariant_of-self-2 : goal.invariant_of-self-2
invariant_of-self-2 c = (
  λ d n. c.reserve-3.ensures.entries.2 (d, n) ∙ c.self.invariant.0 d n,
  c.reserve.ensures.same ∙ c.self.invariant.1,
  rw (c.reserve.ensures.same, c.reserve-2.ensures.same) c.self.invariant.2,
  c.self.invariant.3,
  c.self.invariant.4,
)
