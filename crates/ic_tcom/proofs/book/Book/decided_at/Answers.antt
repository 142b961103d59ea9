use Rattle.std.proofs.Common.{◌∙◌, ap}
use Rattle.def_step.specs.Tcom.{Book, decided_at}
use Rattle.ic_tcom.specs.Roomy.{Roomy}
use Rattle.ic_tcom.proofs.book.Book.decided_at.Goals as goal

pub returns : goal.returns
returns c = c.copied.ensures ∙ c.get.ensures.value ∙ c.self.invariant.0 c.args.c.0 c.args.n ∙ ap (λ (v : Roomy Book). decided_at v.held c.args.c c.args.n) c.self.view_is
