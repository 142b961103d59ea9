use Rattle.std.proofs.Common.{◌∙◌, sym}
use Rattle.ic_moves.proofs.Bounds.{none_there}
use Rattle.ic_moves.proofs.book.BookCore.value_or_none.Goals as goal

pub returns-in-None : goal.returns-in-None
returns-in-None c = none_there c.args.self.now.values.items c.args.key (sym c.value.ensures ∙ c.in-None.is)
