use Rattle.std.proofs.Common.{replicate}
use Rattle.std.proofs.lemmas.List.{length-replicate}
use Rattle.def_syntax.proofs.Limits.{blank_text}
use Rattle.ic_syntax.proofs.laws.any_length.Goals as goal

pub returns : goal.returns
returns c n h = (replicate n 10, length-replicate n 10, blank_text n h)
