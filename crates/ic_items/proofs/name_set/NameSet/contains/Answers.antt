use Rattle.std.proofs.Common.{◌∙◌}
use Rattle.ic_items.proofs.Tables.{contains_seen}
use Rattle.ic_items.proofs.name_set.NameSet.contains.Goals as goal

pub returns : goal.returns
returns c = c.contains.ensures ∙ contains_seen _ _ _ _ c.as_slice.ensures c.self.view_is
