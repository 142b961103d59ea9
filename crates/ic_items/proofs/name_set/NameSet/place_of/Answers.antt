use Rattle.std.proofs.Common.{◌∙◌, sym}
use Rattle.ic_items.proofs.Tables.{place_seen}
use Rattle.ic_items.proofs.name_set.NameSet.place_of.Goals as goal

pub returns-clause-place : goal.returns-clause-place
returns-clause-place c = sym (c.get_index_of.ensures.index ∙ place_seen _ _ _ _ c.as_slice.ensures c.self.view_is)
