use Rattle.ic_items.proofs.Tables.{added_seen}
use Rattle.ic_items.proofs.name_set.NameSet.add.Goals as goal

pub returns-clause-ok : goal.returns-clause-ok
returns-clause-ok c = added_seen _ _ _ _ _ c.into_vec.ensures c.self.view_is c.requires c.in_ok-insert.ensures.keys
