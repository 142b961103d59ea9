use Rattle.ic_items.proofs.Tables.{entry_added_seen}
use Rattle.ic_items.proofs.name_table.NameTable.add.Goals as goal

pub returns-clause-ok : goal.returns-clause-ok
returns-clause-ok g c = entry_added_seen _ _ _ _ _ _ c.into_vec.ensures c.self.view_is c.requires c.in_ok-insert.ensures.entries
