use Rattle.std.proofs.Common.{◌∙◌, sym}
use Rattle.ic_items.proofs.Tables.{value_seen}
use Rattle.ic_items.proofs.name_table.NameTable.get.Goals as goal

pub returns : goal.returns
returns g c = sym (c.get.ensures.value ∙ value_seen _ _ _ _ c.as_slice.ensures c.self.view_is)
