use Rattle.std.proofs.Common.{◌∙◌, ap, sym}
use Rattle.std.specs.Option.{is_some}
use Rattle.ic_items.proofs.Lists.{is_in-names}
use Rattle.ic_items.proofs.Tables.{value_seen}
use Rattle.ic_items.proofs.name_table.NameTable.contains.Goals as goal

pub returns : goal.returns
returns g c = c.contains_key.ensures ∙ ap is_some (value_seen _ _ _ _ c.as_slice.ensures c.self.view_is) ∙ sym (is_in-names c.args.name.now c.args.self.now)
