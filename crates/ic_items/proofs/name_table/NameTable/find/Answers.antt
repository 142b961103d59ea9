use Rattle.std.proofs.Common.{◌∙◌, sym}
use Rattle.ic_items.proofs.Tables.{value_seen, entry_place_seen}
use Rattle.ic_items.proofs.name_table.NameTable.find.Goals as goal

pub returns-in-Some-clause-place : goal.returns-in-Some-clause-place
returns-in-Some-clause-place g c = sym (entry_place_seen _ _ _ _ c.as_slice.ensures c.self.view_is) ∙ sym c.in-Some.ensures.index

pub returns-in-Some-clause-value : goal.returns-in-Some-clause-value
returns-in-Some-clause-value g c = sym (value_seen _ _ _ _ c.as_slice.ensures c.self.view_is) ∙ sym c.in-Some.ensures.value

pub returns-in-None-clause-place : goal.returns-in-None-clause-place
returns-in-None-clause-place g c = sym (entry_place_seen _ _ _ _ c.as_slice.ensures c.self.view_is) ∙ sym c.in-None.ensures.index

pub returns-in-None-clause-value : goal.returns-in-None-clause-value
returns-in-None-clause-value g c = sym (value_seen _ _ _ _ c.as_slice.ensures c.self.view_is) ∙ sym c.in-None.ensures.value
