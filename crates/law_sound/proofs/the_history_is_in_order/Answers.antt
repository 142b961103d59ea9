use Rattle.law_sound.proofs.Histories.{history_has_entries, entries_are_in_history}
use Rattle.law_sound.proofs.Positions.{touches_rise, sends_stand_before}
use Rattle.law_sound.proofs.Rising.{history_rises}
use Rattle.law_sound.proofs.the_history_is_in_order.Goals as goal

pub returns : goal.returns
returns c = record { has = history_has_entries; keeps = entries_are_in_history; rise = touches_rise; sends = sends_stand_before; positions = history_rises }
