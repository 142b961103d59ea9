-- How far a component has come with its list.
use Rattle.std.specs.Prelude.{ℕ, List, drop, length}
use Rattle.ic_base.specs.declared.events.Answer.{Answer}
use Rattle.ic_base.specs.declared.events.Event.{Event}
use Rattle.ic_base.specs.declared.messages.Output.{Output}
use Rattle.ic_turn.specs.declared.progress.Progress.{Progress}

-- where the count of records played stands still
abbrev pub GREATEST : ℕ
GREATEST = 18446744073709551615

-- its list, whole
abbrev pub events_of : Progress → List Event
events_of p = p.events

-- the answers of the events that it did
abbrev pub answers_of : Progress → List Answer
answers_of p = p.answers

-- those that are left
abbrev pub left_of : Progress → List Event
left_of p = drop (length (answers_of p)) (events_of p)

abbrev pub shown_of : Progress → List Output
shown_of p = p.shown

abbrev pub turns_of : Progress → ℕ
turns_of p = p.turns

-- how many inputs and messages it received
abbrev pub received_of : Progress → ℕ
received_of p = p.received

-- how many records its recoveries have played
abbrev pub played_of : Progress → ℕ
played_of p = p.played

-- how many packets it put out
abbrev pub packets_of : Progress → ℕ
packets_of p = p.packets
