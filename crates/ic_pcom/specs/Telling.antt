-- Room for what a step puts out.
use Rattle.std.specs.Prelude.{ℕ, ◌+◌, ◌≤◌, Bool, true, cond, ◌||◌, length, filter}
use Rattle.ic_base.specs.declared.record.Record.{Record}
use Rattle.ic_base.specs.declared.record.Record.TheVariants.{Outcome}
use Rattle.def_state.specs.Outbox.{is_due}
use Rattle.def_state.specs.Vol.{Vol}
use Rattle.ic_pcom.specs.Landing.{may_tell}
use Rattle.ic_pcom.specs.declared.telling.Outgoing.{Outgoing}

-- no more than this does a step put out behind its answers, over a log that is forced up to here: each receipt of a state that may have
-- something to tell and each of its messages that is due, so many more of both where the log is forced up to them, a Drop and a request
abbrev pub most_packets : Outgoing → ℕ → Vol → ℕ
most_packets o forced v = length (may_tell o.covers forced v.inbox.receipts) + cond (o.covers || o.forces) o.receipts 0 + (length (filter (is_due forced) v.outbox.held) + cond o.forces o.messages 0) + cond o.drops 1 0 + cond o.came 1 0

-- beside so many packets there is room for these
abbrev pub HasRoomFor : Outgoing → ℕ → ℕ → ℕ → Vol → Type 0
HasRoomFor o forced count capacity v = count + most_packets o forced v ≤ capacity

-- whether a Drop is owed behind a record
abbrev pub drops_behind : Vol → Record → Bool
drops_behind v (Outcome stamp n abort) = true
drops_behind v r = v.owes_drop
