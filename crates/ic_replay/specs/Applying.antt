-- A record that is applied as it was prepared.
use Rattle.std.specs.Prelude.{◌≡◌, ◌≤◌, ℕ, true, false, List, [], Option, Some, None}
use Rattle.ic_base.specs.declared.limits.TheConstants.{GREATEST_NUMBER}
use Rattle.ic_base.specs.declared.messages.ComId.{ComId}
use Rattle.ic_base.specs.declared.messages.Send.{Send}
use Rattle.ic_base.specs.declared.messages.Out.{Out}
use Rattle.ic_base.specs.declared.played.Played.{Played}
use Rattle.ic_base.specs.declared.played.Played.TheVariants.{Ends}
use Rattle.ic_base.specs.declared.record.Record.{Record}
use Rattle.ic_base.specs.declared.record.Record.TheVariants.{Take, TakeWhole, Input, Value, Outcome, Released, Shown}
use Rattle.def_state.specs.Outbox
use Rattle.def_state.specs.Inbox
use Rattle.def_state.specs.Shelf
use Rattle.def_state.specs.Txn
use Rattle.def_state.specs.Txn.{Txn}
use Rattle.def_state.specs.Vol.{Vol, receive, come_to}
use Rattle.ic_replay.specs.declared.prepared.Prepared.{Prepared}

-- this is in hand from this stamp on
abbrev pub taken_up : Prepared → ℕ → Vol → Vol
taken_up p stamp v = record v { clock = stamp; hand = p.hand; now = p.answers }

-- the record is entered, and no handler is played on yet
abbrev pub entered : ℕ → Prepared → Vol → Record → Vol
entered at p v (Take from k stamp) = taken_up p stamp (receive v from k at false)
entered at p v (TakeWhole from k stamp handler args) = taken_up p stamp (receive v from k at true)
entered at p v (Input stamp handler args) = taken_up p stamp v
entered at p v (Value n place session value) = record v { now = p.answers; txn = Txn.take_reply v.txn session }
entered at p v (Outcome stamp n abort) = record (taken_up p stamp v) { txn = Txn.end v.txn; ended_at = at; owes_drop = true }
entered at p v (Released to k) = record v { outbox = Outbox.installed v.outbox (record { peer = to; k = k }) }
entered at p v (Shown m) = record v { shelf = Shelf.shown v.shelf m }
entered at p v _ = v

abbrev pub come_to_if : ComId → ℕ → Vol → Option Played → Vol
come_to_if c at v None = v
come_to_if c at v (Some played) = come_to c at v played

-- the record is applied
abbrev pub applied : ComId → ℕ → Prepared → Vol → Record → Vol
applied c at p v r = come_to_if c at (entered at p v r) p.played

-- what leaves at the end of a handling
abbrev pub sends_of : Option Played → List Send
sends_of (Some (Ends vars sends outs)) = sends
sends_of _ = []

abbrev pub outs_of : Option Played → List Out
outs_of (Some (Ends vars sends outs)) = outs
outs_of _ = []

-- how many receipts a record adds
abbrev pub receipts_of : Record → ℕ
receipts_of (Take from k stamp) = 1
receipts_of (TakeWhole from k stamp handler args) = 1
receipts_of _ = 0

-- a message with an identity that a link may have, which isn't taken yet
pub record IsNewMessage (v : Vol) (from : ComId) (k : ℕ) : Type 0 where
  pub first : 1 ≤ k
  pub last : k ≤ GREATEST_NUMBER
  pub new : Inbox.is_taken v.inbox (record { peer = from; k = k }) ≡ false

-- what the record takes is new
abbrev pub TakesNew : Vol → Record → Type 0
TakesNew v (Take from k stamp) = IsNewMessage v from k
TakesNew v (TakeWhole from k stamp handler args) = IsNewMessage v from k
TakesNew v _ = Unit {0}
