-- A front that keeps the first request of each number, beside one that keeps all of them.
use Rattle.std.specs.Prelude.{◌≡◌, ℤ, Bool, cond, List, is_some}
use Rattle.ic_base.specs.declared.messages.ComId.{ComId}
use Rattle.ic_base.specs.declared.events.What.{What}
use Rattle.ic_base.specs.declared.events.What.TheVariants as whats
use Rattle.ic_base.specs.declared.events.Trace.{Trace}
use Rattle.def_run.specs.CrashFree.{is_received}
use Rattle.def_client.specs.Fronts.{Request, Front, taken_under, takes, saw, saw_showing}

-- under all numbers the same request is taken, with the same reply: so they answer each request in the same way
abbrev pub TakenAlike : Front → Front → Type 0
TakenAlike front other = (c : ComId) (args : List ℤ) → taken_under front c args ≡ taken_under other c args

-- a request is taken, unless one is taken under its numbers
abbrev pub takes_first : Request → Front → Front
takes_first r front = cond (is_some (taken_under front r.who r.args)) front (takes r front)

abbrev pub saw_first_event : What → Bool → Front → Front
saw_first_event (whats.Input c handler args) received front = cond received (takes_first (record { who = c; handler = handler; args = args }) front) front
saw_first_event _ received front = front

-- what such a front keeps behind an event
abbrev pub saw_first : Front → Trace → Front
saw_first front t = saw_showing t.event.what t.shown (saw_first_event t.event.what (is_received t.answer) front)

-- An event is seen: a front that was alike to one before is alike to it behind the event.
pub record IsSeen (old new : Front) (t : Trace) : Type 0 where
  pub alike : (other : Front) → TakenAlike old other → TakenAlike new (saw other t)
