-- The requests of numbered clients: which were taken, and the first output that was shown to each.
use Rattle.std.specs.Prelude.{ℕ, ℤ, ◌==◌, Bool, true, false, ◌&&◌, cond, List, [], ◌∷◌, ◌++◌, map, find, Option, Some, None, is_none}
use Rattle.std.specs.Ordering.{int_eq}
use Rattle.ic_base.specs.declared.messages.ComId.{ComId}
use Rattle.ic_base.specs.declared.messages.Output.{Output}
use Rattle.ic_base.specs.declared.events.What.{What}
use Rattle.ic_base.specs.declared.events.What.TheVariants as whats
use Rattle.ic_base.specs.declared.events.Trace.{Trace}
use Rattle.def_run.specs.CrashFree.{is_received}
use Rattle.def_client.specs.declared.asked.Asked.{Asked}
use Rattle.def_client.specs.declared.asked.Asked.TheVariants.{New, Pending, Again, Differs}
use Rattle.ic_base.specs.Programs.{same_com}

-- A request: its Pcom, its handler and its values. The first two values are its client's number and its own.
pub record Request : Type 0 where
  pub who : ComId
  pub handler : ℕ
  pub args : List ℤ

-- an input, as its handler and its values
abbrev pub Given : Type 0
Given = ℕ × List ℤ

-- a request that was taken, with its reply: the number and the values of the output that was shown first
pub record Taken : Type 0 where
  pub request : Request
  pub reply : Option (ℕ × List ℤ)

-- in the order in which they were taken
abbrev pub Front : Type 0
Front = List Taken

-- the first two values agree; of values with fewer they don't
abbrev pub same_numbers : List ℤ → List ℤ → Bool
same_numbers (u ∷ q ∷ us) (v ∷ r ∷ vs) = int_eq u v && int_eq q r
same_numbers _ _ = false

abbrev pub same_values : List ℤ → List ℤ → Bool
same_values [] [] = true
same_values (x ∷ xs) (y ∷ ys) = int_eq x y && same_values xs ys
same_values _ _ = false

-- the values have a client's number and a request's
abbrev pub is_numbered : List ℤ → Bool
is_numbered (u ∷ q ∷ us) = true
is_numbered _ = false

-- it is a request of c with the numbers of these values
abbrev pub is_under : ComId → List ℤ → Request → Bool
is_under c args r = same_com c r.who && same_numbers args r.args

abbrev pub taken_under : Front → ComId → List ℤ → Option Taken
taken_under front c args = find (λ t. is_under c args t.request) front

-- what is answered to a request --------------------------------------------------------------------

abbrev pub replied : Option (ℕ × List ℤ) → Asked
replied None = Pending
replied (Some reply) = Again reply.0 reply.1

abbrev pub is_same : Request → Request → Bool
is_same x y = (x.handler == y.handler) && same_values x.args y.args

abbrev pub asked_of : Option Taken → Request → Asked
asked_of None r = New
asked_of (Some t) r = cond (is_same r t.request) (replied t.reply) Differs

-- new, where none is taken under its numbers; else by the one that is
abbrev pub ask : Front → Request → Asked
ask front r = asked_of (taken_under front r.who r.args) r

-- what is seen ---------------------------------------------------------------------------------------

-- a request was taken, if it is one
abbrev pub takes : Request → Front → Front
takes r front = cond (is_numbered r.args) (front ++ record { request = r; reply = None } ∷ []) front

-- an output of c is the reply to a request of its numbers that has none
abbrev pub replies_to : ComId → Output → Taken → Taken
replies_to c o t = cond (is_under c o.args t.request && is_none t.reply) (record t { reply = Some (o.m, o.args) }) t

abbrev pub shows : ComId → Output → Front → Front
shows c o front = map (replies_to c o) front

abbrev pub saw_event : What → Bool → Front → Front
saw_event (whats.Input c handler args) received front = cond received (takes (record { who = c; handler = handler; args = args }) front) front
saw_event _ received front = front

abbrev pub saw_showing : What → Option (Output × Bool) → Front → Front
saw_showing (whats.Emit c) (Some x) front = shows c x.0 front
saw_showing _ _ front = front

-- what a front keeps behind an event
abbrev pub saw : Front → Trace → Front
saw front t = saw_showing t.event.what t.shown (saw_event t.event.what (is_received t.answer) front)
