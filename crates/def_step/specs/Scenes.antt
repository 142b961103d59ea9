-- Schedules for the examples.
use Rattle.std.specs.Prelude.{ℕ, ℤ, pos, false, List, [], ◌∷◌, Option, Some, None, option_map, option_and_then, slice_get, true}
use Rattle.ic_base.specs.declared.scenario.Program.{Program}
use Rattle.ic_base.specs.declared.events.Event.{Event}
use Rattle.ic_base.specs.declared.events.What.{What}
use Rattle.ic_base.specs.declared.events.What.TheVariants.{Input, Deliver, Lose, Packet, Force, Checkpoint, Resend, Emit, Crash, Recover}
use Rattle.ic_base.specs.declared.record.Record.{Record}
use Rattle.def_plain.specs.Scenes.{com_at as com_no}
use Rattle.def_step.specs.World.{World, Node, Runs, Serves, Down, External, DiskOutcome, happens, first_world}

abbrev pub event : What → Event
event what = record { what = what; stop = None }

-- the records that the disk of a component that is down holds
abbrev pub held_records : Option Node → List Record
held_records None = []
held_records (Some (Runs p)) = p.log.forced
held_records (Some (Serves t)) = t.records
held_records (Some (Down records)) = records
held_records (Some External) = []

-- the component of an event
abbrev pub number_of : What → ℕ
number_of (Recover c) = c.0
number_of (Input c handler args) = c.0
number_of (Deliver from to) = to.0
number_of (Lose from to) = to.0
number_of (Packet i) = 0
number_of (Force c) = c.0
number_of (Checkpoint c) = c.0
number_of (Resend c) = c.0
number_of (Emit c) = c.0
number_of (Crash c) = c.0

-- no stop, and each load reads what the disk holds
abbrev pub by_the_book : World → What → DiskOutcome
by_the_book w what = record { found = held_records (slice_get w.nodes (number_of what)); size = 41; free = true; left = []; is_open = false }

abbrev pub run_on : Program → Option World → List What → Option World
run_on program w [] = w
run_on program w (e ∷ es) = run_on program (option_and_then (λ x. option_map (λ y. y.world) (happens program x (event e) (by_the_book x e))) w) es

-- a schedule without stops
abbrev pub run : Program → List What → Option World
run program events = run_on program (Some (first_world program)) events

abbrev pub vars_of : Node → Option (List ℤ)
vars_of (Runs p) = Some p.vol.vars
vars_of (Serves t) = Some t.book.ledger
vars_of (Down records) = None
vars_of External = None

-- the values of a component that is up
abbrev pub values : Option World → ℕ → Option (List ℤ)
values w c = option_and_then vars_of (option_and_then (λ x. slice_get x.nodes c) w)

abbrev pub two_inputs_around_a_crash : List What
two_inputs_around_a_crash =
    Input (com_no 0) 0 (pos 5 ∷ []) ∷ Crash (com_no 0) ∷ Recover (com_no 0) ∷ Input (com_no 0) 0 (pos 7 ∷ []) ∷ []
