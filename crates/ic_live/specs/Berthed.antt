-- The components that have a berth, their lists of events, and their lanes side by side.
use Rattle.std.specs.Prelude.{◌≡◌, List, [], ◌++◌, filter}
use Rattle.ic_base.specs.declared.events.Event.{Event}
use Rattle.ic_base.specs.declared.messages.ComId.{ComId}
use Rattle.ic_base.specs.declared.scenario.Program.{Program}
use Rattle.def_run.specs.SystemStates.{has_disk}
use Rattle.def_live.specs.Lanes.{Lanes}
use Rattle.def_live.specs.Turns.{is_own, coms_from}
use Rattle.ic_lane.specs.Lanes.{In, Out}
use Rattle.ic_live.specs.Ends.{at_peer, received_from, sent_to}

-- in order: the Pcoms and Tcoms
abbrev pub berthed : Program → List ComId
berthed program = filter (has_disk program) (coms_from 0 program.components)

-- of a plan the events that are the component's own; no delivery and no loss
abbrev pub list_of : ComId → List Event → List Event
list_of c plan = filter (λ e. is_own c e.what) plan

-- of a list of events these are left: those behind some that are done
abbrev pub AreLeftOf : List Event → List Event → Type 0
AreLeftOf list left = (done : List Event) × (list ≡ done ++ left)

-- the lanes of all, by the ends of each component
abbrev pub lanes_of : List ComId → List (List Out) → List (List In) → Lanes
lanes_of peers outs ins from to = record {
  sent = at_peer [] (λ os. sent_to peers os to) peers outs from;
  received = at_peer [] (λ is. received_from peers is from) peers ins to;
}
