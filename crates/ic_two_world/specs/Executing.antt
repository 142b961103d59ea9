-- The events of a script at a world, and behind them those that settle it: how far it came, and why it goes no further.
use Rattle.std.specs.Prelude.{◌≡◌, List, [], ◌∷◌, Some, None}
use Rattle.def_two.specs.declared.script.Event2.{Event2}
use Rattle.def_two.specs.declared.script.TwoRefused.{TwoRefused}
use Rattle.def_two.specs.CoreSteps.{SystemStep, Executes2, last_state2}
use Rattle.def_two.specs.Moves.{Openings}
use Rattle.def_two.specs.Runs.{next2}
use Rattle.def_two.specs.World.{World2, happens2, next_event2}
use Rattle.ic_disk.specs.TornDisks.{Torn}
use Rattle.ic_disk.specs.Torns.{torn}
use Rattle.ic_disk.specs.declared.disk.Disk.{Ghosts}
use Rattle.ic_two_world.specs.Opening.{disks_under, files_on}
use Rattle.ic_two_world.specs.Stepping.{IsSameScript, FailsToStep2}
use Rattle.ic_two_world.specs.Views.{seats_of, openings_of, print_of, world_of, state_of, KeepModel, KeepsDisks, IsGoing}
use Rattle.ic_two_world.specs.declared.world.TwoWorld.{TwoWorld}

-- Steps one after another, with these events of the script left behind them: each is of the event that is next, and leads to the world of
-- the definition, given what its disk decided.
abbrev pub Follows2 : Openings → List Event2 → World2 → List SystemStep → List Event2 → Type 0
Follows2 openings events w [] rest = events ≡ rest
Follows2 openings events w (v ∷ vs) rest =
    (more : List Event2) × (next2 w events ≡ Some (record { event = v.event; rest = more })) × (happens2 openings w v.event v.disk ≡ Some v.state.world) × Follows2 openings more v.state.world vs rest

module _ {D : Type 0} (b : Ghosts D) where
  -- These steps lead from one world to another, with these events of the script left behind them. They follow one another on every disk;
  -- where the disks keep the disk model they are an execution. It is the world of the same script, its disks are kept, and read what it says.
  pub record Goes2 (events : List Event2) (old : TwoWorld (Torn D) (torn b)) (steps : List SystemStep) (rest : List Event2) (new : TwoWorld (Torn D) (torn b)) : Type 0 where
    pub follows : Follows2 (openings_of old) events (world_of old) steps rest
    pub executes : KeepModel (seats_of old) → Executes2 (openings_of old) (print_of old) events (state_of old) steps rest
    pub ends : last_state2 (state_of old) steps ≡ state_of new
    pub files : (state_of new).files ≡ files_on b (disks_under (seats_of new))
    pub same : IsSameScript b old new
    pub disks : KeepsDisks (torn b) (seats_of old) (seats_of new)
    pub going : IsGoing (torn b) new

  -- all events of the script are done, and behind them all that settle the world
  pub record Executed2 (events : List Event2) (old new : TwoWorld (Torn D) (torn b)) : Type 0 where
    pub steps : List SystemStep
    pub goes : Goes2 events old steps [] new
    pub nothing : next_event2 (world_of new) ≡ None

  -- an event wasn't done: it was next behind these steps, at this world; and why
  pub record WasRefused2 (events : List Event2) (old new : TwoWorld (Torn D) (torn b)) (why : TwoRefused) : Type 0 where
    pub steps : List SystemStep
    pub rest : List Event2
    pub here : TwoWorld (Torn D) (torn b)
    pub goes : Goes2 events old steps rest here
    pub event : Event2
    pub more : List Event2
    pub next : next2 (world_of here) rest ≡ Some (record { event = event; rest = more })
    pub fails : FailsToStep2 b here event new why
