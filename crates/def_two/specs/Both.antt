-- What `two` with status 0 comes to: a clause over the script's text, the disks before and behind the call, and the bytes written.
use Rattle.std.specs.Prelude.{◌≡◌, ℕ, List, [], ◌∷◌, map, None}
use Rattle.def_two.specs.World.{World2, next_event2}
use Rattle.def_two.specs.Runs.{Transition2}
use Rattle.def_two.specs.Ends.{StandsBothOrNeither, EndsBothOrNeither}
use Rattle.def_two.specs.Script.{TheScript, openings_of}
use Rattle.def_two.specs.Printed.{two_lines}
use Rattle.def_two.specs.CoreSteps.{SystemState2, SystemStep, IsStarted2, Executes2, last_state2}

-- the same run without its files
abbrev pub without_files : List SystemStep → List Transition2
without_files vs = map (λ v. record { event = v.event; disk = v.disk; world = v.state.world }) vs

abbrev pub worlds_in : SystemState2 → List SystemStep → List World2
worlds_in p vs = p.world ∷ map (λ v. v.state.world) vs

-- From fresh logs on blank disks the script's events are done in order, and then those that settle, until none is next. The bytes
-- written are the decisions and the values at the end; in each world of the run, and at the end, it is both books or neither.
pub record IsBothOrNeither (script : TheScript) (fingerprint : List ℕ) (before after : List (List ℕ)) (written : List ℕ) : Type 0 where
  pub first : SystemState2
  pub started : IsStarted2 (openings_of script) fingerprint before first
  pub steps : List SystemStep
  pub executes : Executes2 (openings_of script) fingerprint script.events first steps []
  pub nothing : next_event2 (last_state2 first steps).world ≡ None
  pub files : (last_state2 first steps).files ≡ after
  pub printed : written ≡ two_lines script (last_state2 first steps).world
  pub stands : StandsBothOrNeither (openings_of script) (worlds_in first steps) (last_state2 first steps).world
  pub ends : EndsBothOrNeither (openings_of script) (without_files steps)
