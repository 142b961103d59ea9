-- A world together with what its disks read, and where an event leads from it.
use Rattle.std.specs.Prelude.{◌≡◌, ℕ, Bool, false, ◌||◌, List, [], ◌∷◌, map, Option, Some, None, Ok, slice_get, unwrap_or}
use Rattle.ic_base.specs.declared.messages.ComId.{ComId}
use Rattle.ic_base.specs.declared.events.Event.{Event}
use Rattle.ic_base.specs.declared.events.What.{What}
use Rattle.ic_base.specs.declared.events.Trace.{Trace}
use Rattle.ic_base.specs.declared.scenario.Program.{Program}
use Rattle.ic_base.specs.declared.record.Record.{Record}
use Rattle.ic_base.specs.Programs.{same_com, is_a_pcom, is_a_tcom}
use Rattle.def_log.specs.Frame.{fingerprint_in, owner_in}
use Rattle.def_log.specs.Log.{log_of}
use Rattle.def_step.specs.World.{World, Node, Runs, Serves, Down, External, node_at}
use Rattle.def_step.specs.Settle.{asked_of}

-- a world, and the bytes that the disk of each component reads
pub record SystemState : Type 0 where
  pub world : World
  pub files : List (List ℕ)

abbrev pub file_in : List (List ℕ) → ComId → List ℕ
file_in files c = unwrap_or (slice_get files c.0) []

abbrev pub file_of : SystemState → ComId → List ℕ
file_of p c = file_in p.files c

-- the disk reads as the log of the component of this number in this scenario, with these records
pub record IsLog (fingerprint : List ℕ) (owner : ℕ) (file : List ℕ) (records : List Record) : Type 0 where
  pub own : fingerprint_in file ≡ fingerprint
  pub owned : owner_in file ≡ owner
  pub holds : log_of file ≡ Ok records

-- the forced records of a component stand on its disk
abbrev pub KeepsLog : List ℕ → ComId → List ℕ → Option Node → Type 0
KeepsLog fingerprint c file None = Unit {0}
KeepsLog fingerprint c file (Some (Runs p)) = IsLog fingerprint c.0 file p.log.forced
KeepsLog fingerprint c file (Some (Serves t)) = IsLog fingerprint c.0 file t.records
KeepsLog fingerprint c file (Some (Down records)) = IsLog fingerprint c.0 file records
KeepsLog fingerprint c file (Some External) = Unit {0}

abbrev pub KeepsLogs : List ℕ → SystemState → Type 0
KeepsLogs fingerprint p = (c : ComId) → KeepsLog fingerprint c (file_of p c) (node_at p.world c)

abbrev pub is_com : ComId → Option ComId → Bool
is_com c None = false
is_com c (Some d) = same_com c d

-- whether c is the component of an event with this trace
abbrev pub is_of : Event → Trace → ComId → Bool
is_of e t c = is_com c (asked_of e.what t.answer)

-- whether a component has a disk
abbrev pub has_disk : Program → ComId → Bool
has_disk program c = is_a_pcom program c || is_a_tcom program c

-- an event that was done: its trace, and where it led
pub record Transition : Type 0 where
  pub trace : Trace
  pub state : SystemState

abbrev pub last_state : SystemState → List Transition → SystemState
last_state p [] = p
last_state p (v ∷ vs) = last_state v.state vs

abbrev pub traces_of : List Transition → List Trace
traces_of vs = map (λ v. v.trace) vs

abbrev pub without_stop : What → Event
without_stop what = record { what = what; stop = None }
