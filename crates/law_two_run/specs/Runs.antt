-- Executions over disks.
use Rattle.std.specs.Prelude.{◌≡◌, ℕ, List, [], length, None}
use Rattle.std.specs.List.{AllByRecursion}
use Rattle.def_two.specs.declared.script.Event2.{Event2}
use Rattle.def_two.specs.Moves.{Openings}
use Rattle.def_two.specs.World.{DiskOutcome2, next_event2}
use Rattle.def_two.specs.Runs.{Leads}
use Rattle.def_two.specs.Ends.{AreOpenings, StandsBothOrNeither, EndsBothOrNeither}
use Rattle.def_two.specs.Records.{Fits2}
use Rattle.def_two.specs.CoreSteps.{SystemState2, SystemStep, KeepsLogs2, forces, CoreStep2, IsStarted2, Executes2, last_state2}
use Rattle.def_two.specs.Refusals.{met2}
use Rattle.def_two.specs.Both.{without_files, worlds_in}

-- what an event would force has its bytes
abbrev pub ForcesFit : Openings → SystemState2 → Event2 → Type 0
ForcesFit books p e = AllByRecursion Fits2 (forces books p.world e.what)

abbrev pub CoreStepsLead : Type 0
CoreStepsLead = (books : Openings) (fingerprint : List ℕ) (p : SystemState2) (e : Event2) (x : DiskOutcome2) (q : SystemState2) → KeepsLogs2 fingerprint p → ForcesFit books p e → CoreStep2 books fingerprint p e x q → Leads books p.world (record { event = e; disk = x; world = q.world })

-- Over fresh logs on blank disks: in the world that an execution comes to, and at its end.
abbrev pub ExecutionsEndBothOrNeither : Type 0
ExecutionsEndBothOrNeither = (books : Openings) (fingerprint : List ℕ) (events : List Event2) (before : List (List ℕ)) (p : SystemState2) (vs : List SystemStep) → AreOpenings books → length fingerprint ≡ 32 → IsStarted2 books fingerprint before p →
    Executes2 books fingerprint events p vs [] → next_event2 (last_state2 p vs).world ≡ None → StandsBothOrNeither books (worlds_in p vs) (last_state2 p vs).world × EndsBothOrNeither books (without_files vs)

-- and wherever it is, no recovery meets a bad log or a foreign one
abbrev pub ExecutionsMeetGoodLogs : Type 0
ExecutionsMeetGoodLogs = (books : Openings) (fingerprint : List ℕ) (events : List Event2) (before : List (List ℕ)) (p : SystemState2) (vs : List SystemStep) (rest : List Event2) (e : Event2) → AreOpenings books → length fingerprint ≡ 32 → IsStarted2 books fingerprint before p →
    Executes2 books fingerprint events p vs rest → met2 books fingerprint (last_state2 p vs) e ≡ None
