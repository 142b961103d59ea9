-- A run is taken up from the images that a crash of the whole machine leaves at a moment of a step.
use Rattle.std.specs.Prelude.{◌≡◌, ◌⊎◌, ℕ, true, false, List, ◌++◌, None, Ok}
use Rattle.ic_base.specs.declared.messages.ComId.{ComId}
use Rattle.ic_base.specs.declared.events.What.{What}
use Rattle.ic_base.specs.declared.scenario.Program.{Program}
use Rattle.ic_base.specs.declared.record.Record.{Record}
use Rattle.def_log.specs.Frame.{fingerprint_in, owner_in}
use Rattle.def_log.specs.Laws.{IsBytes}
use Rattle.def_log.specs.Log.{log_of}
use Rattle.def_step.specs.World.{DiskOutcome, node_at}
use Rattle.def_run.specs.SystemStates.{SystemState, KeepsLogs, file_in, has_disk, without_stop}
use Rattle.def_run.specs.CoreSteps.{forced_of, is_full_at, would_force}
use Rattle.def_run.specs.Openings.{IsFound, found_refusal}
use Rattle.def_facts.specs.Flat.{HasFlatParts}
use Rattle.def_facts.specs.Logs.{Logs}
use Rattle.def_facts.specs.Playable.{IsPlayable}
use Rattle.def_facts.specs.Sound.{AreSound}
use Rattle.def_facts.specs.World.{forced_logs}
use Rattle.law_run.specs.ProgramBytes.{HasBytes}
use Rattle.law_run.specs.Executions.{IsExplainedInBytes}
use Rattle.law_syntax.specs.Events.{IsEvent}

-- an image reads as these records, or as these and all that are added
abbrev pub ReadsAsOne : List Record → List Record → List ℕ → Type 0
ReadsAsOne before added image = (log_of image ≡ Ok before) ⊎ (log_of image ≡ Ok (before ++ added))

-- of each disk an image that a crash may leave at a moment of the event: the records that its component has forced, or these with all
-- that the event would force there, given what a load there reads
abbrev pub AreImages : Program → SystemState → What → (ComId → DiskOutcome) → List (List ℕ) → Type 0
AreImages program p what x images = (c : ComId) → has_disk program c ≡ true → ReadsAsOne (forced_of (node_at p.world c)) (would_force program p.world what (x c) c) (file_in images c)

-- Whatever images are left, one of each disk: the logs that are read from them are sound together, and the world that is found over
-- them is explained. A load reads the records that are forced.
abbrev pub FoundAtImages : Type 0
FoundAtImages = (program : Program) (fingerprint : List ℕ) (found : Logs) (here : ComId → ℕ) (p r : SystemState) (what : What) (x : ComId → DiskOutcome) (images : List (List ℕ)) → IsPlayable program → HasFlatParts program → HasBytes program → IsEvent program (without_stop what) → KeepsLogs fingerprint p → is_full_at program p what ≡ false →
    IsExplainedInBytes program found here p.world → ((c : ComId) → (x c).found ≡ forced_of (node_at p.world c)) → AreImages program p what x images → ((c : ComId) → IsBytes (file_in images c)) → IsFound program fingerprint images r →
    AreSound program (forced_logs r.world) × IsExplainedInBytes program (forced_logs r.world) (λ c. 0) r.world

-- a file has the header of this component's log in this scenario
abbrev pub IsOwnLog : List ℕ → ComId → List ℕ → Type 0
IsOwnLog fingerprint c file = (fingerprint_in file ≡ fingerprint) × (owner_in file ≡ c.0)

-- And they aren't refused when they are found, where each keeps its header.
abbrev pub ImagesAreNotRefused : Type 0
ImagesAreNotRefused = (program : Program) (fingerprint : List ℕ) (p : SystemState) (what : What) (x : ComId → DiskOutcome) (images : List (List ℕ)) →
    AreImages program p what x images → ((c : ComId) → has_disk program c ≡ true → IsOwnLog fingerprint c (file_in images c)) → found_refusal program fingerprint images ≡ None
