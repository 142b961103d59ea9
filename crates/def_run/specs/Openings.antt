-- Where a run begins: anew over blank disks, or over the logs that stand on its disks.
use Rattle.std.specs.Prelude.{◌≡◌, ◌≤◌, ◌⊎◌, ⊤, ℕ, ◌+◌, true, false, cond, List, [], ◌∷◌, length, Option, Some, None, Ok, Err}
use Rattle.ic_base.specs.declared.messages.ComId.{ComId}
use Rattle.ic_base.specs.declared.messages.Kind.{Kind}
use Rattle.ic_base.specs.declared.messages.Kind.TheVariants as kinds
use Rattle.ic_base.specs.declared.scenario.Component.{Component}
use Rattle.ic_base.specs.declared.scenario.Program.{Program}
use Rattle.ic_base.specs.declared.record.Record.{Record}
use Rattle.ic_base.specs.declared.refusals.StartWhy.{StartWhy}
use Rattle.ic_base.specs.declared.refusals.StartWhy.TheVariants as starts
use Rattle.def_log.specs.Frame.{fresh}
use Rattle.def_log.specs.Laws.{IsBytes}
use Rattle.def_log.specs.Log.{placed_log_of}
use Rattle.def_log.specs.Loads.{Holds, Foreign, Bad, load_of}
use Rattle.def_step.specs.World.{World, Node, Down, External, first_world}
use Rattle.def_facts.specs.Sound.{AreSound}
use Rattle.def_facts.specs.World.{forced_logs}
use Rattle.def_run.specs.SystemStates.{SystemState, file_in, file_of, KeepsLogs, has_disk}
use Rattle.def_run.specs.Executions.{first_of}

-- All components are up over fresh logs, on disks that were blank; the disks of no component stay as they were.
pub record IsStarted (program : Program) (fingerprint : List ℕ) (before : List (List ℕ)) (p : SystemState) : Type 0 where
  pub blank : (c : ComId) → has_disk program c ≡ true → file_in before c ≡ []
  pub world : p.world ≡ first_world program
  pub fresh : (c : ComId) → has_disk program c ≡ true → file_of p c ≡ fresh fingerprint c.0
  pub others : (c : ComId) → has_disk program c ≡ false → file_of p c ≡ file_in before c

-- all components down, over these logs
abbrev pub found_node : Kind → List Record → Node
found_node kinds.Xcom log = External
found_node _ log = Down log

abbrev pub found_nodes : List Component → List (List Record) → List Node
found_nodes (x ∷ xs) (log ∷ logs) = found_node x.kind log ∷ found_nodes xs logs
found_nodes (x ∷ xs) [] = found_node x.kind [] ∷ found_nodes xs []
found_nodes [] logs = []

abbrev pub found_world : Program → List (List Record) → World
found_world program logs = record { nodes = found_nodes program.components logs; packets = []; waiting = []; showings = [] }

-- All components are down, and their logs are those that their disks hold. No disk is changed.
pub record IsFound (program : Program) (fingerprint : List ℕ) (before : List (List ℕ)) (p : SystemState) : Type 0 where
  pub logs : List (List Record)
  pub world : p.world ≡ found_world program logs
  pub files : p.files ≡ before
  pub kept : KeepsLogs fingerprint p

-- They are sound together, on disks that hold bytes.
pub record TakesUpSound (program : Program) (fingerprint : List ℕ) (before : List (List ℕ)) (p : SystemState) : Type 0 where
  pub found : IsFound program fingerprint before p
  pub bytes : (c : ComId) → IsBytes (file_in before c)
  pub sound : AreSound program (forced_logs p.world)

-- a run begins anew over blank disks, or is taken up so
abbrev pub BeginsSound : Program → List ℕ → List (List ℕ) → SystemState → Type 0
BeginsSound program fingerprint before p = ((length fingerprint ≡ 32) × IsStarted program fingerprint before p) ⊎ TakesUpSound program fingerprint before p

-- the lowest component of which a test tells something, with the numbers counted from i
abbrev pub first_told : (ComId → Option StartWhy) → ℕ → List Component → Option StartWhy
first_told test i [] = None
first_told test i (x ∷ xs) = first_of (test (record { 0 = i })) (first_told test (i + 1) xs)

abbrev pub unless_blank : ComId → List ℕ → Option StartWhy
unless_blank c [] = None
unless_blank c (b ∷ bs) = Some (starts.NotBlank c)

-- why a log isn't taken over: its frame, its fingerprint, or the bytes of its records
abbrev pub records_refusal : ComId → List ℕ → Option StartWhy
records_refusal c file = elim (placed_log_of file) [ Ok records ↦ None | Err place ↦ Some (starts.Bad c place) ]

abbrev pub log_refusal : List ℕ → ComId → List ℕ → Option StartWhy
log_refusal fingerprint c file = elim (load_of fingerprint c.0 file) [
  | Holds batches ↦ records_refusal c file
  | Foreign kept ↦ Some (starts.Foreign c kept)
  | Bad place ↦ Some (starts.Bad c place)
]

abbrev pub if_disk : Program → ComId → Option StartWhy → Option StartWhy
if_disk program c why = cond (has_disk program c) why None

-- the lowest component whose disk isn't blank, and the lowest whose log is refused
abbrev pub start_refusal : Program → List (List ℕ) → Option StartWhy
start_refusal program files = first_told (λ c. if_disk program c (unless_blank c (file_in files c))) 0 program.components

abbrev pub found_refusal : Program → List ℕ → List (List ℕ) → Option StartWhy
found_refusal program fingerprint files = first_told (λ c. if_disk program c (log_refusal fingerprint c (file_in files c))) 0 program.components

-- it is told of the component of this number or of a later one
abbrev pub IsToldFrom : ℕ → StartWhy → Type 0
IsToldFrom n (starts.NotBlank c) = n ≤ c.0
IsToldFrom n (starts.Bad c place) = n ≤ c.0
IsToldFrom n (starts.Foreign c kept) = n ≤ c.0
IsToldFrom n (starts.Failed c) = n ≤ c.0
IsToldFrom n starts.Memory = ⊤

-- Why no world begins: what a disk holds is as the definitions say. A fault of a disk is told where nothing is of a lower component;
-- want of memory may come before.
abbrev pub IsStartRefused : Option StartWhy → StartWhy → Type 0
IsStartRefused met (starts.Failed c) = (why : StartWhy) → met ≡ Some why → IsToldFrom c.0 why
IsStartRefused met starts.Memory = Unit {0}
IsStartRefused met why = met ≡ Some why
