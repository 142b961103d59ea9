-- A world together with what its disks read, and what one event makes of both.
use Rattle.std.specs.Prelude.{◌≡◌, ⊤, ℕ, suc, ◌+◌, ◌-◌, ◌≤◌, ◌≢◌, Bool, true, false, not, ◌&&◌, ◌||◌, List, [], ◌∷◌, length, Option, Some, None, slice_get, unwrap_or, nat_lt, Ok, MatchOption}
use Rattle.ic_base.specs.declared.limits.TheConstants.{LOG_BYTES, GREATEST_NUMBER}
use Rattle.ic_base.specs.declared.events.Stop.{Stop}
use Rattle.def_log.specs.Frame.{fingerprint_in, owner_in, fresh}
use Rattle.def_log.specs.Sizes.{size_in}
use Rattle.def_log.specs.Gated.{batch_write}
use Rattle.def_log.specs.Stops.{stop_torn, is_open_at}
use Rattle.def_two.specs.declared.moves.Record2.{Record2}
use Rattle.def_two.specs.declared.script.Event2.{Event2}
use Rattle.def_two.specs.declared.script.What2.{What2}
use Rattle.def_two.specs.declared.script.What2.TheVariants as whats
use Rattle.def_two.specs.Moves.{Openings}
use Rattle.def_two.specs.Chief.{Call, Begins, Hears, Resends}
use Rattle.def_two.specs.World.{World2, Site, DiskOutcome2, site_at, log_at, is_up, is_reached, device_calls, happens2, first_world2}
use Rattle.def_two.specs.Runs.{Called, component_of, call_of, would_add, IsEvent2, next2}
use Rattle.def_two.specs.Records.{payload2_of}
use Rattle.def_two.specs.Logs.{log2_of}

-- a world, and the bytes that the disk of each component reads
pub record SystemState2 : Type 0 where
  pub world : World2
  pub files : List (List ℕ)

abbrev pub file2_of : SystemState2 → ℕ → List ℕ
file2_of p c = unwrap_or (slice_get p.files c) []

-- the disk reads as the log of the component of this number in this script, with these records
pub record IsLog2 (fingerprint : List ℕ) (owner : ℕ) (file : List ℕ) (records : List Record2) : Type 0 where
  pub own : fingerprint_in file ≡ fingerprint
  pub owned : owner_in file ≡ owner
  pub holds : log2_of file ≡ Ok records

-- the records of each component stand on its disk
abbrev pub KeepsLogs2 : List ℕ → SystemState2 → Type 0
KeepsLogs2 fingerprint p = (c : ℕ) → MatchOption (site_at p.world c) ⊤ (λ s. IsLog2 fingerprint c (file2_of p c) s.log)

-- the device calls of the load that comes first, and the records that the event would force
abbrev pub loads_first : What2 → ℕ
loads_first (whats.Recover c) = 3
loads_first what = 0

abbrev pub forces : Openings → World2 → What2 → List Record2
forces books w what = elim (call_of w what) [ None ↦ [] | Some x ↦ would_add books w x ]

abbrev pub is_down_at : World2 → ℕ → Bool
is_down_at w c = elim (site_at w c) [ None ↦ false | Some s ↦ not s.up ]

-- whether the event's stop is reached: a force makes four device calls, a recovery of what is down three
abbrev pub is_stopped : Openings → World2 → Event2 → Bool
is_stopped books w e = elim e.what [
  | whats.Recover c ↦ is_down_at w c && is_reached e.stop 3
  | what ↦ is_reached e.stop (device_calls (forces books w what))
]

-- What a reached stop leaves of the file, whose closed gate stood at `gate`: the torn image, which reads as some records, and the gate's
-- byte says whether the step's record is one of them.
pub record IsTornAt2 (x : DiskOutcome2) (stop : Stop) (loads gate : ℕ) (added : List Record2) (old new : List ℕ) : Type 0 where
  pub image : new ≡ stop_torn stop loads old (batch_write gate (payload2_of added) ∷ [])
  pub left : log2_of new ≡ Ok x.left
  pub gate_byte : x.is_open ≡ is_open_at new gate

abbrev pub IsTornBy2 : Openings → DiskOutcome2 → SystemState2 → Event2 → ℕ → SystemState2 → Option Stop → Type 0
IsTornBy2 books x p e c q None = ⊥
IsTornBy2 books x p e c q (Some stop) =
    MatchOption (size_in (file2_of p c)) ⊥ (λ size. IsTornAt2 x stop (loads_first e.what) (size - 1) (forces books p.world e.what) (file2_of p c) (file2_of q c))

-- what the disk of the event's component gives
pub record MeetsDisk2 (books : Openings) (x : DiskOutcome2) (p : SystemState2) (e : Event2) (c : ℕ) (q : SystemState2) : Type 0 where
  pub found : log2_of (file2_of p c) ≡ Ok x.found
  pub torn : is_stopped books p.world e ≡ true → IsTornBy2 books x p e c q e.stop
  pub same : is_stopped books p.world e ≡ false → log_at q.world c ≡ log_at p.world c → file2_of q c ≡ file2_of p c

-- limits ----------------------------------------------------------------------------------------------

abbrev pub is_none_added : List Record2 → Bool
is_none_added [] = true
is_none_added (r ∷ rs) = false

-- a log of this size has no room for these records in its next batch
abbrev pub has_no_room2 : ℕ → List Record2 → Bool
has_no_room2 size records = not (is_none_added records) && nat_lt LOG_BYTES (size + 5 + length (payload2_of records))

-- the number of a move that begins would pass its limit
abbrev pub is_past_number : Call → Bool
is_past_number (Begins m) = nat_lt GREATEST_NUMBER m.n
is_past_number (Hears p) = false
is_past_number Resends = false

abbrev pub is_call_full2 : Openings → SystemState2 → Called → Bool
is_call_full2 books p x = is_up (site_at p.world x.who) && (is_past_number x.call || elim (size_in (file2_of p x.who)) [ None ↦ false | Some size ↦ has_no_room2 size (would_add books p.world x) ])

-- the step of this event would pass the limit of its component's log or of a number
abbrev pub is_full2 : Openings → SystemState2 → What2 → Bool
is_full2 books p what = elim (call_of p.world what) [ None ↦ false | Some x ↦ is_call_full2 books p x ]

-- the step ------------------------------------------------------------------------------------------------

-- An event leads from one state to another: the step of the definitions, which passes no limit of a log. The disks of other components
-- stay, and each disk holds its component's records.
pub record CoreStep2 (books : Openings) (fingerprint : List ℕ) (p : SystemState2) (e : Event2) (x : DiskOutcome2) (q : SystemState2) : Type 0 where
  pub event : IsEvent2 books e
  pub happens : happens2 books p.world e x ≡ Some q.world
  pub fits : is_full2 books p e.what ≡ false
  pub disk : (c : ℕ) (s : Site) → component_of p.world e.what ≡ Some c → site_at p.world c ≡ Some s → MeetsDisk2 books x p e c q
  pub others : (c : ℕ) → component_of p.world e.what ≢ Some c → file2_of q c ≡ file2_of p c
  pub logs : KeepsLogs2 fingerprint q

-- all up over fresh logs, on disks that were blank
pub record IsStarted2 (books : Openings) (fingerprint : List ℕ) (before : List (List ℕ)) (p : SystemState2) : Type 0 where
  pub blank : (c : ℕ) → c ≤ length books → unwrap_or (slice_get before c) [] ≡ []
  pub world : p.world ≡ first_world2 books
  pub fresh : (c : ℕ) → c ≤ length books → file2_of p c ≡ fresh fingerprint c
  pub others : (c : ℕ) → suc (length books) ≤ c → file2_of p c ≡ unwrap_or (slice_get before c) []

-- an event that was done, what its disk gave, and where it led
pub record SystemStep : Type 0 where
  pub event : Event2
  pub disk : DiskOutcome2
  pub state : SystemState2

abbrev pub last_state2 : SystemState2 → List SystemStep → SystemState2
last_state2 p [] = p
last_state2 p (v ∷ vs) = last_state2 v.state vs

-- core steps one after another, each of the event that is next; behind them these events of the script are left
abbrev pub Executes2 : Openings → List ℕ → List Event2 → SystemState2 → List SystemStep → List Event2 → Type 0
Executes2 books fingerprint events p [] rest = events ≡ rest
Executes2 books fingerprint events p (v ∷ vs) rest =
    (more : List Event2) × (next2 p.world events ≡ Some (record { event = v.event; rest = more })) × CoreStep2 books fingerprint p v.event v.disk v.state × Executes2 books fingerprint more v.state vs rest
