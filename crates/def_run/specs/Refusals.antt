-- Why the event that is next isn't done, and how a run then ends.
use Rattle.std.specs.Prelude.{◌≡◌, ◌<◌, ℕ, ◌+◌, ◌-◌, Bool, true, false, nat_le, cond, List, length, Option, Some, None, Ok, Err, option_map, option_and_then, slice_get, unwrap_or}
use Rattle.ic_base.specs.declared.limits.TheConstants.{LOG_BYTES, RECEIPTS, PACKETS}
use Rattle.ic_base.specs.declared.messages.ComId.{ComId}
use Rattle.ic_base.specs.declared.messages.Packet.{Packet}
use Rattle.ic_base.specs.declared.messages.Packet.TheVariants.{Data}
use Rattle.ic_base.specs.declared.events.Event.{Event}
use Rattle.ic_base.specs.declared.events.Stop.{Stop}
use Rattle.ic_base.specs.declared.events.What.{What}
use Rattle.ic_base.specs.declared.events.What.TheVariants as whats
use Rattle.ic_base.specs.declared.refusals.Which.TheVariants.{Receipts, Packets}
use Rattle.ic_base.specs.declared.refusals.WorldRefused.{WorldRefused}
use Rattle.ic_base.specs.declared.refusals.WorldRefused.TheVariants as refused
use Rattle.ic_base.specs.declared.refusals.StartWhy.{StartWhy}
use Rattle.ic_base.specs.declared.refusals.StartWhy.TheVariants as starts
use Rattle.ic_base.specs.declared.report.Fault.{Fault}
use Rattle.ic_base.specs.declared.report.Fault.TheVariants as faults
use Rattle.ic_base.specs.declared.scenario.Program.{Program}
use Rattle.ic_base.specs.Programs.{is_a_tcom}
use Rattle.def_log.specs.Log.{Placed, placed_log_of, records_in}
use Rattle.def_log.specs.Sizes.{size_in}
use Rattle.def_log.specs.Loads.{Holds, Foreign, Bad, load_of}
use Rattle.def_step.specs.Packets.{fits_pcom}
use Rattle.def_step.specs.Pcom.{Pcom, Call, Gets, all_of, is_needed}
use Rattle.def_step.specs.Replay.{misfit_of, misfit_fed}
use Rattle.def_step.specs.Tcom.{Book, book_of, book_misfit, lacks_epoch}
use Rattle.def_step.specs.World.{World, Node, Runs, Down, is_reached, load_calls, node_at}
use Rattle.def_step.specs.Calls.{Called, call_of, receives}
use Rattle.def_run.specs.SystemStates.{SystemState, Transition, file_of}
use Rattle.def_run.specs.CoreSteps.{CoreStep, is_full_at}
use Rattle.def_run.specs.Executions.{first_of}

-- the place in its file of a record, counted from 0
abbrev pub place_of : List Placed → ℕ → ℕ
place_of records i = unwrap_or (option_map (λ r. r.0) (slice_get records i)) 0

abbrev pub bad_at : ComId → List Placed → ℕ → WorldRefused
bad_at c records i = refused.Bad c (place_of records i)

-- a recovery meets a misfit; one of a Tcom, or no room for its Epoch record
abbrev pub epoch_refusal : ComId → ℕ → Option Book → Option WorldRefused
epoch_refusal c size None = None
epoch_refusal c size (Some b) = cond (lacks_epoch size b) (Some (refused.Bad c LOG_BYTES)) None

abbrev pub tcom_refusal : Program → ComId → ℕ → List Placed → Option WorldRefused
tcom_refusal program c size records =
    first_of (option_map (bad_at c records) (book_misfit program c (records_in records))) (epoch_refusal c size (book_of program c (records_in records)))

abbrev pub pcom_refusal : Program → ComId → List Placed → Option WorldRefused
pcom_refusal program c records = option_map (bad_at c records) (misfit_of program c (records_in records))

abbrev pub misfit_refusal : Program → ComId → List ℕ → List Placed → Option WorldRefused
misfit_refusal program c file records =
    cond (is_a_tcom program c) (tcom_refusal program c (unwrap_or (size_in file) 0) records) (pcom_refusal program c records)

-- a recovery over a file is refused for its frame, its fingerprint, the bytes of its records, or a misfit
abbrev pub records_refusal : Program → ComId → List ℕ → Option WorldRefused
records_refusal program c file = elim (placed_log_of file) [ Ok records ↦ misfit_refusal program c file records | Err place ↦ Some (refused.Bad c place) ]

abbrev pub recovery_refusal : Program → List ℕ → ComId → List ℕ → Option WorldRefused
recovery_refusal program fingerprint c file = elim (load_of fingerprint c.0 file) [
  | Holds batches ↦ records_refusal program c file
  | Foreign kept ↦ Some (refused.Foreign c kept)
  | Bad place ↦ Some (refused.Bad c place)
]

-- a replay that is fed the message for which it waits meets a misfit
abbrev pub fed_refusal : Program → ComId → List ℕ → Pcom → Packet → Option WorldRefused
fed_refusal program c file p (Data m) =
    cond (is_needed p.rest m)
    (option_map (λ i. refused.Bad c (elim (placed_log_of file) [ Ok records ↦ place_of records (length (all_of p.log) - length p.rest + i) | Err place ↦ place ])) (misfit_fed program c p.vol m p.rest))
    None
fed_refusal program c file p _ = None

abbrev pub node_refusal : Program → ComId → List ℕ → Call → Node → Option WorldRefused
node_refusal program c file (Gets packet) (Runs p) = cond (fits_pcom program c packet) (fed_refusal program c file p packet) None
node_refusal program c file _ _ = None

abbrev pub call_refusal : Program → SystemState → Called → Option WorldRefused
call_refusal program p x = option_and_then (node_refusal program x.who (file_of p x.who) x.call) (node_at p.world x.who)

-- a recovery of a component that is down, unless a stop comes within its load
abbrev pub down_refusal : Program → List ℕ → ComId → Option Stop → List ℕ → Node → Option WorldRefused
down_refusal program fingerprint c stop file (Down records) = cond (is_reached stop (load_calls program c)) None (recovery_refusal program fingerprint c file)
down_refusal program fingerprint c stop file _ = None

-- what an event meets on the disk of its component
abbrev pub met : Program → List ℕ → SystemState → Option Stop → What → Option WorldRefused
met program fingerprint p stop (whats.Recover c) = option_and_then (down_refusal program fingerprint c stop (file_of p c)) (node_at p.world c)
met program fingerprint p stop what = option_and_then (call_refusal program p) (call_of p.world what)

-- the component of an event's call
abbrev pub IsCalled : World → What → ComId → Type 0
IsCalled w what c = option_map (λ x. x.who) (call_of w what) ≡ Some c

-- one more receipt would pass its number
abbrev pub is_past_receipts : Program → World → ℕ → What → Bool
is_past_receipts program w received what = cond (receives program w what) (nat_le RECEIPTS received) false

-- the event was done, and numbers its packets past their limit
pub record PassesPackets (program : Program) (fingerprint : List ℕ) (p : SystemState) (e : Event) : Type 0 where
  pub done : Transition
  pub step : CoreStep program fingerprint p e done.trace done.state
  pub past : PACKETS < length done.state.world.packets

-- Why the event isn't done, or its packets aren't numbered, where so many were received before: first the receipts, then a full log,
-- then what is met, last the packets. A fault of a disk and want of memory may come before.
abbrev pub IsRefused : Program → List ℕ → SystemState → ℕ → Event → WorldRefused → Type 0
IsRefused program fingerprint p received e (refused.Limit Receipts) = is_past_receipts program p.world received e.what ≡ true
IsRefused program fingerprint p received e (refused.LogFull c) =
    (is_past_receipts program p.world received e.what ≡ false) × (is_full_at program p e.what ≡ true) × IsCalled p.world e.what c
IsRefused program fingerprint p received e (refused.Bad c place) = met program fingerprint p e.stop e.what ≡ Some (refused.Bad c place)
IsRefused program fingerprint p received e (refused.Foreign c kept) = met program fingerprint p e.stop e.what ≡ Some (refused.Foreign c kept)
IsRefused program fingerprint p received e (refused.Limit Packets) = PassesPackets program fingerprint p e
IsRefused program fingerprint p received e (refused.Failed c) = Unit {0}
IsRefused program fingerprint p received e refused.Memory = Unit {0}

-- what a berth of a live run counts: the messages that it received, the inputs that it did, the packets that it put out
pub record LiveCounts : Type 0 where
  pub received : ℕ
  pub inputs : ℕ
  pub packets : ℕ

abbrev pub receipts_of : LiveCounts → ℕ
receipts_of counts = counts.received + counts.inputs

-- the step of a berth was done, and its packets would pass their limit
pub record PassesLivePackets (program : Program) (fingerprint : List ℕ) (p : SystemState) (e : Event) (counts : LiveCounts) : Type 0 where
  pub done : Transition
  pub step : CoreStep program fingerprint p e done.trace done.state
  pub past : PACKETS < counts.packets + length done.trace.puts

-- Why a berth's event isn't done: as in a world, with the berth's own counts.
abbrev pub IsLiveRefused : Program → List ℕ → SystemState → LiveCounts → Event → WorldRefused → Type 0
IsLiveRefused program fingerprint p counts e (refused.Limit Packets) = PassesLivePackets program fingerprint p e counts
IsLiveRefused program fingerprint p counts e why = IsRefused program fingerprint p (receipts_of counts) e why

-- how a run ends: the last line of a refusal, with the fingerprint that was given; want of memory has none
abbrev pub fault_of : List ℕ → WorldRefused → Option Fault
fault_of given (refused.Limit Receipts) = Some faults.Receipts
fault_of given (refused.Limit Packets) = Some faults.Packets
fault_of given (refused.LogFull c) = Some (faults.LogFull c)
fault_of given (refused.Bad c place) = Some (faults.Bad c place)
fault_of given (refused.Failed c) = Some (faults.Disk c)
fault_of given (refused.Foreign c kept) = Some (faults.Foreign c kept given)
fault_of given refused.Memory = None

abbrev pub start_fault_of : List ℕ → StartWhy → Option Fault
start_fault_of given (starts.NotBlank c) = Some (faults.NotBlank c)
start_fault_of given (starts.Bad c place) = Some (faults.Bad c place)
start_fault_of given (starts.Foreign c kept) = Some (faults.Foreign c kept given)
start_fault_of given (starts.Failed c) = Some (faults.Disk c)
start_fault_of given starts.Memory = None
