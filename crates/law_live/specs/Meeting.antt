-- What events of a live run meet on the disks of their components: no bad log and no foreign one.
use Rattle.std.specs.Prelude.{◌≡◌, ⊤, ℕ, List, ◌∷◌, ◌++◌, [], Option, Some}
use Rattle.ic_base.specs.declared.limits.TheConstants.{LOG_BYTES}
use Rattle.ic_base.specs.declared.messages.ComId.{ComId}
use Rattle.ic_base.specs.declared.messages.Output.{Output}
use Rattle.ic_base.specs.declared.messages.Packet.{Packet}
use Rattle.ic_base.specs.declared.events.Event.{Event}
use Rattle.ic_base.specs.declared.events.Stop.{Stop}
use Rattle.ic_base.specs.declared.refusals.WorldRefused.{WorldRefused}
use Rattle.ic_base.specs.declared.refusals.WorldRefused.TheVariants.{Bad, Foreign}
use Rattle.ic_base.specs.declared.scenario.Program.{Program}
use Rattle.def_step.specs.Pcom.{Call, Gets}
use Rattle.def_step.specs.Settle.{PolicyIntervals}
use Rattle.def_step.specs.World.{Node}
use Rattle.def_run.specs.Executions.{Agenda, Executes}
use Rattle.def_run.specs.Refusals.{met, node_refusal, down_refusal}
use Rattle.def_run.specs.SystemStates.{SystemState, Transition, KeepsLogs, file_in, last_state}
use Rattle.def_facts.specs.Flat.{HasFlatParts}
use Rattle.def_facts.specs.Logs.{IsConsistent}
use Rattle.def_facts.specs.Playable.{IsPlayable}
use Rattle.def_live.specs.Assembled.{assembled, AreOf}
use Rattle.def_live.specs.Lanes.{Lanes}
use Rattle.def_live.specs.Serial.{agenda_left, events_left}
use Rattle.def_live.specs.Turns.{Berth}
use Rattle.law_run.specs.ProgramBytes.{HasBytes}
use Rattle.law_live.specs.Berths.{BerthFacts}
use Rattle.law_live.specs.Closing.{AreClosed}

-- a bad log is met only where a Tcom has no next epoch, told at the log's limit, and a foreign one never
abbrev pub IsOfSound : WorldRefused → Type 0
IsOfSound (Bad c place) = place ≡ LOG_BYTES
IsOfSound (Foreign c kept) = ⊥
IsOfSound why = ⊤

-- What a berth meets on its own disk: no frame, fingerprint, record or image is refused, and no record is a misfit, of a recovery; and none of
-- a replay that is fed a packet which has one content with all that the component got.
pub record MeetsOwnLog (program : Program) (fingerprint : List ℕ) (c : ComId) (a : Berth) : Type 0 where
  pub recovers : (stop : Option Stop) (why : WorldRefused) → down_refusal program fingerprint c stop (file_in a.files c) a.part.node ≡ Some why → IsOfSound why
  pub calls : (call : Call) (why : WorldRefused) → ((p : Packet) → call ≡ Gets p → IsConsistent (a.part.received ++ p ∷ [])) → node_refusal program c (file_in a.files c) call a.part.node ≡ Some why → ⊥

abbrev pub BerthsMeetOwnLogs : Type 0
BerthsMeetOwnLogs = (program : Program) (fingerprint : List ℕ) (c : ComId) (a : Berth) (here : ℕ) → IsPlayable program → HasBytes program → BerthFacts program fingerprint c a here → MeetsOwnLog program fingerprint c a

-- so it is in the serial phase, wherever that is
abbrev pub ClosedRunsMeetSoundLogs : Type 0
ClosedRunsMeetSoundLogs = (program : Program) (fingerprint : List ℕ) (policy : PolicyIntervals) (plans : ComId → List Event) (lanes : Lanes) (berths : ComId → Berth) (nodes : List Node) (showings : List (ComId × Output)) (b : Agenda) (p : SystemState) (vs : List Transition) (e : Event) (why : WorldRefused) → IsPlayable program → HasFlatParts program → HasBytes program →
    AreClosed program fingerprint plans lanes berths → AreOf program (λ c. (berths c).part) nodes showings → p.world ≡ assembled nodes showings → KeepsLogs fingerprint p → Executes program fingerprint policy (agenda_left (events_left program berths)) p vs b → met program fingerprint (last_state p vs) e.stop e.what ≡ Some why → IsOfSound why
