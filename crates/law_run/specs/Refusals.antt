-- A run over sound logs meets no bad log and no foreign one.
use Rattle.std.specs.Prelude.{◌≡◌, ℕ, true, Bool, List, Some}
use Rattle.ic_base.specs.declared.limits.TheConstants.{LOG_BYTES}
use Rattle.ic_base.specs.declared.messages.ComId.{ComId}
use Rattle.ic_base.specs.declared.events.Event.{Event}
use Rattle.ic_base.specs.declared.events.What.{What}
use Rattle.ic_base.specs.declared.events.What.TheVariants.{Recover}
use Rattle.ic_base.specs.declared.record.Record.{Record}
use Rattle.ic_base.specs.declared.refusals.WorldRefused.{WorldRefused}
use Rattle.ic_base.specs.declared.refusals.WorldRefused.TheVariants.{Bad, Foreign}
use Rattle.ic_base.specs.declared.scenario.Program.{Program}
use Rattle.ic_base.specs.Programs.{is_a_tcom}
use Rattle.def_log.specs.Sizes.{size_in}
use Rattle.def_step.specs.Settle.{PolicyIntervals}
use Rattle.def_step.specs.Tcom.{Book, book_of, lacks_epoch}
use Rattle.def_step.specs.World.{Down, node_at}
use Rattle.def_run.specs.Executions.{Agenda, Executes, whole_agenda}
use Rattle.def_run.specs.Refusals.{met, IsRefused}
use Rattle.def_run.specs.SystemStates.{SystemState, Transition, KeepsLogs, file_of, last_state}
use Rattle.def_run.specs.Openings.{BeginsSound}
use Rattle.def_facts.specs.Flat.{HasFlatParts}
use Rattle.def_facts.specs.Logs.{Logs}
use Rattle.def_facts.specs.Playable.{IsPlayable}
use Rattle.law_run.specs.ProgramBytes.{HasBytes}
use Rattle.law_run.specs.Ends.{AreEvents}
use Rattle.law_run.specs.Executions.{IsExplainedInBytes}

-- a Tcom that is to come up can't enter its next epoch: its log, which is read whole, has no room for the Epoch record, or no epoch is next
pub record LacksEpoch (program : Program) (p : SystemState) (what : What) (t : ComId) : Type 0 where
  pub recovers : what ≡ Recover t
  pub tcom : is_a_tcom program t ≡ true
  pub records : List Record
  pub down : node_at p.world t ≡ Some (Down records)
  pub book : Book
  pub reads : book_of program t records ≡ Some book
  pub size : ℕ
  pub size_is : size_in (file_of p t) ≡ Some size
  pub lacks : lacks_epoch size book ≡ true

-- Where a world is explained and the disks keep its logs, no event meets a bad or a foreign log: no frame, fingerprint, record or image
-- is refused, and no record is a misfit, of a recovery or of a replay that is fed. What alone is met is a Tcom with no next epoch, told
-- at the log's limit.
abbrev pub EventsMeetSoundLogs : Type 0
EventsMeetSoundLogs = (program : Program) (fingerprint : List ℕ) (found : Logs) (here : ComId → ℕ) (p : SystemState) (e : Event) (why : WorldRefused) → IsPlayable program → HasBytes program → KeepsLogs fingerprint p → IsExplainedInBytes program found here p.world →
    met program fingerprint p e.stop e.what ≡ Some why → (t : ComId) × (why ≡ Bad t LOG_BYTES) × LacksEpoch program p e.what t

-- so wherever a run is, whatever event is tried: it is refused for a bad log only where a Tcom has no next epoch, and never for a foreign one
abbrev pub RunsMeetSoundLogs : Type 0
RunsMeetSoundLogs = (program : Program) (fingerprint : List ℕ) (before : List (List ℕ)) (x : PolicyIntervals) (events : List Event) (halts : Bool) (b : Agenda) (p : SystemState) (vs : List Transition) (received : ℕ) (e : Event) → IsPlayable program → HasFlatParts program → HasBytes program → AreEvents program events →
    BeginsSound program fingerprint before p → Executes program fingerprint x (whole_agenda events halts) p vs b →
    ((t : ComId) (place : ℕ) → IsRefused program fingerprint (last_state p vs) received e (Bad t place) → (place ≡ LOG_BYTES) × LacksEpoch program (last_state p vs) e.what t)
    × ((c : ComId) (kept : List ℕ) → IsRefused program fingerprint (last_state p vs) received e (Foreign c kept) → ⊥)
