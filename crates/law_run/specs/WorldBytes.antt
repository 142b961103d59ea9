-- In each state of a run each record of a log, each packet and each value of a Tcom has its bytes.
use Rattle.std.specs.Prelude.{◌≡◌, ⊤, ℕ, ◌≤◌, true, List, length, Some, is_some}
use Rattle.std.specs.List.{AllByRecursion}
use Rattle.ic_base.specs.declared.limits.TheConstants.{REQUESTS}
use Rattle.ic_base.specs.declared.messages.ComId.{ComId}
use Rattle.ic_base.specs.declared.messages.Packet.{Packet}
use Rattle.ic_base.specs.declared.messages.Packet.TheVariants.{Op, OpReply}
use Rattle.ic_base.specs.declared.events.Event.{Event}
use Rattle.ic_base.specs.declared.events.What.TheVariants.{Recover}
use Rattle.ic_base.specs.declared.scenario.Program.{Program}
use Rattle.ic_base.specs.declared.record.Record.{Record}
use Rattle.ic_base.specs.Programs.{is_a_pcom}
use Rattle.def_log.specs.Spelling.{Fits, IsWrite}
use Rattle.def_step.specs.Pcom.{Log}
use Rattle.def_step.specs.Settle.{asked_of}
use Rattle.def_step.specs.Tcom.{Sitting, Tcom}
use Rattle.def_step.specs.World.{World, Node, Runs, Serves, Down, External, DiskOutcome, After, node_at, happens, first_world}
use Rattle.def_run.specs.CoreSteps.{is_stopped}
use Rattle.def_run.specs.Openings.{found_world}
use Rattle.def_facts.specs.Logs.{Logs}
use Rattle.def_facts.specs.Playable.{IsPlayable}
use Rattle.def_facts.specs.World.{Past, IsExplained, IsExplainedBy}
use Rattle.law_pcom.specs.Recovering.{HaveImages}
use Rattle.law_step.specs.Steps.{PassesNoLimit}
use Rattle.law_syntax.specs.Events.{IsEvent}
use Rattle.law_run.specs.ProgramBytes.{IsWord, AreWords, HasBytes, RequestFits}

-- a session's answers are values, it makes no more requests than it may, and its writes are some of them
pub record SittingFits (s : Sitting) : Type 0 where
  pub answers : AreWords s.answers
  pub few : length s.answers ≤ REQUESTS
  pub writes : AllByRecursion IsWrite s.writes
  pub fewer : length s.writes ≤ length s.answers

pub record TcomFits (x : Tcom) : Type 0 where
  pub records : AllByRecursion Fits x.records
  pub ledger : AreWords x.book.ledger
  pub sittings : AllByRecursion SittingFits x.sittings

pub record LogFits (l : Log) : Type 0 where
  pub forced : AllByRecursion Fits l.forced
  pub buffered : AllByRecursion Fits l.buffered

abbrev pub NodeFits : Node → Type 0
NodeFits (Runs p) = LogFits p.log
NodeFits (Serves x) = TcomFits x
NodeFits (Down log) = AllByRecursion Fits log
NodeFits External = ⊤

-- a request to write has a value, and so has an answer
abbrev pub PacketFits : Packet → Type 0
PacketFits (Op from to n place session request) = RequestFits request
PacketFits (OpReply from to n place session value) = IsWord value
PacketFits _ = ⊤

pub record WorldFits (w : World) : Type 0 where
  pub nodes : (c : ComId) (n : Node) → node_at w c ≡ Some n → NodeFits n
  pub packets : AllByRecursion PacketFits w.packets

-- the laws ----------------------------------------------------------------------------------------

-- so a run begins, anew or over logs whose records have their bytes
abbrev pub FirstWorldFits : Type 0
FirstWorldFits = (program : Program) → HasBytes program → WorldFits (first_world program)

abbrev pub FoundWorldFits : Type 0
FoundWorldFits = (program : Program) (logs : List (List Record)) → ((c : ComId) (log : List Record) → node_at (found_world program logs) c ≡ Some (Down log) → AllByRecursion Fits log) → WorldFits (found_world program logs)

-- an event keeps it that passes no limit, where what a load reads and what a stop leaves has its bytes
abbrev pub EventsKeepBytes : Type 0
EventsKeepBytes = (program : Program) (found : Logs) (here : ComId → ℕ) (w : World) (e : Event) (x : DiskOutcome) (a : After) → HasBytes program → IsPlayable program → IsEvent program e → PassesNoLimit program w e.what →
    ((c : ComId) (log : List Record) → e.what ≡ Recover c → node_at w c ≡ Some (Down log) → AllByRecursion Fits x.found) → ((c : ComId) → is_some e.stop ≡ true → is_stopped a.trace.answer ≡ true → asked_of e.what a.trace.answer ≡ Some c → AllByRecursion Fits x.left) → IsExplained program found here w → WorldFits w → happens program w e x ≡ Some a → WorldFits a.world

-- and in each past that explains the world the state of each image in the log of a Pcom that is down has its bytes
abbrev pub ImagesHaveBytes : Type 0
ImagesHaveBytes = (program : Program) (found : Logs) (here : ComId → ℕ) (w : World) (past : Past) (c : ComId) (log : List Record) → HasBytes program → IsPlayable program → WorldFits w → IsExplainedBy program found here w past → node_at w c ≡ Some (Down log) → is_a_pcom program c ≡ true → HaveImages program c (past.received c) log
