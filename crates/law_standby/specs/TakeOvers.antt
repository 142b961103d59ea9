-- A takeover keeps a world explained.
use Rattle.std.specs.Prelude.{◌≡◌, ℕ, true, false, List, ◌++◌, Contains, Some}
use Rattle.ic_base.specs.declared.messages.ComId.{ComId}
use Rattle.ic_base.specs.declared.messages.Packet.{Packet}
use Rattle.ic_base.specs.declared.scenario.Program.{Program}
use Rattle.ic_base.specs.declared.record.Record.{Record}
use Rattle.def_state.specs.Hist.{Contents}
use Rattle.ic_base.specs.Programs.{is_a_pcom}
use Rattle.def_state.specs.Vol.{Vol}
use Rattle.def_step.specs.World.{World, Down, node_at}
use Rattle.def_facts.specs.Logs.{Logs, contents_in}
use Rattle.def_facts.specs.Pcom.{PcomLogFacts}
use Rattle.def_facts.specs.World.{Past, IsExplainedBy, IsExplained}
use Rattle.law_pcom.specs.Replaying.{Plays}
use Rattle.def_standby.specs.Standbys.{content_of, is_missing, play_all, contents_to}
use Rattle.def_standby.specs.TakeOvers.{taken_over, world_over}

-- the contents at hand are those that were received, as far as these records ask for them
abbrev pub AreReceived : Contents → List Packet → List Record → Type 0
AreReceived contents received records = (r : Record) → Contains records r → is_missing contents r ≡ false → content_of contents r ≡ content_of (contents_in received) r

-- records that are played further
abbrev pub ShippedRecordsPlay : Type 0
ShippedRecordsPlay = (program : Program) (c : ComId) (sent received : List Packet) (contents : Contents) (v w : Vol) (played rest more log : List Record) → PcomLogFacts program c log log sent received → log ≡ (played ++ rest) ++ more → AreReceived contents received rest →
    Plays program c received v played log → play_all program c contents v rest ≡ Some w → Plays program c received w (played ++ rest) log

-- the standby played some records of the log, and now the others
abbrev pub TakeOversKeepExplained : Type 0
TakeOversKeepExplained = (program : Program) (found : Logs) (here : ComId → ℕ) (w : World) (past : Past) (c : ComId) (contents : Contents) (v later : Vol) (log played rest : List Record) → is_a_pcom program c ≡ true → IsExplainedBy program found here w past → node_at w c ≡ Some (Down log) →
    log ≡ played ++ rest → AreReceived contents (past.received c) rest → Plays program c (past.received c) v played log → play_all program c contents v rest ≡ Some later → (lives : ComId → ℕ) × IsExplained program found lives (world_over w c (taken_over log later))

-- the contents that a world's packets bring are those that were received, as far as the log asks for them
abbrev pub PacketsHaveContents : Type 0
PacketsHaveContents = (program : Program) (found : Logs) (here : ComId → ℕ) (w : World) (past : Past) (c : ComId) (log : List Record) → is_a_pcom program c ≡ true → IsExplainedBy program found here w past → node_at w c ≡ Some (Down log) → AreReceived (contents_to c w.packets) (past.received c) log

-- what a standby has played stays so while more is received and more is forced
abbrev pub PlayedStays : Type 0
PlayedStays = (program : Program) (c : ComId) (received more : List Packet) (v : Vol) (played forced extra : List Record) → Plays program c received v played forced → Plays program c (received ++ more) v played (forced ++ extra)
