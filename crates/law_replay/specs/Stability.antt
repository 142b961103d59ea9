-- The facts of a log that stay when the log is cut or grows, and when more is received or put out.
use Rattle.std.specs.Prelude.{◌≡◌, true, false, ℕ, List, [], ◌∷◌, ◌++◌, length, IsSome, IsTrue}
use Rattle.ic_base.specs.declared.messages.ComId.{ComId}
use Rattle.ic_base.specs.declared.messages.Packet.{Packet}
use Rattle.ic_base.specs.declared.scenario.Program.{Program}
use Rattle.ic_base.specs.declared.record.Record.{Record}
use Rattle.ic_base.specs.Programs.{is_a_pcom}
use Rattle.def_facts.specs.Logs.{Logs, log_at, IsPrefixOf, IsConsistent, has_outcome, commits}
use Rattle.def_facts.specs.Pcom.{state_after, PrefixFacts, LastingFacts, PcomLogFacts, IsTrueOf, EndsWell}
use Rattle.def_facts.specs.Tcom.{TcomLogFacts}
use Rattle.def_facts.specs.World.{LogsExplained, IsFamily, Past}

-- what holds of all records holds of the first ones: a crash keeps it
abbrev pub PrefixFactsOfPrefix : Type 0
PrefixFactsOfPrefix = (program : Program) (c : ComId) (log all : List Record) (sent received : List Packet) → IsPrefixOf log all → PrefixFacts program c all sent received → PrefixFacts program c log sent received

-- what was put out stays true when the log grows: a force keeps it
abbrev pub TruthLasts : Type 0
TruthLasts = (program : Program) (c : ComId) (log more : List Record) (received : List Packet) (p : Packet) → IsSome (state_after program c received (log ++ more)) → IsTrueOf program c log received p → IsTrueOf program c (log ++ more) received p

-- a Pcom's facts when more records are forced, or fewer are kept
abbrev pub PcomsNarrow : Type 0
PcomsNarrow = (program : Program) (c : ComId) (forced all lower upper : List Record) (sent received : List Packet) →
    IsPrefixOf forced lower → IsPrefixOf lower upper → IsPrefixOf upper all →
    EndsWell program c received lower → EndsWell program c received upper →
    PcomLogFacts program c forced all sent received → PcomLogFacts program c lower upper sent received

-- `lower` has at least what was forced, and `upper` at most what was there
pub record IsNarrowing (program : Program) (forced all : Logs) (past : Past) (lower upper : Logs) : Type 0 where
  pub one_each : (length lower ≡ length program.components) × (length upper ≡ length program.components)
  pub forced_lower : (c : ComId) → IsPrefixOf (log_at forced c) (log_at lower c)
  pub lower_upper : (c : ComId) → IsPrefixOf (log_at lower c) (log_at upper c)
  pub upper_all : (c : ComId) → IsPrefixOf (log_at upper c) (log_at all c)
  pub lower_ends : (c : ComId) → IsTrue (is_a_pcom program c) → EndsWell program c (past.received c) (log_at lower c)
  pub upper_ends : (c : ComId) → IsTrue (is_a_pcom program c) → EndsWell program c (past.received c) (log_at upper c)

-- a force, a crash and a reached stop keep what the logs say
abbrev pub LogsNarrow : Type 0
LogsNarrow = (program : Program) (found forced all lower upper : Logs) (past : Past) → IsNarrowing program forced all past lower upper → LogsExplained program found forced all past → LogsExplained program found lower upper past

-- so each family is explained by itself
abbrev pub FamiliesExplained : Type 0
FamiliesExplained = (program : Program) (found forced all logs : Logs) (past : Past) → IsFamily program forced all past logs → LogsExplained program found forced all past → LogsExplained program found logs logs past

-- more is received
abbrev pub PrefixFactsReceive : Type 0
PrefixFactsReceive = (program : Program) (c : ComId) (log : List Record) (sent received more : List Packet) → PrefixFacts program c log sent received → PrefixFacts program c log sent (received ++ more)

abbrev pub LastingFactsReceive : Type 0
LastingFactsReceive = (program : Program) (c : ComId) (log : List Record) (sent received more : List Packet) → LastingFacts program c log sent received → LastingFacts program c log sent (received ++ more)

abbrev pub PcomsReceive : Type 0
PcomsReceive = (program : Program) (c : ComId) (forced all : List Record) (sent received more : List Packet) → IsConsistent (received ++ more) → PcomLogFacts program c forced all sent received → PcomLogFacts program c forced all sent (received ++ more)

abbrev pub TcomsReceive : Type 0
TcomsReceive = (program : Program) (t : ComId) (old : ℕ) (log : List Record) (sent received more : List Packet) → TcomLogFacts program t old log sent received → TcomLogFacts program t old log sent (received ++ more)

-- a packet is put out that is true of the forced records; of a Commit the transaction has no outcome yet
abbrev pub PcomsPut : Type 0
PcomsPut = (program : Program) (c : ComId) (forced all : List Record) (sent received : List Packet) (p : Packet) →
    IsTrueOf program c forced received p → ((n : ℕ) → commits n p ≡ true → has_outcome all n ≡ false) →
    PcomLogFacts program c forced all sent received → PcomLogFacts program c forced all (sent ++ p ∷ []) received
