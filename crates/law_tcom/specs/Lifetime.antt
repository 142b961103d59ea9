-- A Tcom over its whole life: from an empty log, over any packets, crashes and recoveries, its decisions are serial.
use Rattle.std.specs.Prelude.{◌≡◌, ℕ, ◌<◌, ◌≤◌, List, [], ◌∷◌, ◌++◌, length, Option, Some, None, option_map, option_and_then, slice_get, ℤ, Contains}
use Rattle.ic_base.specs.declared.messages.ComId.{ComId}
use Rattle.ic_base.specs.declared.messages.Session.{Session}
use Rattle.ic_base.specs.declared.messages.Request.{Request}
use Rattle.ic_base.specs.declared.messages.Decision.TheVariants.{Committed}
use Rattle.ic_base.specs.declared.messages.Packet.{Packet}
use Rattle.ic_base.specs.declared.messages.Packet.TheVariants.{Commit, Outcome}
use Rattle.ic_base.specs.declared.scenario.Program.{Program}
use Rattle.ic_base.specs.declared.record.Record.{Record}
use Rattle.ic_base.specs.declared.record.Record.TheVariants.{Decided}
use Rattle.def_play.specs.Ledger.{answers_on, puts_of}
use Rattle.def_step.specs.Packets.{receiver_of}
use Rattle.def_step.specs.Tcom.{Tcom, first_ledger, fresh_tcom, recover_tcom, tcom_step}
use Rattle.def_facts.specs.Logs.{Stands, decisions_on}
use Rattle.def_facts.specs.Tcom.{RequestsReceived, RepliesAre, TcomStateFacts, OneOwner}
use Rattle.def_facts.specs.Live.{LiveTcomFacts}
use Rattle.law_tcom.specs.Decisions.{ledger_by}

-- a Tcom with all that it put out and received
pub record Life : Type 0 where
  pub tcom : Tcom
  pub sent : List Packet
  pub received : List Packet

abbrev pub first_life : Program → ComId → Life
first_life program t = record { tcom = fresh_tcom program t; sent = []; received = [] }

-- a packet comes, or the Tcom crashes and is recovered, over a log that has room
abbrev pub turned : Program → ComId → Life → Option Packet → Option Life
turned program t l (Some p) = Some (record { tcom = (tcom_step program t l.tcom p).tcom; sent = l.sent ++ (tcom_step program t l.tcom p).puts; received = l.received ++ p ∷ [] })
turned program t l None = option_map (λ x. record { tcom = x; sent = l.sent; received = l.received }) (recover_tcom program t 0 l.tcom.records)

abbrev pub lives : Program → ComId → Option Life → List (Option Packet) → Option Life
lives program t o [] = o
lives program t o (e ∷ es) = lives program t (option_and_then (λ l. turned program t l e) o) es

-- The decision is that of a Commit that was received, with a lower stamp. Its writes are the puts of requests that were received, and
-- each answer that its session ever gave is what these requests get in turn on the ledger of the decisions before it.
pub record IsSerial (program : Program) (t : ComId) (l : Life) (pre : List Record) (stamp : ℕ) (c : ComId) (n : ℕ) (writes : List (ℕ × ℤ)) : Type 0 where
  pub place : ℕ
  pub session : Session
  pub asked_at : ℕ
  pub asked : Contains l.received (Commit c t n place session asked_at)
  pub stamp_above : asked_at < stamp
  pub requests : List Request
  pub requested : RequestsReceived t c l.received n session requests
  pub writes_are : writes ≡ puts_of requests
  pub answered : RepliesAre t c l.sent n session (answers_on (ledger_by (first_ledger (slice_get program.components t.0)) pre) requests)

pub record IsSerialLife (program : Program) (t : ComId) (l : Life) : Type 0 where
  -- the ledger is the decisions of the log, each applied whole, in order, and a transaction is decided at most once
  pub ledger : l.tcom.book.ledger ≡ ledger_by (first_ledger (slice_get program.components t.0)) l.tcom.records
  pub once : (c : ComId) (n : ℕ) → length (decisions_on l.tcom.records c n) ≤ 1
  -- each as if it ran alone
  pub serial : (pre post : List Record) (stamp : ℕ) (c : ComId) (n : ℕ) (writes : List (ℕ × ℤ)) → Stands l.tcom.records pre (Decided stamp c n writes) post → IsSerial program t l pre stamp c n writes
  -- a commit is told only of a decision in the log
  pub told : (c : ComId) (n place : ℕ) (session : Option Session) (stamp : ℕ) → Contains l.sent (Outcome t c n place session (Committed stamp)) → Contains (decisions_on l.tcom.records c n) stamp
  -- a session answers one transaction alone
  pub one_owner : OneOwner t l.sent
  -- and all facts hold
  pub state : TcomStateFacts program t l.tcom l.sent l.received
  pub live : LiveTcomFacts program t l.tcom.records l.sent l.received

abbrev pub LivesAreSerial : Type 0
LivesAreSerial = (program : Program) (t : ComId) (turns : List (Option Packet)) (l : Life) → ((p : Packet) → Contains turns (Some p) → receiver_of p ≡ t) → lives program t (Some (first_life program t)) turns ≡ Some l → IsSerialLife program t l
