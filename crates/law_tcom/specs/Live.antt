-- The other facts of a Tcom that a step keeps: those of a live run, those of the packets of a world, and all of them along packets.
use Rattle.std.specs.Prelude.{◌≡◌, ℕ, ◌<◌, ◌≤◌, List, [], ◌∷◌, ◌++◌, length, Some, Contains}
use Rattle.ic_base.specs.declared.messages.ComId.{ComId}
use Rattle.ic_base.specs.declared.messages.Session.{Session}
use Rattle.ic_base.specs.declared.messages.AbortCause.TheVariants.{Epoch as Epochs}
use Rattle.ic_base.specs.declared.messages.Decision.TheVariants.{Aborted}
use Rattle.ic_base.specs.declared.messages.Packet.{Packet}
use Rattle.ic_base.specs.declared.messages.Packet.TheVariants.{Outcome}
use Rattle.ic_base.specs.declared.scenario.Program.{Program}
use Rattle.ic_base.specs.declared.record.Record.{Record}
use Rattle.def_step.specs.Packets.{receiver_of}
use Rattle.def_step.specs.Tcom.{Tcom, tcom_step, recover_tcom, fresh_tcom}
use Rattle.def_facts.specs.Tcom.{TcomLogFacts, TcomStateFacts}
use Rattle.def_facts.specs.World.{OutcomesAnswer}
use Rattle.def_facts.specs.Live.{HasReply, LiveTcomFacts}
use Rattle.law_tcom.specs.Engine.{after_all}

-- an abort for an older epoch that a step puts out names a later epoch, if its session was ever answered
abbrev pub NewAbortsRise : Type 0
NewAbortsRise = (program : Program) (t : ComId) (old : ℕ) (x : Tcom) (sent received : List Packet) (p : Packet) (c : ComId) (n place : ℕ) (session : Session) (a b : ℕ) →
    receiver_of p ≡ t → old ≤ length x.records → TcomStateFacts program t x sent received → TcomLogFacts program t old x.records sent received →
    Contains (tcom_step program t x p).puts (Outcome t c n place (Some session) (Aborted (Epochs a b))) → HasReply (sent ++ (tcom_step program t x p).puts) t c n session → a < b

-- the facts of a Tcom of a live run
abbrev pub StepsKeepLive : Type 0
StepsKeepLive = (program : Program) (t : ComId) (x : Tcom) (sent received : List Packet) (p : Packet) → receiver_of p ≡ t → TcomStateFacts program t x sent received → LiveTcomFacts program t x.records sent received →
    LiveTcomFacts program t (tcom_step program t x p).tcom.records (sent ++ (tcom_step program t x p).puts) (received ++ p ∷ [])

abbrev pub RecoveriesKeepLive : Type 0
RecoveriesKeepLive = (program : Program) (t : ComId) (size : ℕ) (log : List Record) (x : Tcom) (sent received : List Packet) → recover_tcom program t size log ≡ Some x → LiveTcomFacts program t log sent received → LiveTcomFacts program t x.records sent received

-- each outcome among the packets of a world answers one among them
abbrev pub StepsKeepAnswering : Type 0
StepsKeepAnswering = (program : Program) (t : ComId) (x : Tcom) (sent received packets : List Packet) (p : Packet) → receiver_of p ≡ t → TcomStateFacts program t x sent received → Contains packets p → OutcomesAnswer packets → OutcomesAnswer (packets ++ (tcom_step program t x p).puts)

-- a Tcom over an empty log has all facts, nothing being put out or received
abbrev pub FirstFactsHold : Type 0
FirstFactsHold = (program : Program) (t : ComId) → TcomStateFacts program t (fresh_tcom program t) [] [] × LiveTcomFacts program t [] [] []

-- what packets in turn make it put out
abbrev pub puts_by : Program → ComId → Tcom → List Packet → List Packet
puts_by program t x [] = []
puts_by program t x (p ∷ ps) = (tcom_step program t x p).puts ++ puts_by program t (tcom_step program t x p).tcom ps

abbrev pub RunsKeepFacts : Type 0
RunsKeepFacts = (program : Program) (t : ComId) (x : Tcom) (sent received ps : List Packet) → ((p : Packet) → Contains ps p → receiver_of p ≡ t) → TcomStateFacts program t x sent received → LiveTcomFacts program t x.records sent received →
    TcomStateFacts program t (after_all program t x ps) (sent ++ puts_by program t x ps) (received ++ ps) × LiveTcomFacts program t (after_all program t x ps).records (sent ++ puts_by program t x ps) (received ++ ps)
