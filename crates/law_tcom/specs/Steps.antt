-- A step of a Tcom keeps its facts, from what was received and this packet; so do a recovery and a crash.
use Rattle.std.specs.Prelude.{◌≡◌, ℕ, ◌≤◌, List, [], ◌∷◌, ◌++◌, length, Some}
use Rattle.ic_base.specs.declared.messages.ComId.{ComId}
use Rattle.ic_base.specs.declared.messages.Packet.{Packet}
use Rattle.ic_base.specs.declared.scenario.Program.{Program}
use Rattle.ic_base.specs.declared.record.Record.{Record}
use Rattle.def_step.specs.Packets.{receiver_of}
use Rattle.def_step.specs.Tcom.{Tcom, tcom_step, recover_tcom}
use Rattle.def_facts.specs.Tcom.{TcomLogFacts, TcomStateFacts}

-- a packet to t, whatever it is, keeps what is said of the state; the facts of the log aren't needed
abbrev pub StepsKeepStates : Type 0
StepsKeepStates = (program : Program) (t : ComId) (x : Tcom) (sent received : List Packet) (p : Packet) → receiver_of p ≡ t → TcomStateFacts program t x sent received →
    TcomStateFacts program t (tcom_step program t x p).tcom (sent ++ (tcom_step program t x p).puts) (received ++ p ∷ [])

-- and what is said of the log
abbrev pub StepsKeepLogs : Type 0
StepsKeepLogs = (program : Program) (t : ComId) (old : ℕ) (x : Tcom) (sent received : List Packet) (p : Packet) → receiver_of p ≡ t → old ≤ length x.records → TcomStateFacts program t x sent received → TcomLogFacts program t old x.records sent received →
    TcomLogFacts program t old (tcom_step program t x p).tcom.records (sent ++ (tcom_step program t x p).puts) (received ++ p ∷ [])

-- the log grows by what the step adds
abbrev pub StepsAdd : Type 0
StepsAdd = (program : Program) (t : ComId) (x : Tcom) (p : Packet) → (tcom_step program t x p).tcom.records ≡ x.records ++ (tcom_step program t x p).adds

-- at each moment of a step its disk reads as the log before it or as the one behind it; nothing is put out yet, the packet is received
abbrev pub MomentsKeepLogs : Type 0
MomentsKeepLogs = (program : Program) (t : ComId) (old : ℕ) (x : Tcom) (sent received : List Packet) (p : Packet) → receiver_of p ≡ t → old ≤ length x.records → TcomStateFacts program t x sent received → TcomLogFacts program t old x.records sent received →
    TcomLogFacts program t old x.records sent (received ++ p ∷ []) × TcomLogFacts program t old (tcom_step program t x p).tcom.records sent (received ++ p ∷ [])

-- a Tcom that comes up has no session, is in the next epoch and serves no number below the greatest that is decided of its component
abbrev pub RecoveriesKeepStates : Type 0
RecoveriesKeepStates = (program : Program) (t : ComId) (old : ℕ) (size : ℕ) (log : List Record) (x : Tcom) (sent received : List Packet) → recover_tcom program t size log ≡ Some x → TcomLogFacts program t old log sent received → TcomStateFacts program t x sent received

abbrev pub RecoveriesKeepLogs : Type 0
RecoveriesKeepLogs = (program : Program) (t : ComId) (old : ℕ) (size : ℕ) (log : List Record) (x : Tcom) (sent received : List Packet) → recover_tcom program t size log ≡ Some x → old ≤ length log → TcomLogFacts program t old log sent received → TcomLogFacts program t old x.records sent received
