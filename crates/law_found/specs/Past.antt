-- Sound logs that are found on disks: a past that explains them.
use Rattle.std.specs.Prelude.{◌≡◌, ℕ, ◌==◌, Bool, cond, ◌&&◌, List, [], ◌∷◌, ◌++◌, map, length, take, filter, find, ℤ, Option, Some, None, option_map, option_and_then, option_to_list, slice_get, IsFalse}
use Rattle.std.specs.List.{flat_map, range_with_len}
use Rattle.ic_base.specs.declared.messages.ComId.{ComId}
use Rattle.ic_base.specs.declared.messages.Msg.{Msg}
use Rattle.ic_base.specs.declared.messages.Session.{Session}
use Rattle.ic_base.specs.declared.messages.Decision.TheVariants.{Committed}
use Rattle.ic_base.specs.declared.messages.Packet.{Packet}
use Rattle.ic_base.specs.declared.messages.Packet.TheVariants as packets
use Rattle.ic_base.specs.declared.played.Played.{Played}
use Rattle.ic_base.specs.declared.played.Played.TheVariants.{Asks}
use Rattle.ic_base.specs.declared.scenario.Program.{Program}
use Rattle.ic_base.specs.declared.record.Record.{Record}
use Rattle.ic_base.specs.declared.record.Record.TheVariants.{Take, TakeWhole, Value, Outcome, Released, Decided}
use Rattle.ic_base.specs.Programs.{same_com, is_a_pcom, is_a_tcom}
use Rattle.def_plain.specs.Plain.{PlainWorld}
use Rattle.def_state.specs.Hist.{Hist, Begun, after, opened, plays_again}
use Rattle.def_step.specs.Packets.{sender_of, receiver_of}
use Rattle.def_facts.specs.Logs.{Logs, log_at, before_outcome, values_of, Got, decisions_on}
use Rattle.def_facts.specs.Playable.{IsPlayable}
use Rattle.def_facts.specs.Sound.{IsSound, state_in, contents_of}
use Rattle.def_facts.specs.World.{LogsExplained, Past}

-- the past ------------------------------------------------------------------------------------------

-- the packets that were put out and received
abbrev pub past_of : List Packet → Past
past_of ps = record { sent = λ c. filter (λ p. same_com c (sender_of p)) ps; received = λ c. filter (λ p. same_com c (receiver_of p)) ps }

abbrev pub is_number : ComId → ℕ → Msg → Bool
is_number c k m = same_com c m.to && (k == m.k)

-- the k-th message that s has sent to c
abbrev pub sent_by : Option Hist → ComId → ℕ → Option Msg
sent_by h c k = option_and_then (λ x. find (is_number c k) x.sent) h

-- at place 0 a request has no session
abbrev pub session_at : ℕ → Session → Option Session
session_at place session = cond (place == 0) None (Some session)

abbrev pub request_of : ComId → ComId → ℕ → ℕ → Session → Played → List Packet
request_of c t n place session (Asks u q) = packets.Op c t n place (session_at place session) q ∷ []
request_of c t n place session _ = []

-- an answer of the transaction with its request
abbrev pub exchange : Program → List Record → ComId → ℕ → ℕ → Session → ℤ → Begun → List Packet
exchange program log c n place session value b =
    request_of c b.tcom n place session (plays_again program c b (take place (map (λ g. g.value) (values_of log n))))
    ++ packets.OpReply b.tcom c n place session value ∷ []

abbrev pub told_commit : ComId → ℕ → ComId → ℕ → Packet
told_commit c n t stamp = packets.Outcome t c n 0 None (Committed stamp)

-- the packet that asked for a decision, by the last recorded answer, with the clock before the outcome
abbrev pub asked_commit : ComId → ComId → ℕ → List Got → Hist → List Packet
asked_commit c t n values h = option_to_list (option_map (λ (g : Got). packets.Commit c t n (length values) g.session h.clock) (slice_get values 0))

-- what a record of c tells was received, and what was put out for it
abbrev pub packets_of : Program → Logs → PlainWorld → ComId → Record → List Packet
packets_of program logs w c (Take s k stamp) = map packets.Data (option_to_list (sent_by (state_in program logs w s) c k))
packets_of program logs w c (TakeWhole s k stamp handler args) = map packets.Data (option_to_list (sent_by (state_in program logs w s) c k))
packets_of program logs w c (Value n place session value) =
    flat_map (exchange program (log_at logs c) c n place session value) (option_to_list (option_and_then (λ h. opened h n) (state_in program logs w c)))
packets_of program logs w c (Outcome stamp n None) =
    flat_map (λ b. map (told_commit c n b.tcom) (decisions_on (log_at logs b.tcom) c n)) (option_to_list (option_and_then (λ h. opened h n) (state_in program logs w c)))
packets_of program logs w c (Released d k) = packets.Installed d c k ∷ []
packets_of program logs w t (Decided stamp c n writes) =
    flat_map (asked_commit c t n (values_of (log_at logs c) n)) (option_to_list (after program c (contents_of w c) (before_outcome (log_at logs c) n)))
packets_of program logs w c _ = []

-- the packets that the logs tell of
abbrev pub packets_told : Program → Logs → PlainWorld → List Packet
packets_told program logs w = flat_map (λ i. flat_map (packets_of program logs w (record { 0 = i })) (log_at logs (record { 0 = i }))) (range_with_len 0 (length logs))

-- a log for each declared component, and none but of Pcoms and Tcoms
pub record IsLogList (program : Program) (logs : Logs) : Type 0 where
  pub one_each : length logs ≡ length program.components
  pub others : (c : ComId) → IsFalse (is_a_pcom program c) → IsFalse (is_a_tcom program c) → log_at logs c ≡ []

-- sound logs are explained by the packets that they tell of
abbrev pub FoundLogsAreExplained : Type 0
FoundLogsAreExplained = (program : Program) (logs : Logs) (w : PlainWorld) → IsPlayable program → IsLogList program logs → IsSound program logs w → LogsExplained program logs logs logs (past_of (packets_told program logs w))
