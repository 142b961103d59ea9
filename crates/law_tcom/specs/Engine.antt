-- What a Tcom promises over any packets, in the subject's own words.
use Rattle.std.specs.Prelude.{◌≡◌, ◌≢◌, ◌⊎◌, ℕ, ◌≤◌, List, [], ◌∷◌, ◌++◌, map, length, ℤ, Option, Some, None, slice_get, Contains}
use Rattle.ic_base.specs.declared.messages.ComId.{ComId}
use Rattle.ic_base.specs.declared.messages.Session.{Session}
use Rattle.ic_base.specs.declared.messages.Request.{Request}
use Rattle.ic_base.specs.declared.messages.AbortCause.TheVariants.{Need, Held, Epoch as Epochs}
use Rattle.ic_base.specs.declared.messages.Decision.{Decision}
use Rattle.ic_base.specs.declared.messages.Decision.TheVariants.{Committed, Aborted}
use Rattle.ic_base.specs.declared.messages.Packet.{Packet}
use Rattle.ic_base.specs.declared.messages.Packet.TheVariants.{Op, OpReply, Commit, Outcome}
use Rattle.ic_base.specs.declared.scenario.Program.{Program}
use Rattle.ic_base.specs.declared.record.Record.{Record}
use Rattle.def_play.specs.Ledger.{answers_on, puts_of}
use Rattle.def_step.specs.Packets.{key_of, receiver_of}
use Rattle.def_step.specs.Tcom.{Tcom, Sitting, book_of, first_ledger, fresh_tcom, greatest_decided, kept_at, least_of, recover_tcom, tcom_step}
use Rattle.def_facts.specs.Logs.{IsPrefixOf, decisions_on}
use Rattle.def_facts.specs.Tcom.{TcomStateFacts, OneOwner}
use Rattle.law_tcom.specs.Decisions.{ledger_by}

-- packets one after another
abbrev pub after_all : Program → ComId → Tcom → List Packet → Tcom
after_all program t x [] = x
after_all program t x (p ∷ ps) = after_all program t (tcom_step program t x p).tcom ps

-- a Tcom that has just come up: of each component the least number served is the greatest that is decided, 1 where none is
abbrev pub HasStarted : Program → ComId → Tcom → Type 0
HasStarted program t x = (book_of program t x.records ≡ Some x.book) × (x.sittings ≡ []) × (x.least ≡ greatest_decided x.book.decided)

abbrev pub StartsAreFresh : Type 0
StartsAreFresh = (program : Program) (t : ComId) → HasStarted program t (fresh_tcom program t)

abbrev pub StartsAreRecovered : Type 0
StartsAreRecovered = (program : Program) (t : ComId) (size : ℕ) (log : List Record) (x : Tcom) → recover_tcom program t size log ≡ Some x → HasStarted program t x

-- a session's answers are what its requests get on the ledger, with its own writes first
abbrev pub IsAnswered : List ℤ → Sitting → Type 0
IsAnswered ledger s = (requests : List Request) × (s.keys ≡ map key_of requests) × (s.answers ≡ answers_on ledger requests) × (s.writes ≡ puts_of requests)

-- what a Tcom has, that came from `before` by packets
pub record IsServedWell (program : Program) (t : ComId) (before x : Tcom) : Type 0 where
  -- records are only added, and the ledger is the decisions among them, each applied whole, in order
  pub records : IsPrefixOf before.records x.records
  pub ledger : x.book.ledger ≡ ledger_by (first_ledger (slice_get program.components t.0)) x.records
  -- at most one decision on a transaction, and none while its session is there
  pub once : (c : ComId) (n : ℕ) → length (decisions_on x.records c n) ≤ 1
  pub undecided : (s : Sitting) → Contains x.sittings s → decisions_on x.records s.peer s.n ≡ []
  -- of each component at most one decision is kept: that of the least number served
  pub kept : (c : ComId) (n stamp : ℕ) → kept_at x c n ≡ Some stamp → n ≡ least_of x c
  -- a transaction has at most one session, and a key at most one that holds it
  pub one_session : (r s : Sitting) → Contains x.sittings r → Contains x.sittings s → r.peer ≡ s.peer → r.n ≡ s.n → r ≡ s
  pub one_holder : (r s : Sitting) (key : ℕ) → Contains x.sittings r → Contains x.sittings s → Contains r.keys key → Contains s.keys key → r ≡ s
  pub answered : (s : Sitting) → Contains x.sittings s → IsAnswered x.book.ledger s

abbrev pub PacketsAreServedWell : Type 0
PacketsAreServedWell = (program : Program) (t : ComId) (x : Tcom) (packets : List Packet) → HasStarted program t x → IsServedWell program t x (after_all program t x packets)

-- a packet asks about this place of a transaction
abbrev pub Asks : Packet → ComId → ℕ → ℕ → Option Session → Type 0
Asks p c n place session = ((to : ComId) × (q : Request) × (p ≡ Op c to n place session q)) ⊎ ((to : ComId) × (s : Session) × (at : ℕ) × (session ≡ Some s) × (p ≡ Commit c to n place s at))

-- an outcome that is told: a commit is recorded; a request is refused since another session holds this very key; a session is of
-- another epoch than the present one
abbrev pub IsOutcome : Tcom → Packet → ComId → ℕ → Option Session → Decision → Type 0
IsOutcome x p c n session (Committed stamp) = Contains (decisions_on x.records c n) stamp
IsOutcome x p c n session (Aborted (Need line)) = ⊥
IsOutcome x p c n session (Aborted (Held d m)) =
    (to : ComId) × (place : ℕ) × (q : Request) × (p ≡ Op c to n place session q)
    × ((r : Sitting) × Contains x.sittings r × (r.peer ≡ d) × (r.n ≡ m) × (d ≡ c → m ≡ n → ⊥) × Contains r.keys (key_of q))
IsOutcome x p c n session (Aborted (Epochs old present)) = (s : Session) × (session ≡ Some s) × (old ≡ s.epoch) × (present ≡ x.book.epoch) × (old ≢ present)

-- a packet that is put out, by a Tcom that is x behind it: it answers p, by a session that is there or by an outcome
abbrev pub IsRight : ComId → Tcom → Packet → Packet → Type 0
IsRight t x p (OpReply from c n place session v) =
    (from ≡ t) × ((to : ComId) × (asked : Option Session) × (q : Request) × (p ≡ Op c to n place asked q) × ((asked ≡ None) ⊎ (asked ≡ Some session)))
    × ((s : Sitting) × Contains x.sittings s × (s.peer ≡ c) × (s.n ≡ n) × (s.session ≡ session) × (slice_get s.answers place ≡ Some v))
IsRight t x p (Outcome from c n place session d) = (from ≡ t) × Asks p c n place session × IsOutcome x p c n session d
IsRight t x p _ = ⊥

abbrev pub PutsAreRight : Type 0
PutsAreRight = (program : Program) (t : ComId) (x : Tcom) (sent received : List Packet) (p q : Packet) → TcomStateFacts program t x sent received → Contains (tcom_step program t x p).puts q → IsRight t (tcom_step program t x p).tcom p q

abbrev pub PacketsAreAnsweredRight : Type 0
PacketsAreAnsweredRight = (program : Program) (t : ComId) (x : Tcom) (packets : List Packet) (p q : Packet) → HasStarted program t x →
    Contains (tcom_step program t (after_all program t x packets) p).puts q → IsRight t (tcom_step program t (after_all program t x packets) p).tcom p q

-- a step keeps one owner of each session, among any packets that were put out
abbrev pub StepsKeepOwners : Type 0
StepsKeepOwners = (program : Program) (t : ComId) (x : Tcom) (sent received some : List Packet) (p : Packet) → receiver_of p ≡ t → TcomStateFacts program t x sent received → ((q : Packet) → Contains some q → Contains sent q) → OneOwner t some → OneOwner t (some ++ (tcom_step program t x p).puts)
