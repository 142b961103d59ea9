-- What the logs say together of messages, transactions and the merged history.
use Rattle.std.specs.Prelude.{◌≡◌, ⊤, ℕ, ◌<◌, ◌≤◌, Bool, true, false, ◌&&◌, ◌==◌, List, [], ◌∷◌, ◌++◌, map, length, filter_map, find, slice_get, ℤ, Option, Some, None, Contains, IsTrue, IsSomeAnd, MatchOption}
use Rattle.ic_base.specs.declared.limits.TheConstants.{REQUESTS}
use Rattle.ic_base.specs.declared.messages.ComId.{ComId}
use Rattle.ic_base.specs.declared.messages.Msg.{Msg}
use Rattle.ic_base.specs.declared.messages.Request.{Request}
use Rattle.ic_base.specs.declared.messages.AbortCause.{AbortCause}
use Rattle.ic_base.specs.declared.messages.Entry.{Entry}
use Rattle.ic_base.specs.declared.messages.Act.{Act}
use Rattle.ic_base.specs.declared.messages.Act.TheVariants as acts
use Rattle.ic_base.specs.declared.scenario.Component.{Component}
use Rattle.ic_base.specs.declared.scenario.Program.{Program}
use Rattle.ic_base.specs.declared.record.Record.{Record}
use Rattle.ic_base.specs.declared.record.Record.TheVariants.{Take, TakeWhole, Outcome, Decided}
use Rattle.ic_base.specs.Programs.{same_com, is_a_pcom, is_a_tcom}
use Rattle.def_play.specs.Ledger.{first_talk, AsksInTurn, answers_on, puts_of}
use Rattle.def_plain.specs.History.{entry, entry_of, pcom_entry, history_of, is_before}
use Rattle.def_state.specs.Hist.{plays_again}
use Rattle.def_step.specs.Tcom.{book_of}
use Rattle.def_facts.specs.Logs.{Logs, log_at, Stands, contents_in, values_of, decisions_on}
use Rattle.def_facts.specs.Pcom.{state_after, begun_in}
use Rattle.def_facts.specs.World.{LogsExplained, Past}

-- One family is a log for each component, which explains itself; so each law is stated of one list of logs.
abbrev pub Explains : Program → Logs → Logs → Past → Type 0
Explains program found logs past = LogsExplained program found logs logs past

-- contents ----------------------------------------------------------------------------------------

-- the message that was received as number k from s was sent so, in the sender's log, with a stamp below this one
abbrev pub WasSent : Program → Logs → Past → ComId → ComId → ℕ → ℕ → (Msg → Type 0) → Type 0
WasSent program logs past c s k stamp Says =
    (m : Msg) × (contents_in (past.received c) s k ≡ Some m) × (m.from ≡ s) × (m.to ≡ c) × (m.k ≡ k) × (m.stamp < stamp) × Says m × IsTrue (is_a_pcom program s)
    × IsSomeAnd (state_after program s (past.received s) (log_at logs s)) (λ h. Contains h.sent m)

-- the content of each message that was taken is the one that its sender sent
abbrev pub ContentsAgree : Type 0
ContentsAgree = (program : Program) (found logs : Logs) (past : Past) → Explains program found logs past → (c s : ComId) (pre post : List Record) (k stamp : ℕ) → IsTrue (is_a_pcom program c) →
    Stands (log_at logs c) pre (Take s k stamp) post → WasSent program logs past c s k stamp (λ m. ⊤)

abbrev pub WholeContentsAgree : Type 0
WholeContentsAgree = (program : Program) (found logs : Logs) (past : Past) → Explains program found logs past → (c s : ComId) (pre post : List Record) (k stamp handler : ℕ) (args : List ℤ) → IsTrue (is_a_pcom program c) →
    Stands (log_at logs c) pre (TakeWhole s k stamp handler args) post → WasSent program logs past c s k stamp (λ m. (m.handler ≡ handler) × (m.args ≡ args))

-- transactions ------------------------------------------------------------------------------------

-- the answers that a Pcom recorded are those of the decision, and its part asks the requests that the decision served
abbrev pub DecisionAgrees : Program → Logs → Past → ComId → ComId → ℕ → List (ℕ × ℤ) → List ℤ → Type 0
DecisionAgrees program logs past t c n writes ledger =
    IsTrue (is_a_pcom program c)
    × IsSomeAnd (begun_in program c (past.received c) (log_at logs c) n) (λ b.
    (requests : List Request) × (b.tcom ≡ t) × (writes ≡ puts_of requests) × (length requests ≤ REQUESTS)
    × (map (λ g. g.value) (values_of (log_at logs c) n) ≡ answers_on ledger requests)
    × AsksInTurn (plays_again program c b) t (first_talk ledger) requests)

abbrev pub AnswersAgree : Type 0
AnswersAgree = (program : Program) (found logs : Logs) (past : Past) → Explains program found logs past → (t c : ComId) (pre post : List Record) (stamp n : ℕ) (writes : List (ℕ × ℤ)) → IsTrue (is_a_tcom program t) →
    Stands (log_at logs t) pre (Decided stamp c n writes) post → IsSomeAnd (book_of program t pre) (λ b. DecisionAgrees program logs past t c n writes b.ledger)

-- no transaction is both decided and aborted
abbrev pub NoneDecidedAndAborted : Type 0
NoneDecidedAndAborted = (program : Program) (found logs : Logs) (past : Past) → Explains program found logs past → (t c : ComId) (pre post before behind : List Record) (stamp at n : ℕ) (writes : List (ℕ × ℤ)) (cause : AbortCause) →
    IsTrue (is_a_tcom program t) → Stands (log_at logs t) pre (Decided stamp c n writes) post → Stands (log_at logs c) before (Outcome at n (Some cause)) behind → ⊥

-- the history -------------------------------------------------------------------------------------

-- the history has the entries of the logs, and no others
abbrev pub HistoryHasEntries : Type 0
HistoryHasEntries = (program : Program) (logs : Logs) (e : Entry) → Contains (history_of program logs) e → (c : ComId) × (x : Component) × (r : Record) × (slice_get program.components c.0 ≡ Some x) × Contains (log_at logs c) r × (entry_of x.kind c r ≡ Some e)

abbrev pub EntriesAreInHistory : Type 0
EntriesAreInHistory = (program : Program) (logs : Logs) (e : Entry) (c : ComId) (x : Component) (r : Record) → slice_get program.components c.0 ≡ Some x → Contains (log_at logs c) r → entry_of x.kind c r ≡ Some e → Contains (history_of program logs) e

abbrev pub is_commit_of : ComId → ℕ → Act → Bool
is_commit_of c n (acts.Commit d m) = same_com c d && (n == m)
is_commit_of c n act = false

-- the entry that commits the n-th transaction of c
abbrev pub commit_of : Program → Logs → ComId → ℕ → Option Entry
commit_of program logs c n = find (λ e. is_commit_of c n e.act) (history_of program logs)

-- a transaction is decided once, by one Tcom
abbrev pub DecidedOnce : Type 0
DecidedOnce = (program : Program) (found logs : Logs) (past : Past) → Explains program found logs past → (t u c : ComId) (n x y : ℕ) → IsTrue (is_a_tcom program t) → IsTrue (is_a_tcom program u) →
    Contains (decisions_on (log_at logs t) c n) x → Contains (decisions_on (log_at logs u) c n) y → (t ≡ u) × (x ≡ y)

-- and the decision is the entry that commits it
abbrev pub CommitsAreDecisions : Type 0
CommitsAreDecisions = (program : Program) (found logs : Logs) (past : Past) → Explains program found logs past → (t c : ComId) (n stamp : ℕ) → IsTrue (is_a_tcom program t) →
    Contains (decisions_on (log_at logs t) c n) stamp → commit_of program logs c n ≡ Some (entry t stamp (acts.Commit c n))

-- the entry by which a record of c touches it: its own, or the commit that the record tells
abbrev pub touching : Program → Logs → ComId → Record → Option Entry
touching program logs c (Outcome stamp n None) = commit_of program logs c n
touching program logs c r = pcom_entry c r

abbrev pub touching_entries : Program → Logs → ComId → List Entry
touching_entries program logs c = filter_map (touching program logs c) (log_at logs c)

-- each entry stands before all behind it
abbrev pub Rises : List Entry → Type 0
Rises [] = ⊤
Rises (e ∷ es) = ((x : Entry) → Contains es x → is_before e x ≡ true) × Rises es

-- the records of a Pcom touch it in the order of their entries
abbrev pub TouchesRise : Type 0
TouchesRise = (program : Program) (found logs : Logs) (past : Past) → Explains program found logs past → (c : ComId) → IsTrue (is_a_pcom program c) → Rises (touching_entries program logs c)

-- what the sender did up to the message that c took stands before the receipt
abbrev pub SendsStandBefore : Type 0
SendsStandBefore = (program : Program) (found logs : Logs) (past : Past) → Explains program found logs past → (c s : ComId) (pre post : List Record) (k stamp : ℕ) → IsTrue (is_a_pcom program c) → Stands (log_at logs c) pre (Take s k stamp) post →
    (front : List Record) × (back : List Record) × (m : Msg) × (log_at logs s ≡ front ++ back) × (contents_in (past.received c) s k ≡ Some m) × (m.to ≡ c) × (m.k ≡ k)
    × IsSomeAnd (state_after program s (past.received s) front) (λ h. Contains h.sent m)
    × ((r : Record) → Contains front r → MatchOption (touching program logs s r) ⊤ (λ e. e.stamp < stamp))

-- no two entries of the history share a position
abbrev pub HistoryRises : Type 0
HistoryRises = (program : Program) (found logs : Logs) (past : Past) → Explains program found logs past → Rises (history_of program logs)
