-- The history is legal, and the crash-free world has each component where its log says.
use Rattle.std.specs.Prelude.{◌≡◌, Bool, true, false, List, [], ◌∷◌, ◌++◌, map, Some, Contains, IsTrue, IsSomeAnd, Ok}
use Rattle.std.specs.Result.{IsOkAnd}
use Rattle.ic_base.specs.declared.messages.ComId.{ComId}
use Rattle.ic_base.specs.declared.messages.Entry.{Entry}
use Rattle.ic_base.specs.declared.messages.Act.{Act}
use Rattle.ic_base.specs.declared.messages.Act.TheVariants as acts
use Rattle.ic_base.specs.declared.messages.Kind.{Kind}
use Rattle.ic_base.specs.declared.messages.Kind.TheVariants as kinds
use Rattle.ic_base.specs.declared.scenario.Program.{Program}
use Rattle.ic_base.specs.declared.record.Record.{Record}
use Rattle.ic_base.specs.Programs.{is_a_pcom, is_a_tcom}
use Rattle.def_plain.specs.Plain.{plain_step, PlainWorld, plain_run_of, pcom_at, ledger_at}
use Rattle.def_plain.specs.History.{tcom_entry, history_of}
use Rattle.def_state.specs.Hist.{Hist}
use Rattle.def_plain.specs.declared.world.PlainPcom.{PlainPcom}
use Rattle.def_plain.specs.declared.world.PlainCom.{PlainCom}
use Rattle.def_plain.specs.declared.world.PlainCom.TheVariants as coms
use Rattle.def_step.specs.Tcom.{Book, book_of}
use Rattle.def_facts.specs.Logs.{Logs, log_at, IsPrefixOf}
use Rattle.def_facts.specs.Pcom.{state_after}
use Rattle.def_facts.specs.Sound.{history_before, is_unrecorded}
use Rattle.def_facts.specs.World.{Past}
use Rattle.law_sound.specs.Order.{Explains, touching}

-- the run -----------------------------------------------------------------------------------------

-- How far the first entries of the history have come in the log of a Pcom: `done` are the records that touch it by these entries, and
-- those between them. The crash-free world has it where they lead, and further only by a commit that it hasn't recorded.
pub record PcomReached (program : Program) (logs : Logs) (past : Past) (c : ComId) (front : List Entry) (w : PlainWorld) : Type 0 where
  pub done : List Record
  pub left : List Record
  pub split : log_at logs c ≡ done ++ left
  pub inside : (r : Record) (e : Entry) → Contains done r → touching program logs c r ≡ Some e → Contains front e
  pub outside : (r : Record) (e : Entry) → Contains left r → touching program logs c r ≡ Some e → Contains front e → ⊥
  pub state : Hist
  pub is_state : state_after program c (past.received c) done ≡ Some state
  pub cell : PlainPcom
  pub is_cell : pcom_at w c ≡ Some cell
  pub grows : IsPrefixOf state.plain.sent cell.sent
  pub exact : ((e : Entry) → Contains front e → is_unrecorded (log_at logs c) c e.act ≡ false) → cell ≡ state.plain

-- The same of a Tcom, with its ledger.
pub record TcomReached (program : Program) (logs : Logs) (t : ComId) (front : List Entry) (w : PlainWorld) : Type 0 where
  pub done : List Record
  pub left : List Record
  pub split : log_at logs t ≡ done ++ left
  pub inside : (r : Record) (e : Entry) → Contains done r → tcom_entry t r ≡ Some e → Contains front e
  pub outside : (r : Record) (e : Entry) → Contains left r → tcom_entry t r ≡ Some e → Contains front e → ⊥
  pub book : Book
  pub is_book : book_of program t done ≡ Some book
  pub ledger : ledger_at w t ≡ Some book.ledger

-- where the crash-free world is behind the first entries of the history
pub record IsReached (program : Program) (logs : Logs) (past : Past) (front : List Entry) (w : PlainWorld) : Type 0 where
  pub pcoms : (c : ComId) → IsTrue (is_a_pcom program c) → PcomReached program logs past c front w
  pub tcoms : (t : ComId) → IsTrue (is_a_tcom program t) → TcomReached program logs t front w

-- the entry of a Pcom's own record, no commit
abbrev pub is_own : Act → Bool
is_own (acts.Commit c n) = false
is_own act = true

-- an own entry has a step, and leads on
abbrev pub OwnEntriesHaveSteps : Type 0
OwnEntriesHaveSteps = (program : Program) (found logs : Logs) (past : Past) → Explains program found logs past → (front back : List Entry) (e : Entry) (w : PlainWorld) → history_of program logs ≡ front ++ e ∷ back → is_own e.act ≡ true →
    IsReached program logs past front w → (v : PlainWorld) × (plain_step program w e ≡ Some v) × IsReached program logs past (front ++ e ∷ []) v

-- and so has a commit
abbrev pub CommitsHaveSteps : Type 0
CommitsHaveSteps = (program : Program) (found logs : Logs) (past : Past) → Explains program found logs past → (front back : List Entry) (e : Entry) (w : PlainWorld) → history_of program logs ≡ front ++ e ∷ back → is_own e.act ≡ false →
    IsReached program logs past front w → (v : PlainWorld) × (plain_step program w e ≡ Some v) × IsReached program logs past (front ++ e ∷ []) v

-- the history is legal, and leads there at each of its places
abbrev pub HistoryIsLegal : Type 0
HistoryIsLegal = (program : Program) (found logs : Logs) (past : Past) → Explains program found logs past → (front back : List Entry) → history_of program logs ≡ front ++ back →
    IsOkAnd (plain_run_of program front) (IsReached program logs past front)

-- the kind of a component of the crash-free world
abbrev pub kind_in : PlainCom → Kind
kind_in (coms.Pcom p) = kinds.Pcom
kind_in (coms.Tcom ledger) = kinds.Tcom
kind_in coms.Xcom = kinds.Xcom

-- whatever a run of the crash-free world does, each component stays what the program declares
abbrev pub RunsKeepKinds : Type 0
RunsKeepKinds = (program : Program) (entries : List Entry) (w : PlainWorld) → plain_run_of program entries ≡ Ok w → map kind_in w ≡ map (λ x. x.kind) program.components

-- the ledgers are those of the crash-free world
abbrev pub LedgersAgree : Type 0
LedgersAgree = (program : Program) (found logs : Logs) (past : Past) (w : PlainWorld) → Explains program found logs past → plain_run_of program (history_of program logs) ≡ Ok w → (t : ComId) → IsTrue (is_a_tcom program t) →
    IsSomeAnd (book_of program t (log_at logs t)) (λ b. ledger_at w t ≡ Some b.ledger)

-- each Pcom is where the crash-free world has it before the first commit that the Pcom hasn't recorded
abbrev pub PcomsAgree : Type 0
PcomsAgree = (program : Program) (found logs : Logs) (past : Past) → Explains program found logs past → (c : ComId) → IsTrue (is_a_pcom program c) →
    IsSomeAnd (state_after program c (past.received c) (log_at logs c)) (λ h. IsOkAnd (plain_run_of program (history_before program logs c)) (λ v. pcom_at v c ≡ Some h.plain))
