-- What a Tcom has beside its records.
use Rattle.std.specs.Prelude.{◌≡◌, ℕ, ◌<◌, ◌≤◌, List, length, filter, not, None, ℤ}
use Rattle.ic_base.specs.declared.messages.ComId.{ComId}
use Rattle.ic_base.specs.declared.record.Record.{Record}
use Rattle.ic_base.specs.declared.record.Record.TheVariants.{Decided}
use Rattle.def_state.specs.Names.{Numbers, number_of}
use Rattle.ic_base.specs.declared.limits.TheConstants.{COMPONENTS, GREATEST_NUMBER, REQUESTS}
use Rattle.def_step.specs.Tcom.{Tcom, Book, Sitting, sits_for, decided_at, write_all}
use Rattle.ic_tcom.specs.Last.{AreLast, verdicts_in, with_last}

-- of the book just the last decision of each Pcom is held
pub record EngineState : Type 0 where
  pub book : Book
  pub counter : ℕ
  pub sittings : List Sitting
  pub least : Numbers

-- the Tcom that has these records
abbrev pub over : List Record → EngineState → Tcom
over records e = record { records = records; book = record e.book { decided = verdicts_in records }; counter = e.counter; sittings = e.sittings; least = e.least }

-- the decisions that are held are those of the records that are still told
abbrev pub Keeps : List Record → EngineState → Type 0
Keeps records e = AreLast (verdicts_in records) e.least e.book.decided

-- no stamp and no counter has passed its limit
abbrev pub IsWithinLimits : EngineState → Type 0
IsWithinLimits e = (e.book.clock ≤ GREATEST_NUMBER) × (e.counter ≤ GREATEST_NUMBER)

-- a record that decides the least transaction that is served of its Pcom, which isn't decided, with numbers that a log takes
abbrev pub IsDecision : EngineState → Record → Type 0
IsDecision e (Decided stamp c n writes) =
    (decided_at e.book c n ≡ None) × (n ≡ number_of 1 e.least c) × (stamp ≤ GREATEST_NUMBER) × (c.0 < COMPONENTS) × (1 ≤ n) × (n ≤ GREATEST_NUMBER) × (length writes ≤ REQUESTS)
IsDecision e _ = ⊥

-- the book with a decision, which is the last one of its Pcom
abbrev pub with_decision : Book → ℕ → ComId → ℕ → List (ℕ × ℤ) → Book
with_decision b stamp c n writes = record b {
  ledger = write_all b.ledger writes;
  decided = with_last (record { peer = c; n = n; stamp = stamp }) b.decided;
  clock = stamp;
}

-- the decision is in the book, and its session over
abbrev pub entered : EngineState → Record → EngineState
entered e (Decided stamp c n writes) = record e { book = with_decision e.book stamp c n writes; sittings = filter (λ s. not (sits_for c n s)) e.sittings }
entered e _ = e
