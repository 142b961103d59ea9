-- Sound logs are in order.
use Rattle.std.specs.Prelude.{ℕ, Bool, false, ◌&&◌, ◌==◌, List, Some, Contains, IsTrue}
use Rattle.ic_base.specs.declared.messages.ComId.{ComId}
use Rattle.ic_base.specs.declared.messages.AbortCause.{AbortCause}
use Rattle.ic_base.specs.declared.messages.Act.{Act}
use Rattle.ic_base.specs.declared.messages.Act.TheVariants as acts
use Rattle.ic_base.specs.declared.scenario.Program.{Program}
use Rattle.ic_base.specs.declared.record.Record.{Record}
use Rattle.ic_base.specs.declared.record.Record.TheVariants.{Outcome}
use Rattle.ic_base.specs.Programs.{same_com, is_a_tcom}
use Rattle.def_plain.specs.Plain.{PlainWorld}
use Rattle.def_facts.specs.Logs.{Logs, log_at, Stands, decisions_on}
use Rattle.def_facts.specs.Sound.{IsSound}
use Rattle.def_facts.specs.World.{InOrder}
use Rattle.law_found.specs.Past.{IsLogList}

-- an act of d ends the n-th transaction of c
abbrev pub is_ending : ComId → ℕ → ComId → Act → Bool
is_ending c n d (acts.Abort m) = same_com c d && (n == m)
is_ending c n d (acts.Commit e m) = same_com c e && (n == m)
is_ending c n d _ = false

-- each decision stands behind all that its Pcom did before it asked for it
abbrev pub LogsAreInOrder : Type 0
LogsAreInOrder = (program : Program) (logs : Logs) (w : PlainWorld) → IsLogList program logs → IsSound program logs w → InOrder logs

-- no transaction is both decided and aborted
abbrev pub DecidedIsNotAborted : Type 0
DecidedIsNotAborted = (program : Program) (logs : Logs) (w : PlainWorld) → IsSound program logs w → (t c : ComId) (n stamp at : ℕ) (cause : AbortCause) (pre post : List Record) → IsTrue (is_a_tcom program t) →
    Contains (decisions_on (log_at logs t) c n) stamp → Stands (log_at logs c) pre (Outcome at n (Some cause)) post → ⊥
