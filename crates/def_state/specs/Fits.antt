-- Which record may stand next in a Pcom's log.
use Rattle.std.specs.Prelude.{ℕ, ◌==◌, nat_lt, Bool, true, false, not, ◌&&◌, Option, Some, None, is_none}
use Rattle.ic_base.specs.declared.messages.ComId.{ComId}
use Rattle.ic_base.specs.declared.messages.AbortCause.{AbortCause}
use Rattle.ic_base.specs.declared.messages.AbortCause.TheVariants.{Need, Held, Epoch as Epochs}
use Rattle.ic_base.specs.declared.scenario.Program.{Program}
use Rattle.ic_base.specs.declared.played.Played.{Played}
use Rattle.ic_base.specs.declared.played.Played.TheVariants.{NeedFails}
use Rattle.ic_base.specs.declared.record.Record.{Record}
use Rattle.ic_base.specs.declared.record.Record.TheVariants.{Take, TakeWhole, Input, Value, Outcome, Released, Shown, Checkpoint, Epoch, Decided}
use Rattle.ic_base.specs.Programs.{is_other_pcom, is_immediate, has_handler}
use Rattle.def_state.specs.Names.{Identity}
use Rattle.def_state.specs.Txn.{Stage, is_awaited_at, is_idle, is_committing}

-- what the next record is tested against
pub record Standing : Type 0 where
  pub clock : ℕ
  pub is_free : Bool
  pub has_taken : Identity → Bool
  pub holds : Identity → Bool
  pub oldest : Option ℕ
  pub begun : ℕ
  pub stage : Stage
  pub failed : Option ℕ

-- the line at which a play fails
abbrev pub failed_line : Played → Option ℕ
failed_line (NeedFails t line) = Some line
failed_line _ = None

abbrev pub is_number_of : Option ℕ → ℕ → Bool
is_number_of None n = false
is_number_of (Some m) n = m == n

-- a message may be taken: nothing is in hand, it comes from another Pcom, and its identity is new
abbrev pub may_take : Program → ComId → Standing → Bool → ComId → ℕ → Bool
may_take program c s true from k = s.is_free && (is_immediate program c && (is_other_pcom program c from && not (s.has_taken (record { peer = from; k = k }))))
may_take program c s false from k = s.is_free && (not (is_immediate program c) && (is_other_pcom program c from && not (s.has_taken (record { peer = from; k = k }))))

-- a transaction may end so: committed while committing, by a failed need exactly where one fails
abbrev pub may_end : Stage → Option ℕ → Option AbortCause → Bool
may_end stage failed None = is_committing stage
may_end stage failed (Some (Need line)) = not (is_idle stage) && is_number_of failed line
may_end stage failed (Some (Held holder n)) = not (is_idle stage) && is_none failed
may_end stage failed (Some (Epochs old present)) = not (is_idle stage) && is_none failed

-- the record is no misfit; whether a Checkpoint holds an image of this component is asked by the recovery that starts from it
abbrev pub fits : Program → ComId → Standing → Record → Bool
fits program c s (Take from k stamp) = nat_lt s.clock stamp && may_take program c s false from k
fits program c s (TakeWhole from k stamp handler args) = nat_lt s.clock stamp && (may_take program c s true from k && has_handler program c handler args)
fits program c s (Input stamp handler args) = nat_lt s.clock stamp && (s.is_free && has_handler program c handler args)
fits program c s (Value n place session value) = (n == s.begun) && is_awaited_at s.stage place session
fits program c s (Outcome stamp n abort) = nat_lt s.clock stamp && ((n == s.begun) && may_end s.stage s.failed abort)
fits program c s (Released to k) = s.holds (record { peer = to; k = k })
fits program c s (Shown m) = is_number_of s.oldest m
fits program c s (Checkpoint image) = s.is_free
fits program c s (Epoch epoch) = false
fits program c s (Decided stamp d n writes) = false
