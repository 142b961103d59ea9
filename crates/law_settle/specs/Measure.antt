-- Settling ends on every disk: each settling event lowers what is left.
use Rattle.std.specs.Prelude.{◌≡◌, ◌⊎◌, ⊤, ℕ, ◌<◌, ◌≤◌, true, not, List, [], ◌∷◌, length, ◌^◌, Option, Some, None, Contains, IsSome, is_some}
use Rattle.ic_base.specs.declared.limits.TheConstants.{PACKETS}
use Rattle.ic_base.specs.declared.messages.ComId.{ComId}
use Rattle.ic_base.specs.declared.events.Event.{Event}
use Rattle.ic_base.specs.declared.events.What.{What}
use Rattle.ic_base.specs.declared.scenario.Program.{Program}
use Rattle.ic_base.specs.declared.record.Record.{Record}
use Rattle.def_state.specs.Txn.{is_idle}
use Rattle.def_step.specs.Replay.{waits_for}
use Rattle.def_step.specs.Pcom.{Pcom, is_replaying}
use Rattle.def_step.specs.World.{World, Runs, DiskOutcome, After, node_at, happens}
use Rattle.def_step.specs.Settle.{PolicyIntervals, settling_event, left, measure}

-- what is still to be played begins with a Take
abbrev pub BeginsWithTake : List Record → Type 0
BeginsWithTake [] = ⊤
BeginsWithTake (r ∷ rs) = IsSome (waits_for r)

-- What settling needs of a Pcom that isn't down: something is in hand only where a transaction is open, a replay waits at a Take, and
-- nothing is buffered while it replays.
pub record CanSettle (p : Pcom) : Type 0 where
  pub hand_open : is_some p.vol.hand ≡ not (is_idle p.vol.txn.stage)
  pub rest_waits : BeginsWithTake p.rest
  pub replays_forced : is_replaying p ≡ true → p.log.buffered ≡ []

abbrev pub AllCanSettle : World → Type 0
AllCanSettle w = (c : ComId) (p : Pcom) → node_at w c ≡ Some (Runs p) → CanSettle p

-- lists of one length compared from the first member on
abbrev pub IsLower : List ℕ → List ℕ → Type 0
IsLower (m ∷ ms) (n ∷ ns) = (m < n) ⊎ ((m ≡ n) × IsLower ms ns)
IsLower ms ns = ⊥

abbrev pub without_stop : What → Event
without_stop what = record { what = what; stop = None }

-- On every disk each settling event lowers what is left, as long as a further packet is allowed.
abbrev pub SettlingLowersWhatIsLeft : Type 0
SettlingLowersWhatIsLeft = (program : Program) (w : World) (intervals : PolicyIntervals) (last : Option ComId) (what : What) (x : DiskOutcome) (a : After) →
    AllCanSettle w → settling_event w intervals last ≡ Some what → happens program w (without_stop what) x ≡ Some a → length a.world.packets ≤ PACKETS → IsLower (left a.world) (left w)

-- as one number, where each member is a digit
abbrev pub LowerIsLess : Type 0
LowerIsLess = (v w : World) → ((n : ℕ) → Contains (left v) n → n < 2 ^ 80) → IsLower (left v) (left w) → measure v < measure w
