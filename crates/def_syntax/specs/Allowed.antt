-- What holds of a program within the limits, and of the events that its schedules have.
use Rattle.std.specs.Prelude.{◌≡◌, ℕ, ◌<◌, ◌≤◌, length, slice_get, IsTrue, IsSomeAnd, All}
use Rattle.ic_base.specs.declared.limits.TheConstants.{COMPONENTS, HANDLERS, VALUES}
use Rattle.ic_base.specs.declared.messages.ComId.{ComId}
use Rattle.ic_base.specs.declared.scenario.Component.{Component}
use Rattle.ic_base.specs.declared.scenario.Handler.{Handler}
use Rattle.ic_base.specs.declared.scenario.Program.{Program}
use Rattle.ic_base.specs.declared.events.What.{What}
use Rattle.ic_base.specs.declared.events.What.TheVariants.{Input, Deliver, Lose, Packet, Force, Checkpoint, Resend, Emit, Crash, Recover}
use Rattle.ic_base.specs.declared.events.Event.{Event}
use Rattle.def_syntax.specs.Schedule.{is_inside, is_pcom}

-- a program has at most 32 components, each with at most 64 handlers, and these have at most 8 parameters
pub record IsSmall (p : Program) : Type 0 where
  pub components : length p.components ≤ COMPONENTS
  pub handlers : All (λ (c : Component). length c.handlers ≤ HANDLERS) p.components
  pub params : All (λ (c : Component). All (λ (h : Handler). h.params ≤ VALUES) c.handlers) p.components

-- there is a component of this number, and this holds of it
pub record Names (p : Program) (c : ComId) (P : Component → Type 0) : Type 0 where
  pub below : c.0 < length p.components
  pub holds : IsSomeAnd (slice_get p.components c.0) P

-- a Pcom or a Tcom has this number
abbrev pub NamesInside : Program → ComId → Type 0
NamesInside p c = Names p c (λ x. IsTrue (is_inside x.kind))

-- a Pcom that has a handler of this number with this many parameters
abbrev pub Handles : ℕ → ℕ → Component → Type 0
Handles handler count c = IsTrue (is_pcom c.kind) × IsSomeAnd (slice_get c.handlers handler) (λ h. h.params ≡ count)

-- an event is of components that there are, and an input of a handler with as many values as it has parameters
abbrev pub MayHappen : Program → What → Type 0
MayHappen p (Input c handler values) = Names p c (Handles handler (length values))
MayHappen p (Deliver from to) = NamesInside p from × NamesInside p to
MayHappen p (Lose from to) = NamesInside p from × NamesInside p to
MayHappen p (Packet n) = Unit {0}
MayHappen p (Force c) = NamesInside p c
MayHappen p (Checkpoint c) = NamesInside p c
MayHappen p (Resend c) = NamesInside p c
MayHappen p (Emit c) = NamesInside p c
MayHappen p (Crash c) = NamesInside p c
MayHappen p (Recover c) = NamesInside p c

abbrev pub IsAllowed : Program → Event → Type 0
IsAllowed p e = MayHappen p e.what
