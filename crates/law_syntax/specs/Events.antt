-- The events of which the laws speak; those of a schedule's text are such.
use Rattle.std.specs.Prelude.{◌≡◌, ⊤, ℕ, ◌<◌, true, Bool, List, Option, Some, None, Ok, Contains, FitsSigned}
use Rattle.std.specs.List.{AllByRecursion}
use Rattle.std.specs.Int.{w64}
use Rattle.ic_base.specs.declared.events.Event.{Event}
use Rattle.ic_base.specs.declared.events.Stop.{Stop}
use Rattle.ic_base.specs.declared.events.What.{What}
use Rattle.ic_base.specs.declared.events.What.TheVariants.{Input}
use Rattle.ic_base.specs.declared.scenario.Program.{Program}
use Rattle.ic_base.specs.Programs.{has_handler}
use Rattle.def_syntax.specs.Allowed.{IsAllowed}
use Rattle.def_syntax.specs.Schedule.{schedule_of, clients_of}

-- an input is for a handler of its component, with as many arguments as it has
abbrev pub HasHandler : Program → What → Type 0
HasHandler program (Input c handler args) = has_handler program c handler args ≡ true
HasHandler program _ = ⊤

-- each value has 64 bits with a sign
abbrev pub HasValues : What → Type 0
HasValues (Input c handler args) = AllByRecursion (FitsSigned w64) args
HasValues _ = ⊤

-- the device calls of a stop are counted from 1
abbrev pub IsCounted : Option Stop → Type 0
IsCounted None = ⊤
IsCounted (Some stop) = 0 < stop.call

-- an event that a schedule may have
pub record IsEvent (program : Program) (e : Event) : Type 0 where
  pub handler : HasHandler program e.what
  pub values : HasValues e.what
  pub stop : IsCounted e.stop

-- each event of a text that is a schedule is such
abbrev pub SchedulesHaveEvents : Type 0
SchedulesHaveEvents = (program : Program) (text : List ℕ) (events : List Event) (halts : Bool) → schedule_of program text ≡ Ok (events, halts) → (e : Event) → Contains events e → IsEvent program e

-- and of a schedule with numbered clients
abbrev pub ClientSchedulesHaveEvents : Type 0
ClientSchedulesHaveEvents = (program : Program) (text : List ℕ) (events : List Event) (halts : Bool) → clients_of program text ≡ Ok (events, halts) → (e : Event) → Contains events e → IsEvent program e

-- an input that is allowed is for a handler of its component
abbrev pub AllowedHaveHandlers : Type 0
AllowedHaveHandlers = (program : Program) (e : Event) → IsAllowed program e → HasHandler program e.what
