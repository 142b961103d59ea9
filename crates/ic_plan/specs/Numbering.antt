-- The inputs of a schedule with numbered clients.
use Rattle.std.specs.Prelude.{⊤, IsTrue}
use Rattle.ic_base.specs.declared.events.Event.{Event}
use Rattle.ic_base.specs.declared.events.What.{What}
use Rattle.ic_base.specs.declared.events.What.TheVariants.{Input}
use Rattle.def_client.specs.Fronts.{is_numbered}
use Rattle.ic_plan.specs.declared.verb.Inputs.{Inputs}
use Rattle.ic_plan.specs.declared.verb.Inputs.TheVariants.{Plain, Numbered}

-- an input has the two numbers of a request in front of its values
abbrev pub HasNumbers : What → Type 0
HasNumbers (Input c handler args) = IsTrue (is_numbered args)
HasNumbers _ = ⊤

-- an event of a schedule with these inputs
abbrev pub IsNumberedFor : Inputs → Event → Type 0
IsNumberedFor Plain e = ⊤
IsNumberedFor Numbered e = HasNumbers e.what
