-- What is read of a component of a world.
use Rattle.std.specs.Prelude.{Option, Some, None}
use Rattle.def_step.specs.World.{Node}

-- what a reader says of a component, or else this
abbrev pub at_node : {A : Type 0} → A → (Node → A) → Option Node → A
at_node none reader None = none
at_node none reader (Some node) = reader node
