-- The outputs that a component shows.
use Rattle.std.specs.Prelude.{Bool, List, ◌++◌, map, Option, option_map}
use Rattle.std.specs.Prelude.{option_to_list}
use Rattle.std.specs.List.{list_any}
use Rattle.ic_base.specs.declared.messages.ComId.{ComId}
use Rattle.ic_base.specs.declared.messages.Output.{Output}
use Rattle.def_step.specs.World.{same_showing}

-- an output with whether it was shown before
abbrev pub told_showing : List (ComId × Output) → ComId → Option Output → Option (Output × Bool)
told_showing showings c output = option_map (λ o. (o, list_any (same_showing c o.m) showings)) output

-- the showings with one more, if there is one
abbrev pub with_showing : List (ComId × Output) → ComId → Option Output → List (ComId × Output)
with_showing showings c output = showings ++ map (λ o. (c, o)) (option_to_list output)
