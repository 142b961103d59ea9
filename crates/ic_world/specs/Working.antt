-- What an event asks of a component, as the program has it.
use Rattle.std.specs.Prelude.{List}
use Rattle.ic_base.specs.declared.messages.ComId.{ComId}
use Rattle.ic_base.specs.declared.messages.Output.{Output}
use Rattle.def_step.specs.World.{World, Node}
use Rattle.ic_network.specs.Networks.{Network}
use Rattle.ic_work.specs.Working.{work_of}
use Rattle.ic_world.specs.Tasks as tasks
use Rattle.ic_world.specs.Tasks.{Asks as asks, Answers as answers}
use Rattle.ic_world.specs.declared.task.Task.{Task}
use Rattle.ic_world.specs.declared.task.Task.TheVariants.{Asks, Answers}

-- the task of the definitions, in the world behind it
abbrev pub told_task : World → Task → tasks.Task
told_task w (Asks c work) = asks w c (work_of work)
told_task w (Answers a) = answers w a

-- the world of these components, with this network
abbrev pub with_network : List Node → List (ComId × Output) → Network → World
with_network nodes showings n = record { nodes = nodes; packets = n.packets; waiting = n.waiting; showings = showings }
