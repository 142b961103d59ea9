-- What the code's words ask for, as the definitions have it.
use Rattle.std.specs.Prelude.{option_map}
use Rattle.def_syntax.specs.Commands as commands
use Rattle.ic_plan.specs.declared.command.TextNames.{TextNames}
use Rattle.ic_plan.specs.declared.command.Command.{Command}
use Rattle.ic_plan.specs.declared.command.Command.TheVariants.{Run, Resume, Audit, Make}

abbrev pub names_seen : TextNames → commands.TextNames
names_seen n = record { scenario = n.scenario.now; schedule = n.schedule.now; policy = option_map (λ w. w.now) n.policy }

abbrev pub command_seen : Command → commands.Command
command_seen (Run names) = commands.Run (names_seen names)
command_seen (Resume names) = commands.Resume (names_seen names)
command_seen (Audit name) = commands.Audit name.now
command_seen (Make number) = commands.Make number
