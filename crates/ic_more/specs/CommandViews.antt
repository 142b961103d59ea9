-- What the code's words ask for, as the definitions have it.
use Rattle.ic_more.specs.Words as words
use Rattle.ic_more.specs.declared.command.Command.{Command}
use Rattle.ic_more.specs.declared.command.Command.TheVariants.{Two, Clients, Standby}
use Rattle.ic_plan.specs.CommandViews.{names_seen}

abbrev pub command_seen : Command → words.Command
command_seen (Two name) = words.Two name.now
command_seen (Clients names) = words.Clients (names_seen names)
command_seen (Standby who names) = words.Standby who.now (names_seen names)
