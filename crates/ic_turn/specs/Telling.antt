-- Why what came of a choice isn't told.
use Rattle.std.specs.Prelude.{◌<◌, ℕ, ◌+◌, length}
use Rattle.ic_base.specs.declared.limits.TheConstants.{PACKETS}
use Rattle.ic_base.specs.declared.refusals.Which.TheVariants.{Packets}
use Rattle.ic_base.specs.declared.refusals.WorldRefused.{WorldRefused}
use Rattle.ic_base.specs.declared.refusals.WorldRefused.TheVariants as refused
use Rattle.ic_node.specs.declared.done.Done.{Done}

-- since more packets would be put out than may be, or for want of memory
abbrev pub FailsToTell : ℕ → Done → WorldRefused → Type 0
FailsToTell packets done (refused.Limit Packets) = PACKETS < packets + length done.puts
FailsToTell packets done refused.Memory = Unit {0}
FailsToTell packets done why = ⊥
