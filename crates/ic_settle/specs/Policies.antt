-- What a policy asks for, as the definitions have it.
use Rattle.ic_base.specs.declared.report.Policy.{Policy}
use Rattle.def_step.specs.Settle.{PolicyIntervals}

-- how many records it waits for
abbrev pub intervals_of : Policy → PolicyIntervals
intervals_of p = record { force_every = p.force_every; checkpoint_every = p.checkpoint_every }
