use Rattle.ic_live.specs.Ended.{AllTell}
use Rattle.ic_live.proofs.live.run_live.Given as goal

-- the mark of a run: whether its disks are honest
abbrev pub ghosts-marked : goal.ghosts-marked
ghosts-marked g a = record { honest = AllTell a.components }
