use Rattle.ic_live.specs.Berthed.{list_of}
use Rattle.ic_live.specs.Faults.{faults_at}
use Rattle.ic_live.specs.Grids.{lane_at}
use Rattle.ic_live.proofs.live.marked.Given as goal

-- the scene of a run: its program, the list of each component, and its own lanes
abbrev pub ghosts-staged : goal.ghosts-staged
ghosts-staged g a = record { program = a.program.now; fingerprint = a.fingerprint.now; plan = λ c. list_of c a.plan.now; lane = lane_at a.outs; began = faults_at a.components }
