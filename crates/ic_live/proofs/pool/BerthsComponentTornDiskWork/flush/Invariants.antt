use Rattle.ic_live.proofs.pool.BerthsComponentTornDiskWork.flush.Given as goal

abbrev pub ghosts-make_visits : goal.ghosts-make_visits
ghosts-make_visits g a = record { name = a.blank.name; parts = a.blank.parts }
