use Rattle.ic_live.proofs.pool.BerthsComponentTornDiskWork.work.Given as goal

abbrev pub ghosts-make_turns : goal.ghosts-make_turns
ghosts-make_turns g a = record { name = a.blank.name; parts = a.blank.parts }
