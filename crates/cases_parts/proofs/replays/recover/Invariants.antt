use Rattle.cases_parts.proofs.replays.recover.Given as goal

abbrev pub ghosts-restored : goal.ghosts-restored
ghosts-restored a = record { name = a.blank.name; parts = a.blank.parts }
