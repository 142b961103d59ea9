use Rattle.cases_parts.proofs.replays.replay.Given as goal

abbrev pub ghosts-replayed : goal.ghosts-replayed
ghosts-replayed a = record { name = a.blank.name; parts = a.blank.parts }
