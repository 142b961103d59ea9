use Rattle.cases_calls.proofs.pcoms.Place.recover.Given as goal

abbrev pub ghosts-recovered : goal.ghosts-recovered
ghosts-recovered a = record { name = a.blank.name; parts = a.blank.parts }
