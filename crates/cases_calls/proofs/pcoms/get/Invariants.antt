use Rattle.cases_calls.proofs.pcoms.get.Given as goal

abbrev pub ghosts-gets : goal.ghosts-gets
ghosts-gets a = record { name = a.blank.name; parts = a.blank.parts }
