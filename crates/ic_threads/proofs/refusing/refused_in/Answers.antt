use Rattle.ic_threads.proofs.refusing.refused_in.Goals as goal

pub returns-in-Run : goal.returns-in-Run
returns-in-Run g c = rw c.in-Run.is c.refused_component.ensures
