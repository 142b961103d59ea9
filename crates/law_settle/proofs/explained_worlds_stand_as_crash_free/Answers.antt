use Rattle.law_settle.proofs.Standing.{explained_stands_crash_free}
use Rattle.law_settle.proofs.explained_worlds_stand_as_crash_free.Goals as goal

pub returns : goal.returns
returns c = explained_stands_crash_free
