use Rattle.def_former.proofs.Migrating.{reads_the_same}
use Rattle.def_former.proofs.laws.migrated_reads_the_same.Goals as goal

pub returns : goal.returns
returns c = reads_the_same
