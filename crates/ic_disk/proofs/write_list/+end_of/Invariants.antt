use Rattle.std.proofs.Common.{length}
use Rattle.ic_disk.proofs.write_list.+end_of.Given as goal

abbrev pub decreases-end_of : goal.decreases-end_of
decreases-end_of l = length l.places.now
