use Rattle.std.proofs.Common.{length}
use Rattle.ic_disk.proofs.arrive.+arrive.Given as goal

abbrev pub decreases-arrive : goal.decreases-arrive
decreases-arrive g l = length l.places.now
