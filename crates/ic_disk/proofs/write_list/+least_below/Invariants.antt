use Rattle.std.proofs.Common.{length}
use Rattle.ic_disk.proofs.write_list.+least_below.Given as goal

abbrev pub decreases-least_below : goal.decreases-least_below
decreases-least_below l = length l.places.now
