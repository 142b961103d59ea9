use Rattle.std.proofs.Common.{length}
use Rattle.ic_disk.proofs.overlay.+overlay.Given as goal

abbrev pub decreases-overlay : goal.decreases-overlay
decreases-overlay l = length l.places.now
