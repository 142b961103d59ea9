use Rattle.std.proofs.Common.{◌≡◌, ◌<◌, ℕ, false}
use Rattle.std.specs.Prelude.{◌&&◌, slice_get}
use Rattle.def_step.specs.World.{goes}
use Rattle.ic_network.specs.Lanes.{is_waiting}
use Rattle.ic_network.proofs.network.Network.walk.Given as goal

abbrev pub invariant-loop-place : goal.invariant-loop-place
invariant-loop-place l = (k : ℕ) → k < l.place → (is_waiting l.self-inside.lanes.waits k && goes l.from l.to (slice_get l.self-inside.packets.items k)) ≡ false
