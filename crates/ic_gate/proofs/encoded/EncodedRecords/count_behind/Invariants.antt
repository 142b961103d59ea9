use Rattle.std.proofs.Common.{◌≡◌, ◌-◌, false, length, drop}
use Rattle.def_step.specs.Replay.{has_image}
use Rattle.ic_gate.proofs.encoded.EncodedRecords.count_behind.Given as goal

abbrev pub invariant-loop-back : goal.invariant-loop-back
invariant-loop-back l = has_image (drop (length l.self - l.back) l.self) ≡ false
