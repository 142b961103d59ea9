-- What a step forces can stand in the file.
use Rattle.std.proofs.Common.{ℕ, Bool, true, false, arith}
use Rattle.def_step.specs.Pcom.{Log}
use Rattle.ic_gate.specs.RecordCommits.{forced_if}
use Rattle.ic_gate.specs.RecordFiles.{CanStand}

pub forced_well : (size : ℕ) (b : Bool) (l : Log) → CanStand size l.buffered → CanStand size (forced_if b l)
forced_well size true l stands = stands
forced_well size false l stands = record { fits = ∣ tt ∣₁; room = λ some. absurd (omega (arith, some)) }
