-- The causes of a component, from those of a step and of a load.
use Rattle.std.specs.Prelude.{Bool, true, false, Option, Some, None}
use Rattle.ic_gate.specs.declared.refusals.LoadWhy.{LoadWhy}
use Rattle.ic_gate.specs.declared.refusals.LoadWhy.TheVariants as load
use Rattle.ic_gate.specs.declared.refusals.StepRefused.{StepRefused}
use Rattle.ic_gate.specs.declared.refusals.StepRefused.TheVariants as step
use Rattle.ic_seat.specs.declared.call.SeatRefused.{SeatRefused}
use Rattle.ic_seat.specs.declared.call.SeatRefused.TheVariants.{Full, Bad, Foreign, Failed, Memory}

-- a step whose stop was reached, or not; None where the stop cut it off
abbrev pub step_refusal : StepRefused → Bool → Option SeatRefused
step_refusal step.Full reached = Some Full
step_refusal step.Memory reached = Some Memory
step_refusal step.Failed reached = Some Failed
step_refusal step.Stopped true = None
step_refusal step.Stopped false = Some Failed

abbrev pub load_refusal : LoadWhy → SeatRefused
load_refusal (load.Bad place) = Bad place
load_refusal (load.Foreign kept) = Foreign kept
load_refusal load.Failed = Failed
load_refusal load.Stopped = Failed
load_refusal load.Memory = Memory
