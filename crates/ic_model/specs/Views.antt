-- What the code keeps, as the definitions have it.
use Rattle.std.specs.Prelude.{⊤}
use Rattle.ic_base.specs.declared.messages.ComId.{ComId}
use Rattle.def_play.specs.Ledger as ledger
use Rattle.def_plain.specs.Cell as plain
use Rattle.ic_model.specs.declared.cell.Touch.{Touch}
use Rattle.ic_model.specs.declared.cell.Touch.TheVariants.{Message, Input, Abort, Commit}
use Rattle.ic_model.specs.declared.whole.Talk.{Talk}
use Rattle.ic_model.specs.declared.refusals.StepRefused.{StepRefused}
use Rattle.ic_model.specs.declared.refusals.StepRefused.TheVariants.{NoStep, Memory}

abbrev pub touch_seen : Touch → plain.Touch
touch_seen (Message s k h args) = plain.TakesMessage s k h args
touch_seen (Input h args) = plain.TakesInput h args
touch_seen (Abort n) = plain.SeesAbort n
touch_seen (Commit n answers) = plain.SeesCommit n answers

abbrev pub talk_seen : Talk → ledger.Talk
talk_seen x = record { asked = x.asked; answers = x.answers; ledger = x.ledger }

abbrev pub ended_seen : ComId × Talk → ComId × ledger.Talk
ended_seen x = (x.0, talk_seen x.1)

-- where an entry isn't played for another reason than want of memory, this holds
abbrev pub NoStepIf : Type 0 → StepRefused → Type 0
NoStepIf P NoStep = P
NoStepIf P Memory = ⊤
