-- What is told of a call, by what its Pcom was before it and what its step tells.
use Rattle.std.specs.Prelude.{ℕ, cond, is_some}
use Rattle.ic_base.specs.declared.events.Answer.{Answer}
use Rattle.ic_base.specs.declared.events.Answer.TheVariants as answers
use Rattle.ic_base.specs.declared.events.Fate.{Fate}
use Rattle.ic_base.specs.declared.events.Fate.TheVariants as fates
use Rattle.def_step.specs.Pcom as step
use Rattle.def_step.specs.Pcom.{Call, Gives, Gets, Forces, Checkpoints, Resends, Emits}
use Rattle.def_step.specs.World.{no_packets}
use Rattle.ic_pcom.specs.declared.step.Step.{Step}
use Rattle.ic_node.specs.declared.pcom_step.Before.{Before}
use Rattle.ic_node.specs.declared.done.Done.{Done}

-- what an answer needs of a Pcom before its step
abbrev pub before_of : step.Pcom → Before
before_of p = record { replays = step.is_replaying p; in_hand = step.in_hand p; idle = step.is_empty p.log.buffered }

-- what became of a packet
abbrev pub fate_told : Step → Fate
fate_told told = cond told.took fates.Taken (cond told.fed fates.Fed (cond told.busy fates.Busy (cond told.used fates.Used fates.Ignored)))

abbrev pub answer_by : Before → ℕ → Call → Step → Answer
answer_by before number (Gives handler args) told = cond before.replays answers.MissedReplaying (cond before.in_hand answers.MissedBusy answers.Taken)
answer_by before number (Gets packet) told = answers.Packet number packet (fate_told told)
answer_by before number Forces told = cond before.idle answers.Idle answers.Ended
answer_by before number Checkpoints told = cond before.replays answers.Replaying (cond before.in_hand answers.Busy answers.Ended)
answer_by before number Resends told = cond (no_packets told.puts) answers.Idle answers.Ended
answer_by before number Emits told = cond before.replays answers.Replaying (cond (is_some told.shown) answers.Ended answers.Idle)

-- what is told
abbrev pub told_by : Before → ℕ → Call → Step → ℕ → Done
told_by before number call told played =
    record { answer = answer_by before number call told; puts = told.puts; shown = told.shown; aborted = told.aborted; played = played }
