-- The lines that are served, and what becomes of each.
use Rattle.def_client.specs.declared.asked.Asked.{Asked}
use Rattle.def_client.specs.declared.asked.Asked.TheVariants.{New}
use Rattle.std.specs.Prelude.{ℕ, true}
use Rattle.ic_base.specs.declared.messages.ComId.{ComId}
use Rattle.ic_base.specs.declared.events.Event.{Event}
use Rattle.ic_base.specs.declared.events.What.TheVariants as whats
use Rattle.ic_base.specs.declared.refusals.Cause.{Cause}
use Rattle.def_rounds.specs.Rounds.{Turn, Answers, Happens, Ways}
use Rattle.def_run.specs.SystemStates.{without_stop}
use Rattle.def_step.specs.World.{World}
use Rattle.def_client.specs.Fronts.{Request, Front, ask, saw}

-- a line that is read: a request, an input that has no number, a checkpoint, the values of the components; or it is none of these, with
-- its number and its cause
pub data Line : Type 0 where
  Asks : (request : Request) → Line
  Gives : (request : Request) → Line
  Checkpoints : (who : ComId) → Line
  Values : Line
  Refused : (number : ℕ) → (cause : Cause) → Line

-- what is told of a line with no step
pub data Note : Type 0 where
  IsAnswered : (asked : Asked) → Note
  AreTold : Note
  IsBad : (number : ℕ) → (cause : Cause) → Note

abbrev pub input_for : Request → Event
input_for r = without_stop (whats.Input r.who r.handler r.args)

abbrev pub turn_of : Front → Request → Asked → Turn Front Note
turn_of front r New = Happens (input_for r)
turn_of front r asked = Answers (IsAnswered asked) front

abbrev pub turn : World → Front → Line → Turn Front Note
turn w front (Asks r) = turn_of front r (ask front r)
turn w front (Gives r) = Happens (input_for r)
turn w front (Checkpoints c) = Happens (without_stop (whats.Checkpoint c))
turn w front Values = Answers AreTold front
turn w front (Refused number cause) = Answers (IsBad number cause) front

-- the world is settled behind each line
abbrev pub serving : Ways Line Front Note
serving = record { turn = turn; settles = true; saw = saw; leap = λ s p note q. ⊥ }
