-- The lines of an answer.
use Rattle.std.specs.Prelude.{◌≡◌, ℕ, List, [], ◌∷◌, ◌++◌, None, codes, decimal}
use Rattle.def_report.specs.Faults.{cause_text}
use Rattle.def_step.specs.Settle.{next_event}
use Rattle.ic_base.specs.declared.refusals.Cause.{Cause}
use Rattle.ic_disk.specs.declared.disk.Disk as disk
use Rattle.ic_disk.specs.declared.sink.Sink as sink
use Rattle.ic_report.specs.Outputs.{Puts, FailsToPut}
use Rattle.ic_report.specs.declared.ending.Why.{Why}
use Rattle.ic_report.specs.declared.ending.Why.TheVariants.{Fault, Print, Memory}
use Rattle.ic_world.specs.Stepping.{CrashLeavesFiles}
use Rattle.ic_world.specs.Views.{world_of}
use Rattle.ic_world.specs.declared.world.World.{World}
use Rattle.ic_serve.specs.declared.service.Service.{Service}

-- the line of this number is refused
abbrev pub bad_line : ℕ → Cause → List ℕ
bad_line number cause = codes "bad line" ++ (32 ∷ decimal number) ++ codes ": " ++ cause_text cause ++ (10 ∷ [])

-- the last line of each answer
abbrev pub served_text : ℕ → List ℕ
served_text number = codes "served" ++ (32 ∷ decimal number) ++ (10 ∷ [])

-- what was gathered was put in one piece, which ends with the number of its line
pub record Answers {K : Type 0} (k : sink.Ghosts K) (number : ℕ) (was now : Service) (before after : K) : Type 0 where
  pub put : Puts k ((was.piece.items ++ served_text number) ∷ []) before after
  pub piece : now.piece.items ≡ []
  pub front : now.front.taken ≡ was.front.taken
  pub tally : now.tally ≡ was.tally
  pub played : now.played ≡ was.played
  pub lines : now.lines ≡ was.lines

-- Over this world a piece was put: all that it tells is done and settled, and kept, since a crash leaves of each disk just what a read gives.
pub record AnswersOver {D : Type 0} {d : disk.Ghosts D} (w : World D d) {K : Type 0} (k : sink.Ghosts K) (number : ℕ) (was now : Service) (before after : K) : Type 0 where
  pub settled : next_event (world_of w) ≡ None
  pub kept : CrashLeavesFiles w
  pub answers : Answers k number was now before after

-- the output failed at an answer, or memory was wanting and nothing was put
abbrev pub FailsToAnswer : {K : Type 0} → sink.Ghosts K → K → K → Why → Type 0
FailsToAnswer k before after (Fault fault) = ⊥
FailsToAnswer k before after Print = (piece : List ℕ) × FailsToPut k (piece ∷ []) before after
FailsToAnswer k before after Memory = after ≡ before
