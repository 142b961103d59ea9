-- What a call of the program answers, by the words that it is given.
use Rattle.std.specs.Prelude.{◌≡◌, ◌⊎◌, ℕ, ◌==◌, List, ◌++◌, Option, Some, None, codes, if◌then◌else◌}
use Rattle.ic_base.specs.declared.report.Fault.TheVariants.{Usage}
use Rattle.def_syntax.specs.Schedule.{forms}
use Rattle.def_syntax.specs.Commands.{TextNames}
use Rattle.ic_disk.specs.declared.disk.Disk as disk
use Rattle.ic_disk.specs.declared.sink.Sink as sink
use Rattle.ic_disk.specs.declared.texts.Texts as texts
use Rattle.ic_plan.specs.Asking.{AreTexts}
use Rattle.ic_plan.specs.Keeping.{AskFor, HasReadCause, each_name}
use Rattle.ic_plan.specs.Refusing.{AreRefused}
use Rattle.ic_plan.specs.declared.run_texts.RunTexts.{RunTexts}
use Rattle.ic_plan.specs.declared.run_texts.TextsRefused.{TextsRefused}
use Rattle.ic_report.specs.Devices.{counts_of, status_since}
use Rattle.ic_report.specs.Ends.{EndsAs}
use Rattle.ic_report.specs.declared.ending.Why.TheVariants.{Fault}
use Rattle.ic_run.specs.Whys.{why_of_texts}
use Rattle.ic_threads.specs.Completing.{Completes}
use Rattle.ic_threads.specs.Runs.{HandsBack, Lives}

module _ {D : Type 0} (b : disk.Ghosts D) {K : Type 0} (k : sink.Ghosts K) (disks now : List D) (before after : K) (status : ℕ) where
  -- nothing is done: the disks stay, and why is told
  pub record IsRefusedFor (refused : TextsRefused) : Type 0 where
    pub stay : now ≡ disks
    pub ends : EndsAs k (codes "iclive") None (why_of_texts refused) before after status

  -- what texts ask for is run, and the disks are handed back, unless memory was wanting
  pub record RunsThese (r : RunTexts) : Type 0 where
    pub lives : Lives b k r disks now before after status
    pub back : (status ≡ 12) ⊎ HandsBack r.program disks now
    pub completes : Completes b k r disks now before after status

  -- the words are no form
  pub record RefusesWords : Type 0 where
    pub stay : now ≡ disks
    pub ends : EndsAs k (codes "iclive") None (Fault Usage) before after status

  module _ {T : Type 0} (t : texts.Ghosts T) (told now_told : T) where
    -- the named texts are refused, of which the first ones were read, in order
    pub record RefusesNamed (names : TextNames) : Type 0 where
      pub refused : TextsRefused
      pub cause : t.tells told → AreRefused forms names (t.held told) refused
      pub asked : AskFor (each_name names) (t.asked told) (t.asked now_told)
      pub read : HasReadCause t told now_told refused
      pub ends : IsRefusedFor refused

    -- the named texts, each read once and in order, ask for this, and it is run
    pub record RunsNamed (names : TextNames) : Type 0 where
      pub asked : RunTexts
      pub texts : t.tells told → AreTexts forms names (t.held told) asked
      pub all_asked : t.asked now_told ≡ t.asked told ++ each_name names
      pub runs : RunsThese asked

    -- what the words ask for is done, or it is told why not; where they name no text none is read
    abbrev pub Answers : Option TextNames → Type 0
    Answers None = (now_told ≡ told) × RefusesWords
    Answers (Some names) = RefusesNamed names ⊎ RunsNamed names

module _ {D : Type 0} (b : disk.Ghosts D) {K : Type 0} (k : sink.Ghosts K) {T : Type 0} (t : texts.Ghosts T) (disks now : List D) (before after : K) (told now_told : T) (status : ℕ) (asked : Option TextNames) where
  -- What the words ask for is answered with this status; a call that did all has status 0 only where no count of faults rose in it.
  pub record EndsAnswered : Type 0 where
    pub done : ℕ
    pub answers : Answers b k disks now before after done t told now_told asked
    pub ends : status ≡ (if done == 0 then status_since t k b (counts_of t k b told before disks) now_told after now else done)

  -- memory is wanting before anything is done
  pub record EndsAtOnce : Type 0 where
    pub memory : status ≡ 12
    pub stay : now ≡ disks
    pub silent : after ≡ before
    pub unread : now_told ≡ told

  abbrev pub Ends : Type 0
  Ends = EndsAnswered ⊎ EndsAtOnce
