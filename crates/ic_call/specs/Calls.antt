-- What a call of the program answers, by the words that it is given.
use Rattle.std.specs.Prelude.{◌≡◌, ◌⊎◌, ℕ, ◌==◌, List, ◌++◌, Option, Some, None, if◌then◌else◌}
use Rattle.ic_base.specs.declared.report.Fault.TheVariants.{Usage}
use Rattle.def_syntax.specs.Schedule.{forms}
use Rattle.def_syntax.specs.Commands.{Command, TextNames, Run, Resume, Audit, Make}
use Rattle.ic_audit.specs.Audits.{Audits}
use Rattle.ic_audit.specs.Disks.{AreLookedAt}
use Rattle.ic_disk.specs.Causes.{Rose}
use Rattle.ic_disk.specs.declared.disk.Disk as disk
use Rattle.ic_disk.specs.declared.sink.Sink as sink
use Rattle.ic_disk.specs.declared.texts.Texts as texts
use Rattle.ic_report.specs.Ends.{EndsWith}
use Rattle.ic_report.specs.declared.ending.Why.TheVariants.{Fault}
use Rattle.ic_run.specs.Completing.{Completes}
use Rattle.ic_run.specs.Runs.{HandsBack, Runs}
use Rattle.ic_run.specs.Whys.{why_of_texts}
use Rattle.ic_run.specs.declared.opening.Opening.{Opening}
use Rattle.ic_run.specs.declared.opening.Opening.TheVariants.{Anew, Found}
use Rattle.ic_plan.specs.Asking.{AreTexts}
use Rattle.ic_plan.specs.Keeping.{AskFor, HasReadCause, each_name}
use Rattle.ic_plan.specs.Large.{IsLarge, IsLargeRefused}
use Rattle.ic_plan.specs.Refusing.{AreRefused}
use Rattle.ic_plan.specs.declared.run_texts.RunTexts.{RunTexts}
use Rattle.ic_plan.specs.declared.run_texts.TextsRefused.{TextsRefused}
use Rattle.ic_report.specs.Devices.{counts_of, status_since}

module _ {D : Type 0} (b : disk.Ghosts D) {K : Type 0} (k : sink.Ghosts K) (disks now : List D) (before after : K) (status : ℕ) where
  -- nothing is done: the disks stay, and why is told
  pub record IsRefusedFor (refused : TextsRefused) : Type 0 where
    pub stay : now ≡ disks
    pub ends : EndsWith k None (why_of_texts refused) before after status

  -- what texts ask for is run
  pub record RunsThese (opening : Opening) (r : RunTexts) : Type 0 where
    pub runs : Runs b k r opening disks now before after status
    pub back : HandsBack b r.program disks now
    pub completes : Completes b k r opening disks now before after status

  -- the texts of the large run of this number are run, or refused
  pub record RunsLarge (number : ℕ) : Type 0 where
    pub asked : RunTexts
    pub texts : IsLarge number asked
    pub runs : RunsThese Anew asked

  pub record RefusesLarge (number : ℕ) : Type 0 where
    pub refused : TextsRefused
    pub cause : IsLargeRefused number refused
    pub ends : IsRefusedFor refused

  -- the words are no form
  pub record RefusesWords : Type 0 where
    pub stay : now ≡ disks
    pub ends : EndsWith k None (Fault Usage) before after status

  module _ {T : Type 0} (t : texts.Ghosts T) (told now_told : T) where
    -- the named texts are refused, of which the first ones were read, in order
    pub record RefusesNamed (names : TextNames) : Type 0 where
      pub refused : TextsRefused
      pub cause : t.tells told → AreRefused forms names (t.held told) refused
      pub asked : AskFor (each_name names) (t.asked told) (t.asked now_told)
      pub read : HasReadCause t told now_told refused
      pub ends : IsRefusedFor refused

    -- the named texts, each read once and in order, ask for this, and it is run
    pub record RunsNamed (opening : Opening) (names : TextNames) : Type 0 where
      pub asked : RunTexts
      pub texts : t.tells told → AreTexts forms names (t.held told) asked
      pub all_asked : t.asked now_told ≡ t.asked told ++ each_name names
      pub runs : RunsThese opening asked

    -- the logs of the named scenario are audited, and the disks only looked at
    pub record AuditsNamed (name : List ℕ) : Type 0 where
      pub audits : Audits b k (t.tells told) (Rose (t.faults told) (t.faults now_told)) (t.held told) name disks now before after status
      pub looked : AreLookedAt b disks now

    -- what the words ask for is done, or it is told why not; where they name no text none is read
    abbrev pub Answers : Option Command → Type 0
    Answers None = (now_told ≡ told) × RefusesWords
    Answers (Some (Run names)) = RefusesNamed names ⊎ RunsNamed Anew names
    Answers (Some (Resume names)) = RefusesNamed names ⊎ RunsNamed Found names
    Answers (Some (Audit name)) = AuditsNamed name
    Answers (Some (Make number)) = (now_told ≡ told) × (RefusesLarge number ⊎ RunsLarge number)

module _ {D : Type 0} (b : disk.Ghosts D) {K : Type 0} (k : sink.Ghosts K) {T : Type 0} (t : texts.Ghosts T) (disks now : List D) (before after : K) (told now_told : T) (status : ℕ) (asked : Option Command) where
  -- What the words ask for is answered with this status; a call that did all has status 0 only where no count of faults rose in it.
  pub record EndsAnswered : Type 0 where
    pub done : ℕ
    pub answers : Answers b k disks now before after done t told now_told asked
    pub ends : status ≡ (if done == 0 then status_since t k b (counts_of t k b told before disks) now_told after now else done)

  -- memory is wanting before anything is done
  pub record EndsAtOnce : Type 0 where
    pub memory : status ≡ 12
    pub stay : now ≡ disks
    pub silent : after ≡ before
    pub unread : now_told ≡ told

  abbrev pub Ends : Type 0
  Ends = EndsAnswered ⊎ EndsAtOnce
