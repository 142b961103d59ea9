-- What a call of the program answers, by the words that it is given.
use Rattle.std.specs.Prelude.{◌≡◌, ◌⊎◌, ℕ, ◌==◌, cond, List, [], ◌∷◌, ◌++◌, codes, Option, Some, None, option_map, if◌then◌else◌}
use Rattle.std.specs.List.{list_any}
use Rattle.def_syntax.specs.Commands.{is_dashed}
use Rattle.law_run.specs.ProgramBytes.{IsFit}
use Rattle.ic_disk.specs.declared.disk.Disk as disk
use Rattle.ic_disk.specs.declared.sink.Sink as sink
use Rattle.ic_disk.specs.declared.texts.Texts as texts
use Rattle.ic_lines.specs.declared.lines.Lines as source
use Rattle.ic_plan.specs.Asking.{AreServedTexts}
use Rattle.ic_plan.specs.Keeping.{AskFor, HasReadCause, served_names}
use Rattle.ic_plan.specs.Refusing.{AreServedRefused}
use Rattle.ic_plan.specs.declared.command.ServedNames.{ServedNames}
use Rattle.ic_plan.specs.declared.run_texts.ServedTexts.{ServedTexts}
use Rattle.ic_plan.specs.declared.run_texts.TextsRefused.{TextsRefused}
use Rattle.ic_report.specs.Devices.{counts_of, status_since}
use Rattle.ic_report.specs.Ends.{EndsAs}
use Rattle.ic_report.specs.Outputs.{Puts, FailsToPut}
use Rattle.ic_run.specs.Runs.{HandsBack}
use Rattle.ic_run.specs.Whys.{why_of_texts}
use Rattle.ic_serve.specs.Completing.{Completes}
use Rattle.ic_serve.specs.Runs.{Runs}

-- the names of a scenario and maybe a policy
abbrev pub Names : Type 0
Names = List ℕ × Option (List ℕ)

abbrev pub names_seen : ServedNames → Names
names_seen n = (n.scenario.now, option_map (λ w. w.now) n.policy)

-- one word or two
abbrev pub names_in : List (List ℕ) → Option Names
names_in (scenario ∷ []) = Some (scenario, None)
names_in (scenario ∷ policy ∷ []) = Some (scenario, Some policy)
names_in _ = None

-- what words ask for, if they are a form; no word begins with `-`
abbrev pub names_of : List (List ℕ) → Option Names
names_of words = cond (list_any is_dashed words) None (names_in words)

-- the last line of a call whose words have no form
abbrev pub usage_line : List ℕ
usage_line = codes "icserve: usage: SCENARIO [POLICY]" ++ (10 ∷ [])

module _ {D : Type 0} (b : disk.Ghosts D) {K : Type 0} (k : sink.Ghosts K) {T : Type 0} (t : texts.Ghosts T) {I : Type 0} (i : source.Ghosts I) (disks now : List D) (before after : K) (told now_told : T) (lines lines_now : I) (status : ℕ) where
  -- the words have no form
  pub record IsUnasked : Type 0 where
    pub stay : now ≡ disks
    pub unread : now_told ≡ told
    pub ends : ((status ≡ 2) × Puts k (usage_line ∷ []) before after) ⊎ ((status ≡ 9) × FailsToPut k (usage_line ∷ []) before after)

  -- the named texts are refused, of which the first ones were read, in order
  pub record RefusesNamed (names : Names) : Type 0 where
    pub refused : TextsRefused
    pub cause : t.tells told → AreServedRefused names.0 names.1 (t.held told) refused
    pub asked : AskFor (served_names names.0 names.1) (t.asked told) (t.asked now_told)
    pub read : HasReadCause t told now_told refused
    pub stay : now ≡ disks
    pub ends : EndsAs k (codes "icserve") None (why_of_texts refused) before after status

  -- the named texts, each read once and in order, ask for this, and its lines are served
  pub record ServesNamed (names : Names) : Type 0 where
    pub asked : ServedTexts
    pub texts : t.tells told → AreServedTexts names.0 names.1 (t.held told) asked
    pub fit : IsFit asked.program
    pub all_asked : t.asked now_told ≡ t.asked told ++ served_names names.0 names.1
    pub runs : Runs b k asked i lines disks before lines_now now after status
    pub back : HandsBack b asked.program disks now
    pub completes : Completes b k asked i lines disks before lines_now now after status

  abbrev pub Answers : Option Names → Type 0
  Answers None = IsUnasked
  Answers (Some names) = RefusesNamed names ⊎ ServesNamed names

module _ {D : Type 0} (b : disk.Ghosts D) {K : Type 0} (k : sink.Ghosts K) {T : Type 0} (t : texts.Ghosts T) {I : Type 0} (i : source.Ghosts I) (disks now : List D) (before after : K) (told now_told : T) (lines lines_now : I) (status : ℕ) (asked : Option Names) where
  -- What the words ask for is answered with this status; a call that did all has status 0 only where no count of faults rose in it.
  pub record EndsAnswered : Type 0 where
    pub done : ℕ
    pub answers : Answers b k t i disks now before after told now_told lines lines_now done asked
    pub ends : status ≡ (if done == 0 then status_since t k b (counts_of t k b told before disks) now_told after now else done)

  -- memory is wanting before anything is done
  pub record EndsAtOnce : Type 0 where
    pub memory : status ≡ 12
    pub stay : now ≡ disks
    pub silent : after ≡ before
    pub unread : now_told ≡ told

  abbrev pub Ends : Type 0
  Ends = EndsAnswered ⊎ EndsAtOnce
