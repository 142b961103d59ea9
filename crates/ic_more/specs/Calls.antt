-- What a call of the program answers, by the words that it is given.
use Rattle.std.specs.Prelude.{◌≡◌, ◌⊎◌, ℕ, ◌==◌, List, [], ◌∷◌, ◌++◌, length, drop, codes, Option, Some, None, if◌then◌else◌}
use Rattle.def_syntax.specs.Commands.{TextNames}
use Rattle.def_syntax.specs.Schedule.{client_forms}
use Rattle.def_two.specs.Script.{TheScript}
use Rattle.ic_clients.specs.Completing as serving
use Rattle.ic_clients.specs.Runs as clients
use Rattle.ic_failover.specs.Asking.{AreFailoverTexts, AreFailoverRefused, HasFailoverCause}
use Rattle.ic_failover.specs.Completing as failing_over
use Rattle.ic_failover.specs.Runs as failover
use Rattle.ic_failover.specs.Serving as standing_by
use Rattle.ic_failover.specs.declared.texts.FailoverRefused.{FailoverRefused}
use Rattle.ic_failover.specs.declared.texts.FailoverRefused.TheVariants.{NoPcom, Texts}
use Rattle.ic_failover.specs.declared.texts.FailoverTexts.{FailoverTexts}
use Rattle.ic_plan.specs.Asking.{AreTexts}
use Rattle.ic_plan.specs.Keeping.{AskFor, HasReadCause, each_name}
use Rattle.ic_plan.specs.Refusing.{AreRefused}
use Rattle.ic_plan.specs.declared.run_texts.RunTexts.{RunTexts}
use Rattle.ic_plan.specs.declared.run_texts.TextsRefused.{TextsRefused}
use Rattle.ic_report.specs.Ends.{EndsAs}
use Rattle.ic_run.specs.Runs as serial
use Rattle.ic_run.specs.Whys.{why_of_texts}
use Rattle.ic_disk.specs.Causes.{Rose}
use Rattle.ic_disk.specs.declared.disk.Disk as disk
use Rattle.ic_disk.specs.declared.sink.Sink as sink
use Rattle.ic_disk.specs.declared.texts.Texts as texts
use Rattle.ic_report.specs.Devices.{counts_of, status_since}
use Rattle.ic_two_world.specs.Opening.{AreKept}
use Rattle.ic_more.specs.Asking.{IsScript, RefusesScript}
use Rattle.ic_more.specs.Completing.{Completes}
use Rattle.ic_more.specs.Ends.{EndsWith}
use Rattle.ic_more.specs.Lending.{components_of, own}
use Rattle.ic_more.specs.Words.{Command, Two, Clients, Standby}
use Rattle.ic_more.specs.Runs.{Runs}
use Rattle.ic_more.specs.declared.ending.Fault2.TheVariants.{Usage}
use Rattle.ic_more.specs.declared.ending.Why2.{Why2}
use Rattle.ic_more.specs.declared.ending.Why2.TheVariants.{Fault}

module _ {D : Type 0} (b : disk.Ghosts D) where
  -- The disks are handed back in their places: those of components are kept, and all others are as they were.
  pub record HandsBack (s : TheScript) (disks now : List D) : Type 0 where
    pub count : length now ≡ length disks
    pub kept : AreKept b (own s disks) (own s now)
    pub others : drop (components_of s) now ≡ drop (components_of s) disks

module _ {D : Type 0} (b : disk.Ghosts D) {K : Type 0} (k : sink.Ghosts K) (disks now : List D) (before after : K) (status : ℕ) where
  -- nothing is done: the disks stay, and why is told
  pub record IsRefusedFor (why : Why2) : Type 0 where
    pub stay : now ≡ disks
    pub ends : EndsWith k None why before after status

  -- the script is run over the disks of its components
  pub record RunsThis (s : TheScript) (print : List ℕ) : Type 0 where
    pub runs : Runs b s print (own s disks) (own s now) k before after status
    pub back : HandsBack b s disks now
    pub completes : Completes b k s print (own s disks) (own s now) before after status

  -- nothing is done: the disks stay, and why the texts of a run are refused is told
  pub record IsRefusedAs (refused : TextsRefused) : Type 0 where
    pub stay : now ≡ disks
    pub ends : EndsAs k (codes "icmore") None (why_of_texts refused) before after status

  -- what texts ask for is run, with each input the request of a client
  pub record ServesThis (r : RunTexts) : Type 0 where
    pub runs : clients.Runs b k (codes "icmore") r disks now before after status
    pub back : serial.HandsBack b r.program disks now
    pub completes : serving.Completes b k (codes "icmore") r disks now before after status
    pub serves : clients.Serves b k (codes "icmore") r disks now before after status

  -- nothing is done: a text is refused, or the name of a component is no Pcom's, and then the words are no form
  abbrev pub IsRefusedByStandby : FailoverRefused → Type 0
  IsRefusedByStandby NoPcom = IsRefusedFor (Fault Usage)
  IsRefusedByStandby (Texts refused) = IsRefusedAs refused

  -- what texts ask for is run with a standby
  pub record StandsByThis (r : FailoverTexts) : Type 0 where
    pub runs : failover.Runs b k (codes "icmore") r disks now before after status
    pub back : serial.HandsBack b r.program disks now
    pub completes : failing_over.Completes b k (codes "icmore") r disks now before after status
    pub serves : standing_by.Serves b k r disks before after status

  module _ {T : Type 0} (t : texts.Ghosts T) (told now_told : T) where
    -- the named script is refused
    pub record RefusesNamed (name : List ℕ) : Type 0 where
      pub why : Why2
      pub cause : RefusesScript (t.tells told) (Rose (t.faults told) (t.faults now_told)) (t.held told) name why
      pub ends : IsRefusedFor why

    -- the named script is run
    pub record RunsNamed (name : List ℕ) : Type 0 where
      pub script : TheScript
      pub print : List ℕ
      pub is : t.tells told → IsScript (t.held told) name script print
      pub runs : RunsThis script print

    -- the named texts of a run are refused, of which the first ones were read, in order
    pub record RefusesTexts (names : TextNames) : Type 0 where
      pub refused : TextsRefused
      pub cause : t.tells told → AreRefused client_forms names (t.held told) refused
      pub asked : AskFor (each_name names) (t.asked told) (t.asked now_told)
      pub read : HasReadCause t told now_told refused
      pub ends : IsRefusedAs refused

    -- the named texts, each read once and in order, ask for this, and it is run
    pub record ServesNamed (names : TextNames) : Type 0 where
      pub asked : RunTexts
      pub texts : t.tells told → AreTexts client_forms names (t.held told) asked
      pub all_asked : t.asked now_told ≡ t.asked told ++ each_name names
      pub serves : ServesThis asked

    -- the named texts of a run with a standby are refused, of which the first ones were read, in order
    pub record RefusesStandby (who : List ℕ) (names : TextNames) : Type 0 where
      pub refused : FailoverRefused
      pub cause : t.tells told → AreFailoverRefused who names (t.held told) refused
      pub asked : AskFor (each_name names) (t.asked told) (t.asked now_told)
      pub read : HasFailoverCause t told now_told refused
      pub ends : IsRefusedByStandby refused

    -- the named texts, each read once and in order, ask for this, and it is run with a standby
    pub record StandsByNamed (who : List ℕ) (names : TextNames) : Type 0 where
      pub asked : FailoverTexts
      pub texts : t.tells told → AreFailoverTexts who names (t.held told) asked
      pub all_asked : t.asked now_told ≡ t.asked told ++ each_name names
      pub stands_by : StandsByThis asked

    -- what the words ask for is done, or it is told why not; a script is read once, and where the words are no form no text is
    abbrev pub Answers : Option Command → Type 0
    Answers None = (now_told ≡ told) × IsRefusedFor (Fault Usage)
    Answers (Some (Two name)) = (t.asked now_told ≡ t.asked told ++ name ∷ []) × (RefusesNamed name ⊎ RunsNamed name)
    Answers (Some (Clients names)) = RefusesTexts names ⊎ ServesNamed names
    Answers (Some (Standby who names)) = RefusesStandby who names ⊎ StandsByNamed who names

module _ {D : Type 0} (b : disk.Ghosts D) {K : Type 0} (k : sink.Ghosts K) {T : Type 0} (t : texts.Ghosts T) (disks now : List D) (before after : K) (told now_told : T) (status : ℕ) (asked : Option Command) where
  -- What the words ask for is answered with this status; a call that did all has status 0 only where no count of faults rose in it.
  pub record EndsAnswered : Type 0 where
    pub done : ℕ
    pub answers : Answers b k disks now before after done t told now_told asked
    pub ends : status ≡ (if done == 0 then status_since t k b (counts_of t k b told before disks) now_told after now else done)

  -- memory is wanting before anything is done
  pub record EndsAtOnce : Type 0 where
    pub memory : status ≡ 12
    pub stay : now ≡ disks
    pub silent : after ≡ before
    pub unread : now_told ≡ told

  abbrev pub Ends : Type 0
  Ends = EndsAnswered ⊎ EndsAtOnce
