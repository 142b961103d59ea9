-- What a run with a standby over the disks of a call comes to: its status, and what it prints.
use Rattle.std.specs.Prelude.{◌≡◌, ◌⊎◌, ⊤, ℕ, true, List, Some, None}
use Rattle.ic_base.specs.Programs.{is_a_tcom}
use Rattle.ic_base.specs.declared.events.What.{What}
use Rattle.ic_base.specs.declared.limits.TheConstants.{LOG_BYTES}
use Rattle.ic_base.specs.declared.refusals.WorldRefused.{WorldRefused}
use Rattle.ic_base.specs.declared.refusals.WorldRefused.TheVariants as refused
use Rattle.ic_base.specs.declared.scenario.Program.{Program}
use Rattle.ic_disk.specs.declared.disk.Disk as disk
use Rattle.ic_disk.specs.declared.sink.Sink as sink
use Rattle.ic_failover.specs.Crashes.{CameTo, HoldAll, WasTried}
use Rattle.ic_failover.specs.Moments.{Moment, moment_pieces}
use Rattle.ic_failover.specs.Worlds.{as_texts, RunsWhole, RunsUntold, StopsShort}
use Rattle.ic_failover.specs.declared.texts.FailoverTexts.{FailoverTexts}
use Rattle.ic_report.specs.Ends.{EndsAs}
use Rattle.ic_report.specs.Outputs.{Puts}
use Rattle.ic_report.specs.declared.ending.Why.{Why}
use Rattle.ic_run.specs.Lending.{lent}
use Rattle.ic_run.specs.Openings.{TheyTell}
use Rattle.ic_run.specs.Runs as serial
use Rattle.ic_run.specs.Whys.{why_of_world}
use Rattle.ic_run.specs.Worlds.{RunsIn}
use Rattle.ic_run.specs.declared.opening.Opening.TheVariants.{Anew}
use Rattle.ic_run.specs.declared.running.Cut.TheVariants as cuts
use Rattle.ic_world.specs.Views.{state_of}

-- No log is told as foreign, and a bad one only where a Tcom has no room for its next epoch: no log of a Pcom is refused, by a recovery, a
-- shipment or a takeover.
abbrev pub IsOfSoundLogs : Program → WorldRefused → Type 0
IsOfSoundLogs program (refused.Bad c place) = (place ≡ LOG_BYTES) × (is_a_tcom program c ≡ true)
IsOfSoundLogs program (refused.Foreign c kept) = ⊥
IsOfSoundLogs program why = ⊤

module _ {D : Type 0} (b : disk.Ghosts D) {K : Type 0} (k : sink.Ghosts K) (tool : List ℕ) (r : FailoverTexts) (disks now : List D) (before after : K) (status : ℕ) where
  -- A world started over the disks of the components, all was done in it, and the whole report was printed: the lines of all moments through
  -- which it came, and the summary.
  pub record IsDone : Type 0 where
    pub ran : RunsIn b k (λ old new. RunsWhole k r old new before after) (as_texts r) Anew (lent r.program.components disks) (lent r.program.components now)
    pub moments : List Moment
    pub came : CameTo b k r disks now before after (state_of ran.old) moments None
    pub holds : HoldAll b k r disks now before after (state_of ran.old) moments
    pub printed : Puts k (moment_pieces r 1 moments) before ran.ran.mid

  -- An event, a shipment or a takeover is refused, and why is told behind the lines of the moments before it. Over disks that tell their bytes
  -- no log is to blame; and a disk that is told as failed has failed, or stands stopped.
  pub record EndsRefused : Type 0 where
    pub why : WorldRefused
    pub mid : K
    pub ran : RunsIn b k (λ old new. StopsShort b k r old new before mid (cuts.Refused why)) (as_texts r) Anew (lent r.program.components disks) (lent r.program.components now)
    pub moments : List Moment
    pub what : What
    pub came : CameTo b k r disks now before after (state_of ran.old) moments (Some what)
    pub tried : WasTried b k r disks now before after (state_of ran.old) moments what
    pub printed : Puts k (moment_pieces r 1 moments) before mid
    pub sound : TheyTell b r.program disks → IsOfSoundLogs r.program why
    pub fault : serial.IsFault b disks now why
    pub ends : EndsAs k tool (Some r.program) (why_of_world r.fingerprint why) mid after status

  -- the output failed, or memory is wanting; what was done may not all be told
  pub record EndsUntold : Type 0 where
    pub why : Why
    pub mid : K
    pub ran : RunsIn b k (λ old new. RunsUntold b k r old new before mid why) (as_texts r) Anew (lent r.program.components disks) (lent r.program.components now)
    pub moments : List Moment
    pub came : CameTo b k r disks now before after (state_of ran.old) moments None
    pub holds : HoldAll b k r disks now before after (state_of ran.old) moments
    pub ends : EndsAs k tool (Some r.program) why mid after status

  -- a run with a standby, by its status
  abbrev pub Runs : Type 0
  Runs = ((status ≡ 0) × IsDone) ⊎ (serial.EndsUnopened b k (as_texts r) Anew disks now before after tool status ⊎ (EndsRefused ⊎ EndsUntold))
