-- How an audit of the logs of a scenario ends.
use Rattle.std.specs.Prelude.{◌≡◌, ◌⊎◌, ℕ, List, map, Option, Some, None, Ok}
use Rattle.sha2.specs.Sha256.{sha256}
use Rattle.ic_base.specs.declared.report.Fault.TheVariants as faults
use Rattle.ic_base.specs.declared.refusals.Cause.{Cause}
use Rattle.ic_base.specs.declared.scenario.Program.{Program}
use Rattle.def_facts.specs.Logs.{Logs}
use Rattle.def_facts.specs.Sound.{AreSound}
use Rattle.def_syntax.specs.Scenario.{IsScenario, IsRefused}
use Rattle.ic_disk.specs.declared.disk.Disk.{Ghosts}
use Rattle.ic_disk.specs.declared.sink.Sink as sink
use Rattle.ic_report.specs.declared.ending.Why.{Why}
use Rattle.ic_report.specs.declared.ending.Why.TheVariants.{Fault as AFault, Print, Memory}
use Rattle.ic_audit.specs.Disks.{Refuses, AllTell}
use Rattle.ic_audit.specs.Steps.{IsFirstToFail}
use Rattle.ic_report.specs.Ends.{EndsWith, EndsDone}
use Rattle.ic_audit.specs.Logs.{logs_in, audit_in}

-- the text that each name holds, if it holds one
abbrev pub Held : Type 0
Held = List ℕ → Option (List ℕ)

-- the name holds the text of a scenario of this program, with this fingerprint
pub record IsScene (held : Held) (name : List ℕ) (program : Program) (fingerprint : List ℕ) : Type 0 where
  pub text : List ℕ
  pub there : held name ≡ Some text
  pub scenario : IsScenario text program
  pub hash : fingerprint ≡ sha256 text

-- the name holds a text that is refused as a scenario
pub record IsNoScene (held : Held) (name : List ℕ) (line : ℕ) (cause : Cause) : Type 0 where
  pub text : List ℕ
  pub there : held name ≡ Some text
  pub refused : IsRefused text line cause

-- Why no scenario is read: it is refused, or the text wasn't read. `tells` says that the texts tell what they hold, and `rose` that their
-- count of faults rose.
abbrev pub RefusesScene : Type 0 → Type 0 → Held → List ℕ → Why → Type 0
RefusesScene tells rose held name (AFault (faults.Scenario line cause)) = tells → IsNoScene held name line cause
RefusesScene tells rose held name (AFault faults.Read) = rose
RefusesScene tells rose held name (AFault _) = ⊥
RefusesScene tells rose held name Print = ⊥
RefusesScene tells rose held name Memory = Unit {0}

-- the files of the components hold logs that are sound together, as those of a run are
pub record HoldSoundLogs (program : Program) (fingerprint : List ℕ) (files : List (List ℕ)) : Type 0 where
  pub logs : Logs
  pub read : logs_in fingerprint 0 program.components files ≡ Ok logs
  pub sound : AreSound program logs

-- it says nothing of what the logs hold
abbrev pub SaysNothingOfLogs : Why → Type 0
SaysNothingOfLogs (AFault (faults.Disk c)) = Unit {0}
SaysNothingOfLogs (AFault _) = ⊥
SaysNothingOfLogs Print = Unit {0}
SaysNothingOfLogs Memory = Unit {0}

module _ {K : Type 0} (k : sink.Ghosts K) where
  -- an audit ends without a scenario, for this cause
  pub record EndsWithoutScene (tells missed : Type 0) (held : Held) (name : List ℕ) (before after : K) (status : ℕ) : Type 0 where
    pub why : Why
    pub cause : RefusesScene tells missed held name why
    pub ends : EndsWith k None why before after status

module _ {D : Type 0} (d : Ghosts D) {K : Type 0} (k : sink.Ghosts K) where
  -- the lines of an audit of these disks are printed
  pub record PrintsAudit (program : Program) (fingerprint : List ℕ) (disks : List D) (before after : K) (status : ℕ) : Type 0 where
    pub lines : List ℕ
    pub audit : AllTell d disks → audit_in program fingerprint (map d.seen disks) ≡ Ok lines
    pub prints : EndsDone k lines before after status

  -- an audit of these disks ends for this cause
  pub record EndsAudit (program : Program) (fingerprint : List ℕ) (disks now : List D) (before after : K) (status : ℕ) : Type 0 where
    pub why : Why
    pub cause : Refuses (AllTell d disks) (IsFirstToFail d fingerprint program.components disks now) (audit_in program fingerprint (map d.seen disks)) why
    -- sound logs are never refused, and their history is legal
    pub sound : AllTell d disks → HoldSoundLogs program fingerprint (map d.seen disks) → SaysNothingOfLogs why
    pub ends : EndsWith k (Some program) why before after status

  -- An audit over the scenario that a name holds: its lines are printed, or it ends for a cause. `tells` says that the texts tell what they
  -- hold.
  pub record EndsOverScene (tells : Type 0) (held : Held) (name : List ℕ) (disks now : List D) (before after : K) (status : ℕ) : Type 0 where
    pub program : Program
    pub fingerprint : List ℕ
    pub scene : tells → IsScene held name program fingerprint
    pub ends : PrintsAudit program fingerprint disks before after status ⊎ EndsAudit program fingerprint disks now before after status

  -- An audit of the logs of a named scenario, with what it puts into the output and its status; without a scenario no disk is touched.
  -- `missed` says that the texts' count of faults rose.
  abbrev pub Audits : Type 0 → Type 0 → Held → List ℕ → List D → List D → K → K → ℕ → Type 0
  Audits tells missed held name disks now before after status =
      (EndsWithoutScene k tells missed held name before after status × (now ≡ disks)) ⊎ EndsOverScene tells held name disks now before after status
