-- Where nothing goes wrong in a call, a run does all that was to be done, or it reaches a limit.
use Rattle.std.specs.Prelude.{◌≡◌, ◌⊎◌, ⊤, ℕ, List, None}
use Rattle.ic_base.specs.declared.limits.TheConstants.{LOG_BYTES}
use Rattle.ic_base.specs.declared.messages.ComId.{ComId}
use Rattle.ic_base.specs.declared.refusals.WorldRefused.{WorldRefused}
use Rattle.ic_base.specs.declared.scenario.Program.{Program}
use Rattle.ic_base.specs.declared.refusals.WorldRefused.TheVariants as refused
use Rattle.def_run.specs.SystemStates.{SystemState}
use Rattle.def_run.specs.Openings.{BeginsSound}
use Rattle.ic_disk.specs.Causes.{Rose}
use Rattle.ic_disk.specs.declared.disk.Disk as disk
use Rattle.ic_disk.specs.declared.sink.Sink as sink
use Rattle.ic_plan.specs.declared.run_texts.RunTexts.{RunTexts}
use Rattle.ic_run.specs.Openings.{IsOpened, opening_refusal, files_on, TheyTell}
use Rattle.ic_run.specs.Runs.{HasFailed, EndsRefused}
use Rattle.ic_run.specs.declared.opening.Opening.{Opening}
use Rattle.ic_run.specs.declared.opening.Opening.TheVariants.{Found}

-- a limit is reached: of receipts, of packets or of a log; or a Tcom has no room for its next epoch, which is told at the log's limit
abbrev pub IsOfLimit : WorldRefused → Type 0
IsOfLimit (refused.Limit which) = ⊤
IsOfLimit (refused.LogFull c) = ⊤
IsOfLimit (refused.Bad c place) = place ≡ LOG_BYTES
IsOfLimit why = ⊥

module _ {D : Type 0} (b : disk.Ghosts D) {K : Type 0} (k : sink.Ghosts K) where
  -- The disks tell their bytes, and let a run of the program open; where it is taken up, over sound logs. No disk and no output failed in
  -- the call.
  pub record NothingFails (program : Program) (fingerprint : List ℕ) (opening : Opening) (disks now : List D) (before after : K) : Type 0 where
    pub tell : TheyTell b program disks
    pub opens : opening_refusal opening program fingerprint (files_on b program disks) ≡ None
    pub sound : opening ≡ Found → (p : SystemState) → IsOpened Found program fingerprint (files_on b program disks) p → BeginsSound program fingerprint (files_on b program disks) p
    pub working : (c : ComId) → HasFailed b disks now c → ⊥
    pub output : Rose (k.faults before) (k.faults after) → ⊥

module _ {D : Type 0} (b : disk.Ghosts D) {K : Type 0} (k : sink.Ghosts K) (r : RunTexts) (opening : Opening) (disks now : List D) (before after : K) where
  -- it ended since the event that was next would pass a limit
  abbrev pub EndsAtLimit : ℕ → Type 0
  EndsAtLimit status = (e : EndsRefused b k r opening disks now before after status) × IsOfLimit e.why

  -- where nothing fails all is done, unless memory is wanting or a limit is reached
  abbrev pub Completes : ℕ → Type 0
  Completes status = NothingFails b k r.program r.fingerprint opening disks now before after → (status ≡ 0) ⊎ ((status ≡ 12) ⊎ EndsAtLimit status)
