-- Where nothing goes wrong in a call, all lines are served, or a limit is reached.
use Rattle.std.specs.Prelude.{◌≡◌, ◌⊎◌, ℕ, List, Err}
use Rattle.ic_base.specs.declared.messages.ComId.{ComId}
use Rattle.ic_base.specs.declared.refusals.WorldRefused.{WorldRefused}
use Rattle.ic_disk.specs.Causes.{Rose}
use Rattle.ic_disk.specs.declared.disk.Disk as disk
use Rattle.ic_disk.specs.declared.sink.Sink as sink
use Rattle.ic_lines.specs.declared.lines.Lines as source
use Rattle.ic_plan.specs.declared.run_texts.ServedTexts.{ServedTexts}
use Rattle.ic_run.specs.Completing.{IsOfLimit}
use Rattle.ic_run.specs.Lending.{lent}
use Rattle.ic_run.specs.Runs.{HasFailed}
use Rattle.ic_run.specs.Whys.{why_of_world}
use Rattle.ic_serve.specs.Runs.{HoldSound, WasServed}
use Rattle.ic_serve.specs.declared.stretch.First.TheVariants.{Opening}

module _ {D : Type 0} (b : disk.Ghosts D) {K : Type 0} (k : sink.Ghosts K) (r : ServedTexts) {I : Type 0} (i : source.Ghosts I) (lines : I) (disks : List D) (before : K) (lines_now : I) (now : List D) (after : K) where
  -- The disks of the components are blank, or hold sound logs. No disk, no source of lines and no output failed in the call.
  pub record NothingFails : Type 0 where
    pub sound : HoldSound b r.program r.fingerprint Opening (lent r.program.components disks)
    pub working : (c : ComId) → HasFailed b disks now c → ⊥
    pub source : Rose (i.faults lines) (i.faults lines_now) → ⊥
    pub output : Rose (k.faults before) (k.faults after) → ⊥

  -- it ended since the event that was next would pass a limit
  pub record EndsAtLimit (status : ℕ) : Type 0 where
    pub served : WasServed b k r i lines disks before lines_now now after status
    pub why : WorldRefused
    pub is : served.result ≡ Err (why_of_world r.fingerprint why)
    pub limit : IsOfLimit why

  -- where nothing fails all lines are served, unless memory is wanting or a limit is reached
  abbrev pub Completes : ℕ → Type 0
  Completes status = NothingFails → (status ≡ 0) ⊎ ((status ≡ 12) ⊎ EndsAtLimit status)
