-- Where nothing goes wrong in a call, a live run does all that was to be done, or it reaches a limit.
use Rattle.std.specs.Prelude.{◌≡◌, ◌⊎◌, ℕ, List, Err}
use Rattle.ic_base.specs.declared.refusals.WorldRefused.{WorldRefused}
use Rattle.ic_disk.specs.declared.disk.Disk as disk
use Rattle.ic_disk.specs.declared.sink.Sink as sink
use Rattle.ic_plan.specs.declared.run_texts.RunTexts.{RunTexts}
use Rattle.ic_run.specs.Completing.{IsOfLimit, NothingFails}
use Rattle.ic_run.specs.Whys.{why_of_world}
use Rattle.ic_run.specs.declared.opening.Opening.TheVariants.{Anew}
use Rattle.ic_threads.specs.Runs.{LivesAs}

module _ {D : Type 0} (b : disk.Ghosts D) {K : Type 0} (k : sink.Ghosts K) (r : RunTexts) (disks now : List D) (before after : K) where
  -- it ended since the next event of a component, or of the serial phase, would pass a limit
  pub record EndsAtLimit (status : ℕ) : Type 0 where
    pub lives : LivesAs b k r disks now before after status
    pub why : WorldRefused
    pub is : lives.result ≡ Err (why_of_world r.fingerprint why)
    pub limit : IsOfLimit why

  -- where nothing fails over blank disks all is done, unless memory is wanting or a limit is reached
  abbrev pub Completes : ℕ → Type 0
  Completes status = NothingFails b k r.program r.fingerprint Anew disks now before after → (status ≡ 0) ⊎ ((status ≡ 12) ⊎ EndsAtLimit status)
