-- Where nothing goes wrong in a call, a run with a standby does all that was to be done, or it reaches a limit.
use Rattle.std.specs.Prelude.{◌≡◌, ◌⊎◌, ℕ, List}
use Rattle.ic_disk.specs.declared.disk.Disk as disk
use Rattle.ic_disk.specs.declared.sink.Sink as sink
use Rattle.ic_failover.specs.Runs.{EndsRefused}
use Rattle.ic_failover.specs.declared.texts.FailoverTexts.{FailoverTexts}
use Rattle.ic_run.specs.Completing.{IsOfLimit, NothingFails}
use Rattle.ic_run.specs.declared.opening.Opening.TheVariants.{Anew}

module _ {D : Type 0} (b : disk.Ghosts D) {K : Type 0} (k : sink.Ghosts K) (tool : List ℕ) (r : FailoverTexts) (disks now : List D) (before after : K) where
  -- where nothing fails over blank disks all is done, unless memory is wanting or the event that was next would pass a limit
  abbrev pub Completes : ℕ → Type 0
  Completes status = NothingFails b k r.program r.fingerprint Anew disks now before after → (status ≡ 0) ⊎ ((status ≡ 12) ⊎ ((e : EndsRefused b k tool r disks now before after status) × IsOfLimit e.why))
