-- Where nothing goes wrong in a call, a run of moves does all that was to be done, or it reaches a limit.
use Rattle.std.specs.Prelude.{◌≡◌, ◌⊎◌, ⊤, ℕ, List, Some, None, slice_get}
use Rattle.def_two.specs.declared.script.TwoRefused.{TwoRefused}
use Rattle.def_two.specs.declared.script.TwoRefused.TheVariants as refused
use Rattle.def_two.specs.Refusals.{first_not_blank}
use Rattle.def_two.specs.Script.{TheScript}
use Rattle.ic_disk.specs.Causes.{Rose}
use Rattle.ic_disk.specs.declared.disk.Disk as disk
use Rattle.ic_disk.specs.declared.sink.Sink as sink
use Rattle.ic_two_world.specs.Opening.{HasFailed, files_on}
use Rattle.ic_more.specs.Ends.{EndsWith}
use Rattle.ic_more.specs.Runs.{AreSound, WentNoFurther}
use Rattle.ic_more.specs.declared.ending.Why2.{Why2}

-- a limit is reached: of packets or of a log
abbrev pub IsOfLimit : TwoRefused → Type 0
IsOfLimit refused.Packets = ⊤
IsOfLimit (refused.LogFull c) = ⊤
IsOfLimit why = ⊥

module _ {D : Type 0} (b : disk.Ghosts D) {K : Type 0} (k : sink.Ghosts K) (s : TheScript) (print : List ℕ) (disks now : List D) (before after : K) where
  -- the disks tell their bytes, keep the disk model and are blank; no disk and no output failed in the call
  pub record NothingFails : Type 0 where
    pub sound : AreSound b disks
    pub blank : first_not_blank 0 (files_on b disks) ≡ None
    pub working : (c : ℕ) (old new : D) → slice_get disks c ≡ Some old → slice_get now c ≡ Some new → HasFailed b old new → ⊥
    pub output : Rose (k.faults before) (k.faults after) → ⊥

  -- it ended since the event that was next would pass a limit
  pub record EndsAtLimit (status : ℕ) : Type 0 where
    pub why : Why2
    pub short : WentNoFurther b s print disks now why
    pub limit : IsOfLimit short.step
    pub ends : EndsWith k (Some s) why before after status

  -- where nothing fails all is done, unless memory is wanting or a limit is reached
  abbrev pub Completes : ℕ → Type 0
  Completes status = NothingFails → (status ≡ 0) ⊎ ((status ≡ 12) ⊎ EndsAtLimit status)
