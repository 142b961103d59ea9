-- What a crash leaves while nothing is forced.
use Rattle.std.proofs.Common.{◌≡◌, sym, refl, subst, inl, ℕ, List}
use Rattle.std.specs.Prelude.{Ok}
use Rattle.ic_base.specs.declared.record.Record.{Record}
use Rattle.def_log.specs.Images.{LeavesJust}
use Rattle.def_log.specs.Log.{log_of}
use Rattle.def_log.proofs.Moments.{started}
use Rattle.ic_disk.specs.Disk.{CrashLeaves}
use Rattle.ic_disk.specs.declared.disk.Disk.{Ghosts}
use Rattle.ic_disk.proofs.Disks.{crash_weaker}
use Rattle.ic_gate.specs.RecordFiles.{records_from, IsBeforeOrBehind, IsBeforeOrBehindFrom}

module _ {D : Type 0} {d : Ghosts D} where
  -- what a crash might leave before is the log as it was
  pub only_before : (old new : D) (fs added : List Record)
      → ((disk : D) → d.keeps disk → d.tells disk)
      → (d.keeps old → LeavesJust (d.may_leave old) (d.seen old))
      → (d.tells old → log_of (d.seen old) ≡ Ok fs)
      → CrashLeaves d old new (d.may_leave old) → CrashLeaves d old new (IsBeforeOrBehind (d.seen old) fs added)
  only_before old new fs added tells just is left =
      let P : List ℕ → Type 0 = IsBeforeOrBehind (d.seen old) fs added in
      crash_weaker (λ keeps image may. subst P (sym (just keeps image may)) (record { fingerprint = refl; owner = refl }, inl (is (tells old keeps)))) left

  -- where nothing is done, that is all
  pub nothing_done : (disk : D) (fs added : List Record)
      → ((disk : D) (image : List ℕ) → d.keeps disk → d.left_since disk (d.moment disk) image → d.may_leave disk image)
      → ((disk : D) → d.keeps disk → d.tells disk)
      → (d.keeps disk → LeavesJust (d.may_leave disk) (d.seen disk))
      → (d.tells disk → log_of (d.seen disk) ≡ Ok fs)
      → CrashLeaves d disk disk (IsBeforeOrBehind (d.seen disk) fs added)
  nothing_done disk fs added only_now tells just is =
      only_before disk disk fs added tells just is (record {
        any_moment = λ keeps. started d.moment d.left_since disk (d.may_leave disk) (λ image left. only_now disk image keeps left);
        behind = λ keeps image may. may;
      })

  -- and so from a gate on, whatever stands before it
  pub only_before_from : (start : ℕ) (old new : D) (fs added : List Record)
      → ((disk : D) → d.keeps disk → d.tells disk)
      → (d.keeps old → LeavesJust (d.may_leave old) (d.seen old))
      → (d.tells old → records_from start (d.seen old) ≡ Ok fs)
      → CrashLeaves d old new (d.may_leave old) → CrashLeaves d old new (IsBeforeOrBehindFrom start (d.seen old) fs added)
  only_before_from start old new fs added tells just is left =
      let P : List ℕ → Type 0 = IsBeforeOrBehindFrom start (d.seen old) fs added in
      crash_weaker (λ keeps image may. subst P (sym (just keeps image may)) (record { fingerprint = refl; owner = refl }, inl (record { walk = is (tells old keeps); whole = λ front e. e }))) left

  pub nothing_done_from : (start : ℕ) (disk : D) (fs added : List Record)
      → ((disk : D) (image : List ℕ) → d.keeps disk → d.left_since disk (d.moment disk) image → d.may_leave disk image)
      → ((disk : D) → d.keeps disk → d.tells disk)
      → (d.keeps disk → LeavesJust (d.may_leave disk) (d.seen disk))
      → (d.tells disk → records_from start (d.seen disk) ≡ Ok fs)
      → CrashLeaves d disk disk (IsBeforeOrBehindFrom start (d.seen disk) fs added)
  nothing_done_from start disk fs added only_now tells just is =
      only_before_from start disk disk fs added tells just is (record {
        any_moment = λ keeps. started d.moment d.left_since disk (d.may_leave disk) (λ image left. only_now disk image keeps left);
        behind = λ keeps image may. may;
      })
