-- What a crash leaves of a component while nothing is done.
use Rattle.std.proofs.Common.{◌≡◌, refl, sym, ap, subst, inl, inr, ℕ, true, List, Some}
use Rattle.std.specs.Prelude.{Result, Ok, Err, is_ok}
use Rattle.ic_base.specs.declared.record.Record.{Record}
use Rattle.def_log.specs.Images.{LeavesJust}
use Rattle.def_log.specs.Log.{log_of}
use Rattle.def_log.proofs.Moments.{started}
use Rattle.def_run.specs.CoreSteps.{forced_of}
use Rattle.ic_disk.specs.Disk.{CrashLeaves}
use Rattle.ic_disk.specs.TornDisks.{Torn}
use Rattle.ic_disk.specs.TornLaws.{may_none}
use Rattle.ic_disk.specs.declared.disk.Disk.{Ghosts}
use Rattle.ic_gate.specs.RecordFiles.{IsBeforeOrBehind}
use Rattle.ic_node.specs.Meeting.{left_disk}
use Rattle.ic_node.specs.Nodes.{node_with, disk_in, read_of, told_of}
use Rattle.ic_node.specs.Standing.{log_in, keeps_of, leave_of, read_or_none}
use Rattle.ic_disk.specs.Torns.{torn}
use Rattle.ic_node.specs.declared.node.Node.{Node}
use Rattle.ic_node.specs.declared.node.Node.TheVariants.{Per, Tra, Off, Ext}

pub read_is : (r : Result (List Record) ℕ) (rs : List Record) → is_ok r ≡ true → read_or_none r ≡ rs → r ≡ Ok rs
read_is (Ok xs) rs ok is = ap (λ (l : List Record). Ok l) is
read_is (Err place) rs ok is = cc

module _ {D : Type 0} (b : Ghosts D) (only_now : (disk : D) (image : List ℕ) → b.keeps disk → b.left_since disk (b.moment disk) image → b.may_leave disk image) (tells : (disk : D) → b.keeps disk → b.tells disk) where
  -- the records are there
  pub disk_rests : (x : Torn D) (rs added : List Record) → ((torn b).keeps x → LeavesJust ((torn b).may_leave x) ((torn b).seen x)) → (b.tells x.inner → is_ok (log_of ((torn b).seen x)) ≡ true) → (b.tells x.inner → read_or_none (log_of ((torn b).seen x)) ≡ rs)
      → CrashLeaves (torn b) x x (IsBeforeOrBehind ((torn b).seen x) rs added)
  disk_rests x rs added just whole on_disk =
      let P : List ℕ → Type 0 = IsBeforeOrBehind ((torn b).seen x) rs added in
      let there : b.keeps x.inner → P ((torn b).seen x) = λ keeps. (record { fingerprint = refl; owner = refl }, inl (read_is (log_of ((torn b).seen x)) rs (whole (tells x.inner keeps)) (on_disk (tells x.inner keeps)))) in
      let leaves : b.keeps x.inner → (image : List ℕ) → (torn b).may_leave x image → P image = λ keeps image may. subst P (sym (just keeps image may)) (there keeps) in
      record {
        any_moment = λ keeps. started (torn b).moment (torn b).left_since x P (λ image left. leaves keeps image (inr (image, only_now x.inner image keeps left, may_none x.held image)));
        behind = leaves;
      }

  -- those of a component
  pub rests : (node : Node (Torn D) (torn b)) (kept added : List Record) → (keeps_of (torn b) (disk_in node) → LeavesJust (leave_of (torn b) (disk_in node)) (read_of (torn b) (disk_in node)))
      → (told_of (torn b) (disk_in node) → is_ok (log_in (torn b) node) ≡ true) → (told_of (torn b) (disk_in node) → read_or_none (log_in (torn b) node) ≡ forced_of (Some (node_with kept node)))
      → left_disk (torn b) (disk_in node) (disk_in node) (IsBeforeOrBehind (read_of (torn b) (disk_in node)) (forced_of (Some (node_with kept node))) added)
  rests (Per p) kept added just whole on_disk = disk_rests _ _ added just whole on_disk
  rests (Tra t) kept added just whole on_disk = disk_rests _ _ added just whole on_disk
  rests (Off disk) kept added just whole on_disk = disk_rests disk kept added just whole on_disk
  rests Ext kept added just whole on_disk = tt
