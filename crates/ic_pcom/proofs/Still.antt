-- A component to which nothing is done.
use Rattle.std.proofs.Common.{◌≡◌, ◌∙◌, sym, ap, refl, ℕ, true, false, List, [], Some}
use Rattle.std.proofs.Math.Seq.{drop-length}
use Rattle.ic_base.specs.declared.record.Record.{Record}
use Rattle.ic_base.specs.declared.scenario.Program.{Program}
use Rattle.def_step.specs.Pcom as step
use Rattle.def_step.specs.Pcom.{Call}
use Rattle.ic_disk.proofs.Disks.{Keeps-refl, makes_none, makes_same}
use Rattle.ic_disk.specs.Disk.{Makes, CrashLeaves}
use Rattle.ic_disk.specs.declared.disk.Disk.{Ghosts}
use Rattle.ic_gate.specs.Calls.{gated_calls}
use Rattle.ic_gate.specs.RecordCalls.{record_writes}
use Rattle.ic_gate.proofs.LogSizes.{size_walks, size_agrees, walk_stands, used_stands}
use Rattle.ic_gate.proofs.RecordCrashes.{nothing_done_from}
use Rattle.ic_pcom.specs.Stepping.{forced_by, step_of, batch_of, calls_of, KeepsLog, IsUnmoved, IsBeforeOrStepped}
use Rattle.ic_pcom.specs.Views.{component_of, disk_of, start_of, size_of, used_of, is_closed}
use Rattle.ic_pcom.specs.declared.pcom.Pcom.{Pcom}

module _ {D : Type 0} {d : Ghosts D} (p : Pcom D d) where
  pub unmoved : is_closed p ≡ false → IsUnmoved p p
  unmoved opened = record { same = refl; size = refl; played = refl; bytes = λ told. refl; is_open = opened }

  pub keeps_log : is_closed p ≡ false → KeepsLog p p
  keeps_log opened =
      let up = p.opened opened in
      record {
        same = refl;
        start = refl;
        disk = Keeps-refl (disk_of p);
        sized = λ told. size_walks p.log told up;
        of_file = λ told. size_agrees p.log told up;
        listed = λ told. used_stands p.log told up;
        stood = λ told. walk_stands p.log told up;
        log = λ told is. record { walk = walk_stands p.log told up; whole = λ front e. e };
        whose = λ told is. record { fingerprint = refl; owner = refl };
        still = λ told is same. refl;
      }

  -- a crash leaves it as it is
  pub leaves_still : (program : Program) (call : Call) → is_closed p ≡ false
      → ((disk : D) (image : List ℕ) → d.keeps disk → d.left_since disk (d.moment disk) image → d.may_leave disk image)
      → ((disk : D) → d.keeps disk → d.tells disk)
      → CrashLeaves d (disk_of p) (disk_of p) (IsBeforeOrStepped program p call)
  leaves_still program call opened only_now tells =
      nothing_done_from (start_of p) (disk_of p) (component_of p).log.forced (batch_of program p call) only_now tells (λ keeps. p.durable keeps opened) (λ told. walk_stands p.log told (p.opened opened))

  pub calls_none : (program : Program) (call : Call) (failed : Type 0) → Makes d (calls_of program p call) false failed (disk_of p) (disk_of p)
  calls_none program call failed = makes_none (disk_of p) (calls_of program p call) false failed (λ is. cc)

  pub idle_batch : (program : Program) (call : Call) → step_of program p call ≡ Some (step.told (component_of p) [] step.nothing_at_all) → batch_of program p call ≡ []
  idle_batch program call makes = ap (forced_by (component_of p)) makes ∙ drop-length (component_of p).log.forced

  pub idle_calls : (program : Program) (call : Call) (failed : Type 0) → step_of program p call ≡ Some (step.told (component_of p) [] step.nothing_at_all) → Makes d (calls_of program p call) true failed (disk_of p) (disk_of p)
  idle_calls program call failed makes =
      let none : batch_of program p call ≡ [] = idle_batch program call makes in
      makes_same (ap (λ (b : List Record). gated_calls (record_writes (size_of p) (used_of p) b)) (sym none)) (makes_none (disk_of p) [] true failed (λ is. refl))
