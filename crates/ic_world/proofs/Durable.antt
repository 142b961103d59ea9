-- What a crash leaves of the disks of a world that goes on.
use Rattle.std.proofs.Common.{◌≡◌, subst, false, Option, Some}
use Rattle.std.specs.Prelude.{Result, Ok, Err, IfOk}
use Rattle.ic_base.specs.declared.events.Event.{Event}
use Rattle.ic_base.specs.declared.events.Trace.{Trace}
use Rattle.ic_base.specs.declared.refusals.WorldRefused.{WorldRefused}
use Rattle.ic_base.specs.declared.scenario.Program.{Program}
use Rattle.def_log.specs.Images.{LeavesJust}
use Rattle.ic_disk.specs.declared.disk.Disk.{Ghosts}
use Rattle.ic_node.specs.Nodes.{read_of}
use Rattle.ic_node.specs.Standing.{keeps_of, leave_of}
use Rattle.ic_node.specs.Views as nodes
use Rattle.ic_node.specs.Views.{disk_of}
use Rattle.ic_node.specs.declared.component.Component.{Component}
use Rattle.ic_world.specs.Stepping.{Steps, CrashLeavesFiles}
use Rattle.ic_world.specs.Views.{is_over}
use Rattle.ic_world.specs.declared.world.World.{World}

module _ {D : Type 0} {d : Ghosts D} where
  pub disk-durable : (x : Component D d) (disk : D) → nodes.is_over x ≡ false → disk_of x ≡ Some disk → d.keeps disk → LeavesJust (d.may_leave disk) (d.seen disk)
  disk-durable x disk going has keeps =
      let P : Option D → Type 0 = λ o. keeps_of d o → LeavesJust (leave_of d o) (read_of d o) in
      subst P has (x.durable going) keeps

  pub files-durable : (w : World D d) → is_over w ≡ false → CrashLeavesFiles w
  files-durable w going k x disk at has keeps = disk-durable x disk ((w.placed going k x at).1) has keeps

  pub steps-durable : (program : Program) (old new : World D d) (e : Event) (r : Result Trace WorldRefused) → IfOk r (Steps program old e new) → IfOk r (λ t. CrashLeavesFiles new)
  steps-durable program old new e (Ok t) s = files-durable new s.going
  steps-durable program old new e (Err why) s = tt
