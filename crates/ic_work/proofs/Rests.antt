-- What a crash leaves of a component while nothing is done.
use Rattle.std.proofs.Common.{◌≡◌, false, arith, List, ℕ, Option, Some, None}
use Rattle.ic_base.specs.declared.record.Record.{Record}
use Rattle.ic_disk.specs.TornDisks.{Torn}
use Rattle.ic_disk.specs.declared.disk.Disk.{Ghosts}
use Rattle.ic_node.specs.Meeting.{CrashAdds, kept_disk}
use Rattle.ic_disk.specs.Torns.{torn}
use Rattle.ic_node.specs.Views.{is_over}
use Rattle.ic_node.specs.declared.component.Component.{Component}
use Rattle.ic_node.proofs.Resting.{rests}

pub kept-itself : {D : Type 0} (d : Ghosts D) (o : Option D) → kept_disk d o o
kept-itself d None = tt
kept-itself d (Some disk) = record { tells = (λ t. t, λ t. t); keeps = (λ t. t, λ t. t); later = omega arith }

module _ {D : Type 0} (b : Ghosts D) (only_now : (disk : D) (image : List ℕ) → b.keeps disk → b.left_since disk (b.moment disk) image → b.may_leave disk image) (tells : (disk : D) → b.keeps disk → b.tells disk) where
  pub component-rests : (x : Component (Torn D) (torn b)) (added : List Record) → is_over x ≡ false → CrashAdds added x x
  component-rests x added going = rests b only_now tells x.node x.kept added (x.durable going) (x.whole going) (x.on_disk going)
