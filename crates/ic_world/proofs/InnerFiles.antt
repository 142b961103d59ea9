-- What the disks below those of components read.
use Rattle.std.proofs.Common.{◌≡◌, ◌∙◌, sym, ap, refl, ℕ, true, false, List, [], ◌∷◌, Some}
use Rattle.std.specs.Prelude.{◌&&◌, slice_get}
use Rattle.def_log.specs.Torn.{Write, all_written}
use Rattle.ic_disk.specs.TornDisks.{Torn, is_none_held}
use Rattle.ic_disk.specs.declared.disk.Disk.{Ghosts}
use Rattle.ic_node.specs.Nodes.{disk_in, read_of}
use Rattle.ic_node.specs.Standing.{is_settled}
use Rattle.ic_disk.specs.Torns.{torn}
use Rattle.ic_node.specs.Views.{disk_of, file_of}
use Rattle.ic_node.specs.declared.component.Component.{Component}
use Rattle.ic_node.specs.declared.node.Node.{Node}
use Rattle.ic_node.specs.declared.node.Node.TheVariants.{Per, Tra, Off, Ext}
use Rattle.ic_world.specs.Views.{components_of, is_over}
use Rattle.ic_world.specs.declared.world.World.{World}
use Rattle.ic_world.proofs.Places.{same-some}

module _ {D : Type 0} (b : Ghosts D) where
  pub settled-disk : (node : Node (Torn D) (torn b)) (disk : Torn D) → disk_in node ≡ Some disk → is_settled (torn b) node ≡ true → (torn b).settled disk ≡ true
  settled-disk (Per p) disk is e = ap (torn b).settled (sym (same-some _ disk is)) ∙ e
  settled-disk (Tra t) disk is e = ap (torn b).settled (sym (same-some _ disk is)) ∙ e
  settled-disk (Off d) disk is e = ap (torn b).settled (sym (same-some _ disk is)) ∙ e
  settled-disk Ext disk is e = absurd (cc)

  pub seen-below : (disk : Torn D) → (torn b).settled disk ≡ true → (torn b).seen disk ≡ b.seen disk.inner
  seen-below disk e = by disk.held e
    where
      by : (held : List Write) → (is_none_held held && b.settled disk.inner) ≡ true → all_written (b.seen disk.inner) held ≡ b.seen disk.inner
      by [] e = refl
      by (w ∷ held) e = absurd (cc)

  -- where a world goes on, each reads what the file of its component is
  pub inner-file : (w : World (Torn D) (torn b)) → is_over w ≡ false → (k : ℕ) (x : Component (Torn D) (torn b)) (disk : Torn D) → slice_get (components_of w) k ≡ Some x → disk_of x ≡ Some disk → b.seen disk.inner ≡ file_of x
  inner-file w going k x disk at has =
      let settled = settled-disk x.node disk has (x.settled ((w.placed going k x at).1)) in
      sym (ap (read_of (torn b)) has ∙ seen-below disk settled)
