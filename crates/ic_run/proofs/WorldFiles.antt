-- What the disks below the components of a world hold.
use Rattle.std.proofs.Common.{◌≡◌, ◌∙◌, sym, ap, refl, ℕ, Bool, true, false, length, Option, Some, None}
use Rattle.std.specs.Prelude.{slice_get, not, option_map, ◌||◌}
use Rattle.ic_base.specs.declared.messages.ComId.{ComId}
use Rattle.ic_base.specs.declared.messages.Kind.{Kind}
use Rattle.ic_base.specs.declared.messages.Kind.TheVariants as kinds
use Rattle.ic_base.specs.declared.scenario.Component.{Component as Declared}
use Rattle.ic_base.specs.declared.scenario.Program.{Program}
use Rattle.ic_base.specs.Programs.{declares, is_pcom, is_tcom}
use Rattle.def_run.specs.SystemStates.{SystemState, has_disk}
use Rattle.ic_disk.specs.TornDisks.{Torn}
use Rattle.ic_disk.specs.Torns.{torn}
use Rattle.ic_disk.specs.declared.disk.Disk.{Ghosts}
use Rattle.ic_node.specs.Nodes.{disk_in, node_with}
use Rattle.ic_node.specs.Views.{node_of, disk_of, file_of}
use Rattle.ic_node.specs.declared.component.Component.{Component}
use Rattle.ic_node.specs.declared.node.Node.{Node}
use Rattle.ic_node.specs.declared.node.Node.TheVariants.{Per, Tra, Off, Ext}
use Rattle.ic_world.specs.Allowing.{is_kept, IsMadeFor}
use Rattle.ic_world.specs.Opening.{is_outside, disks_under, files_on}
use Rattle.ic_world.specs.Views.{components_of, world_of, state_of, is_over}
use Rattle.ic_world.specs.declared.world.World.{World}
use Rattle.ic_world.proofs.InnerFiles.{inner-file}
use Rattle.ic_world.proofs.Lists.{get-map}
use Rattle.ic_run.proofs.Files.{FitsDisk, files-under}
use Rattle.ic_run.proofs.Under.{HasOwn}

kept-kind : (k : Kind) → not (is_outside k) ≡ (is_pcom k || is_tcom k)
kept-kind kinds.Pcom = refl
kept-kind kinds.Tcom = refl
kept-kind kinds.Xcom = refl

twice : (o : Bool) → o ≡ not (not o)
twice true = refl
twice false = refl

pub has-at : (program : Program) (c : ComId) (x : Declared) → slice_get program.components c.0 ≡ Some x → is_outside x.kind ≡ not (has_disk program c)
has-at program c x at =
    let kind : has_disk program c ≡ not (is_outside x.kind) = ap (λ (o : Option Declared). declares (λ z. is_pcom z.kind) o || declares (λ z. is_tcom z.kind) o) at ∙ sym (kept-kind x.kind) in
    twice (is_outside x.kind) ∙ ap not (sym kind)

module _ {D : Type 0} (b : Ghosts D) where
  -- a component has a disk just if it is no Xcom
  own-node : (x : Declared) (p : Component (Torn D) (torn b)) (node : Node (Torn D) (torn b)) → is_outside x.kind ≡ not (is_kept (Some (node_with p.kept node))) → HasOwn b x (disk_in node)
  own-node x p (Per pcom) e = e
  own-node x p (Tra tcom) e = e
  own-node x p (Off disk) e = e
  own-node x p Ext e = e

  module _ (program : Program) (w : World (Torn D) (torn b)) (made : IsMadeFor program (world_of w)) where
    pub own-made : (i : ℕ) (x : Declared) (p : Component (Torn D) (torn b)) → slice_get program.components i ≡ Some x → slice_get (components_of w) i ≡ Some p → HasOwn b x (disk_of p)
    own-made i x p at is =
        let c : ComId = record { 0 = i } in
        let node : slice_get (world_of w).nodes i ≡ Some (node_of p) = get-map (λ z. node_of z) (components_of w) i ∙ ap (option_map (λ z. node_of z)) is in
        own-node x p p.node (has-at program c x at ∙ ap not (sym (ap is_kept (sym node) ∙ made.kept c)))

    -- where the world goes on, they hold what it has
    pub files-below : length (components_of w) ≡ length program.components → is_over w ≡ false → (state_of w).files ≡ files_on b program (disks_under (components_of w))
    files-below count going = files-under b program.components (components_of w) count (λ i x p at is. fits x p (disk_of p) refl (own-made i x p at is) (λ t has. inner-file b w going i p t is has))
      where
        fits : (x : Declared) (p : Component (Torn D) (torn b)) (o : Option (Torn D)) → disk_of p ≡ o → HasOwn b x o → ((t : Torn D) → disk_of p ≡ Some t → b.seen t.inner ≡ file_of p) → FitsDisk b x p o
        fits x p None is own seen = own
        fits x p (Some t) is own seen = (own, seen t is)
