-- The disk of a component that goes down stands as it did.
use Rattle.std.proofs.Common.{◌≡◌, refl, sym, subst, ℕ, true, List, Option, Some}
use Rattle.std.specs.Prelude.{is_ok}
use Rattle.ic_base.specs.declared.record.Record.{Record}
use Rattle.def_log.specs.Images.{LeavesJust}
use Rattle.def_run.specs.CoreSteps.{forced_of}
use Rattle.ic_disk.specs.declared.disk.Disk.{Ghosts}
use Rattle.ic_node.specs.Nodes.{node_with, disk_in, read_of, told_of}
use Rattle.ic_node.specs.Standing.{works, is_settled, log_in, owner_on, keeps_of, leave_of, read_or_none}
use Rattle.ic_node.specs.declared.node.Node.{Node}
use Rattle.ic_node.specs.declared.node.Node.TheVariants.{Per, Tra, Off, Ext}

-- what holds of the node of the component of this number between events, beside what its kind alone says
pub record Stands {D : Type 0} (d : Ghosts D) (owner : ℕ) (node : Node D d) (kept : List Record) : Type 0 where
  pub working : works d node ≡ true
  pub on_disk : told_of d (disk_in node) → read_or_none (log_in d node) ≡ forced_of (Some (node_with kept node))
  pub whole : told_of d (disk_in node) → is_ok (log_in d node) ≡ true
  pub owned : told_of d (disk_in node) → owner_on d owner (disk_in node) ≡ owner
  pub durable : keeps_of d (disk_in node) → LeavesJust (leave_of d (disk_in node)) (read_of d (disk_in node))
  pub settled : is_settled d node ≡ true

module _ {D : Type 0} (d : Ghosts D) (owner : ℕ) where
  by_disk : (x disk : D) (fs left : List Record) → ◌≡◌ {A = Option D} (Some x) (Some disk) → left ≡ fs → Stands d owner (Off x) fs → Stands d owner (Off disk) left
  by_disk x disk fs left e f s =
      let one : x ≡ disk = cc in
      subst (λ (y : D). Stands d owner (Off y) left) one (subst (λ (l : List Record). Stands d owner (Off x) l) (sym f) s)

  -- its disk alone stands so too, with its forced records
  pub disk_stands : (node : Node D d) (kept : List Record) (disk : D) (left : List Record) → disk_in node ≡ Some disk → left ≡ forced_of (Some (node_with kept node)) → Stands d owner node kept → Stands d owner (Off disk) left
  disk_stands (Per p) kept disk left e f s = by_disk _ disk _ left e f (record { working = s.working; on_disk = s.on_disk; whole = s.whole; owned = s.owned; durable = s.durable; settled = s.settled })
  disk_stands (Tra t) kept disk left e f s = by_disk _ disk _ left e f (record { working = s.working; on_disk = s.on_disk; whole = s.whole; owned = s.owned; durable = s.durable; settled = s.settled })
  disk_stands (Off x) kept disk left e f s = by_disk x disk kept left e f s
  disk_stands Ext kept disk left e f s = absurd (cc)

  -- the same of a node that is this one
  pub same_stands : (node other : Node D d) (kept : List Record) → other ≡ node → Stands d owner node kept → Stands d owner other kept
  same_stands node other kept is stands = subst (λ (n : Node D d). Stands d owner n kept) (sym is) stands

  -- what has no disk stands
  pub none_stands : (kept : List Record) → Stands d owner Ext kept
  none_stands kept = record { working = refl; on_disk = λ told. refl; whole = λ told. refl; owned = λ told. refl; durable = λ keeps image may. absurd may; settled = refl }
