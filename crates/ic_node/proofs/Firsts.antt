-- A component at the beginning of a run, over a log that was made just now.
use Rattle.std.proofs.Common.{◌≡◌, ◌∙◌, refl, sym, ap, subst, ℕ, true, false, List, [], length, Option, Some}
use Rattle.std.specs.Prelude.{Ok}
use Rattle.ic_base.specs.declared.events.Stop.{Stop}
use Rattle.ic_base.specs.declared.messages.ComId.{ComId}
use Rattle.ic_base.specs.declared.record.Record.{Record}
use Rattle.def_log.specs.Frame.{fingerprint_in, owner_in, fresh}
use Rattle.def_log.specs.Images.{LeavesJust}
use Rattle.def_log.specs.Log.{log_of}
use Rattle.def_run.specs.CoreSteps.{forced_of}
use Rattle.def_run.specs.SystemStates.{KeepsLog}
use Rattle.ic_disk.specs.Causes.{Rose}
use Rattle.ic_disk.specs.Disk.{Makes}
use Rattle.ic_disk.specs.TornDisks.{Torn}
use Rattle.ic_disk.specs.declared.disk.Disk.{Ghosts}
use Rattle.ic_gate.specs.Creating.{create_calls, RefusesToCreate}
use Rattle.law_marks.proofs.NewLogs.{fresh_print, fresh_owner, fresh_log}
use Rattle.ic_gate.specs.declared.refusals.LoadWhy.{LoadWhy}
use Rattle.ic_gate.specs.declared.refusals.LoadWhy.TheVariants.{Bad, Foreign, Failed, Stopped, Memory}
use Rattle.ic_node.specs.Beginning.{fails_to_start}
use Rattle.ic_node.specs.Nodes.{node_with, disk_in, read_of, told_of}
use Rattle.ic_node.specs.Standing.{works, is_settled, log_in, owner_on, keeps_of, leave_of}
use Rattle.ic_disk.specs.Torns.{file, torn, is_working}
use Rattle.ic_node.specs.declared.node.Node.{Node}
use Rattle.ic_node.specs.declared.node.Node.TheVariants.{Per, Tra, Off, Ext}
use Rattle.ic_disk.proofs.Armed.{IsArmed, never_reached, stopped_below}

-- a node over this disk is as the disk is ------------------------------------------------------------

pub same_disk : {D : Type 0} (x y : D) → ◌≡◌ {A = Option D} (Some x) (Some y) → x ≡ y
same_disk x y e = cc

module _ {D : Type 0} (d : Ghosts D) where
  pub node_works : (node : Node D d) (x : D) → disk_in node ≡ Some x → is_working d x ≡ true → works d node ≡ true
  node_works (Per p) x is e = ap (is_working d) (same_disk _ x is) ∙ e
  node_works (Tra t) x is e = ap (is_working d) (same_disk _ x is) ∙ e
  node_works (Off disk) x is e = ap (is_working d) (same_disk _ x is) ∙ e
  node_works Ext x is e = refl

  pub node_settles : (node : Node D d) (x : D) → disk_in node ≡ Some x → d.settled x ≡ true → is_settled d node ≡ true
  node_settles (Per p) x is e = ap d.settled (same_disk _ x is) ∙ e
  node_settles (Tra t) x is e = ap d.settled (same_disk _ x is) ∙ e
  node_settles (Off disk) x is e = ap d.settled (same_disk _ x is) ∙ e
  node_settles Ext x is e = refl

  pub node_log : (node : Node D d) (x : D) → disk_in node ≡ Some x → log_in d node ≡ log_of (d.seen x)
  node_log (Per p) x is = ap (λ y. log_of (d.seen y)) (same_disk _ x is)
  node_log (Tra t) x is = ap (λ y. log_of (d.seen y)) (same_disk _ x is)
  node_log (Off disk) x is = ap (λ y. log_of (d.seen y)) (same_disk _ x is)
  node_log Ext x is = absurd (cc)

  pub node_lasts : (o : Option D) (x : D) → o ≡ Some x → (d.keeps x → LeavesJust (d.may_leave x) (d.seen x)) → keeps_of d o → LeavesJust (leave_of d o) (read_of d o)
  node_lasts o x is just = subst (λ (p : Option D). keeps_of d p → LeavesJust (leave_of d p) (read_of d p)) (sym is) just

-- a component that is up over a log of no records
no_records : {D : Type 0} {d : Ghosts D} (print : List ℕ) (c : ComId) (file : List ℕ) (node : Node D d) → forced_of (Some (node_with [] node)) ≡ [] → fingerprint_in file ≡ print → owner_in file ≡ c.0 → log_of file ≡ Ok [] → KeepsLog print c file (Some (node_with [] node))
no_records print c file (Per p) none own owned reads = record { own = own; owned = owned; holds = reads ∙ ap (λ (l : List Record). Ok l) (sym none) }
no_records print c file (Tra t) none own owned reads = record { own = own; owned = owned; holds = reads ∙ ap (λ (l : List Record). Ok l) (sym none) }
no_records print c file (Off disk) none own owned reads = record { own = own; owned = owned; holds = reads ∙ ap (λ (l : List Record). Ok l) (sym none) }
no_records print c file Ext none own owned reads = tt

-- it is the log of the component of this number
pub starts_owned : {D : Type 0} (d : Ghosts D) (print : List ℕ) (c : ComId) (node : Node D d) (x : D) → length print ≡ 32 → disk_in node ≡ Some x → (d.tells x → d.seen x ≡ fresh print c.0) → told_of d (disk_in node) → owner_on d c.0 (disk_in node) ≡ c.0
starts_owned d print c node x long is made told = ap (owner_on d c.0) is ∙ ap owner_in (made (subst (told_of d) is told)) ∙ fresh_owner print c.0 long

-- its file is such a log
pub starts_fresh : {D : Type 0} (d : Ghosts D) (print : List ℕ) (c : ComId) (node : Node D d) (x : D) → disk_in node ≡ Some x → (d.tells x → d.seen x ≡ fresh print c.0) → told_of d (disk_in node) → read_of d (disk_in node) ≡ fresh print c.0
starts_fresh d print c node x is made told = ap (read_of d) is ∙ made (subst (told_of d) is told)

pub starts_log : {D : Type 0} (d : Ghosts D) (print : List ℕ) (c : ComId) (node : Node D d) (x : D) → length print ≡ 32 → disk_in node ≡ Some x → forced_of (Some (node_with [] node)) ≡ [] → (d.tells x → d.seen x ≡ fresh print c.0) → told_of d (disk_in node) → KeepsLog print c (read_of d (disk_in node)) (Some (node_with [] node))
starts_log d print c node x long is none made told =
    let rests : read_of d (disk_in node) ≡ fresh print c.0 = starts_fresh d print c node x is made told in
    no_records print c (read_of d (disk_in node)) node none (ap fingerprint_in rests ∙ fresh_print print c.0 long) (ap owner_in rests ∙ fresh_owner print c.0 long) (ap log_of rests ∙ fresh_log print c.0 long)

-- what its file reads as
pub reads_none : {D : Type 0} (d : Ghosts D) (print : List ℕ) (c : ComId) (node : Node D d) (x : D) → length print ≡ 32 → disk_in node ≡ Some x → (d.tells x → d.seen x ≡ fresh print c.0) → told_of d (disk_in node) → log_in d node ≡ Ok []
reads_none d print c node x long is made told =
    node_log d node x is ∙ ap log_of (made (subst (told_of d) is told)) ∙ fresh_log print c.0 long

-- why no log is made, where its stop is never reached
pub not_made : {D : Type 0} (b : Ghosts D) (print : List ℕ) (c : ComId) (never : Stop) (old armed new : Torn D) (why : LoadWhy) (failed : Type 0) → IsArmed b never old armed → never.call ≡ 0 → RefusesToCreate (torn b) armed new why → Makes (torn b) (create_calls print c.0) false failed armed new → fails_to_start b old new why
not_made b print c never old armed new (Bad place) failed is none refused made = absurd refused
not_made b print c never old armed new (Foreign kept) failed is none refused made = absurd refused
not_made b print c never old armed new Failed failed is none refused made = subst (λ (x : Torn _). Rose (b.faults x.inner) (b.faults new.inner)) is.set refused
not_made b print c never old armed new Stopped failed is none refused made = stopped_below b new (never_reached b (b.tells armed.inner) failed (create_calls print c.0) never old armed new is none (file b new) made.stop) refused
not_made b print c never old armed new Memory failed is none refused made = tt
