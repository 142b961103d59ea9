-- A component lies down over the disk that was loaded.
use Rattle.std.proofs.Common.{◌≡◌, ◌∙◌, sym, ap, subst, inl, inr, ℕ, false, List, Option, Some}
use Rattle.std.specs.Prelude.{is_ok}
use Rattle.ic_base.specs.declared.record.Record.{Record}
use Rattle.def_log.specs.Frame.{fingerprint_in, IsForeign, owner_in}
use Rattle.def_log.specs.Loads.{placed_log_for}
use Rattle.def_log.specs.Log.{log_of}
use Rattle.ic_disk.specs.Disk.{Keeps, CrashLeaves}
use Rattle.ic_disk.specs.TornDisks.{Torn}
use Rattle.ic_disk.specs.declared.disk.Disk.{Ghosts}
use Rattle.ic_gate.specs.declared.refusals.LoadWhy.{LoadWhy}
use Rattle.ic_gate.specs.declared.refusals.LoadWhy.TheVariants as whys
use Rattle.ic_node.specs.Cutting.{LiesDown, FailsToLieDown}
use Rattle.ic_node.specs.Faults.{has_fault}
use Rattle.ic_node.specs.Loading.{IsLoaded, fails_to_load, refusal_of}
use Rattle.ic_node.specs.Meeting.{kept_disk, left_disk, rests_on}
use Rattle.ic_node.specs.Nodes.{node_with, disk_in, read_of, told_of}
use Rattle.ic_node.specs.Standing.{leave_of, read_or_none}
use Rattle.ic_disk.specs.Torns.{torn}
use Rattle.ic_node.specs.Views.{disk_of, com_of, is_over}
use Rattle.ic_node.specs.declared.component.Component.{Component}
use Rattle.ic_node.specs.declared.node.Node.TheVariants.{Off}
use Rattle.ic_node.proofs.Lying.{Stands}

-- disks that are there
module _ {D : Type 0} (d : Ghosts D) (x y : D) where
  pub kept_so : (o n : Option D) → o ≡ Some x → n ≡ Some y → Keeps d x y → kept_disk d o n
  kept_so o n was now kept = subst (λ (p : Option D). kept_disk d p n) (sym was) (subst (λ (p : Option D). kept_disk d (Some x) p) (sym now) kept)

  pub left_so : (o n : Option D) (P : List ℕ → Type 0) → o ≡ Some x → n ≡ Some y → CrashLeaves d x y P → left_disk d o n P
  left_so o n P was now left = subst (λ (p : Option D). left_disk d p n P) (sym was) (subst (λ (p : Option D). left_disk d (Some x) p P) (sym now) left)

  -- behind which a crash leaves no more than before
  pub left_more : (o n : Option D) → o ≡ Some x → n ≡ Some y → CrashLeaves d x y (d.may_leave x) → left_disk d o n (leave_of d o)
  left_more o n was now left = subst (λ (p : Option D). left_disk d p n (leave_of d p)) (sym was) (subst (λ (p : Option D). left_disk d (Some x) p (d.may_leave x)) (sym now) left)

module _ {D : Type 0} (b : Ghosts D) where
  -- what was loaded stands
  pub loaded_stands : (old : Torn D) (given : List ℕ) (owner : ℕ) (loaded : Torn D) (kept : List Record) → Keeps (torn b) old loaded → IsLoaded b old given owner (loaded, kept) → Stands (torn b) owner (Off loaded) kept
  loaded_stands old given owner loaded kept keeps is = record {
    working = is.works;
    on_disk = λ told. ap (λ f. read_or_none (log_of f)) (is.bytes (keeps.tells.1 told)) ∙ ap read_or_none (is.read (keeps.tells.1 told));
    whole = λ told. ap (λ f. is_ok (log_of f)) (is.bytes (keeps.tells.1 told)) ∙ ap is_ok (is.read (keeps.tells.1 told));
    owned = λ told. ap owner_in (is.bytes (keeps.tells.1 told)) ∙ is.owned (keeps.tells.1 told);
    durable = is.durable;
    settled = is.settled;
  }

  module _ (old new : Component (Torn D) (torn b)) (x : Torn D) (was : disk_of old ≡ Some x) where
    pub lies_so : (given : List ℕ) (loaded : Torn D) → new.node ≡ Off loaded → com_of new ≡ com_of old → is_over new ≡ false → IsLoaded b x given (com_of old).0 (loaded, new.kept) → LiesDown b given old new
    lies_so given loaded off same going is = record {
      down = ap (node_with new.kept) off;
      read = λ told. ap (λ o. log_of (read_of (torn b) o)) was ∙ is.read (subst (told_of (torn b)) was told);
      bytes = λ told. ap (λ n. read_of (torn b) (disk_in n)) off ∙ is.bytes (subst (told_of (torn b)) was told) ∙ sym (ap (read_of (torn b)) was);
      own = λ told. ap (λ o. fingerprint_in (read_of (torn b) o)) was ∙ is.own (subst (told_of (torn b)) was told);
      owned = λ told. ap (λ o. owner_in (read_of (torn b) o)) was ∙ is.owned (subst (told_of (torn b)) was told);
      same = same;
      going = going;
    }

  module _ (old : Component (Torn D) (torn b)) (new : Option (Torn D)) (x : Torn D) (was : disk_of old ≡ Some x) where
    pub fails_so : (given : List ℕ) (y : Torn D) (why : LoadWhy) → new ≡ Some y → fails_to_load b x given (com_of old).0 y why → FailsToLieDown b given old new (refusal_of why)
    fails_so given y (whys.Bad place) now bad = λ told. ap (λ o. placed_log_for (com_of old).0 (read_of (torn b) o)) was ∙ (bad (subst (told_of (torn b)) was told)).0
    fails_so given y (whys.Foreign kept) now foreign = λ told. subst (λ (l : List ℕ). IsForeign given l kept) (sym (ap (read_of (torn b)) was)) (foreign (subst (told_of (torn b)) was told))
    fails_so given y whys.Failed now rose = subst (λ (o : Option (Torn D)). has_fault b o new) (sym was) (subst (λ (o : Option (Torn D)). has_fault b (Some x) o) (sym now) (inl rose))
    fails_so given y whys.Stopped now below = subst (λ (o : Option (Torn D)). has_fault b o new) (sym was) (subst (λ (o : Option (Torn D)). has_fault b (Some x) o) (sym now) (inr below))
    fails_so given y whys.Memory now rests = subst (rests_on (torn b)) (sym now) rests
