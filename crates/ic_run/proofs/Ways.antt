-- What a crash leaves on the way of a run, one event further.
use Rattle.std.proofs.Common.{◌≡◌, ◌∙◌, sym, ap, subst, ◌⊎◌, inl, inr, ℕ, List, [], ◌∷◌, ◌++◌, append_assoc, Option, Some, None, option_map}
use Rattle.std.specs.Prelude.{Ok, slice_get, unwrap_or}
use Rattle.std.proofs.lemmas.List.{append-nil}
use Rattle.ic_base.specs.declared.messages.ComId.{ComId}
use Rattle.ic_base.specs.declared.events.What.{What}
use Rattle.ic_base.specs.declared.record.Record.{Record}
use Rattle.ic_base.specs.declared.scenario.Program.{Program}
use Rattle.def_log.specs.Log.{log_of}
use Rattle.def_run.specs.CoreSteps.{forced_of}
use Rattle.def_run.specs.SystemStates.{SystemState, Transition, last_state, file_of}
use Rattle.def_step.specs.World.{node_at}
use Rattle.ic_disk.specs.declared.disk.Disk.{Ghosts}
use Rattle.ic_disk.proofs.Disks.{Keeps-refl, Keeps-trans, crash_weaker, crash_then}
use Rattle.ic_run.specs.Running.{coming, added_by, IsOnWay}
use Rattle.ic_node.specs.Meeting.{kept_disk, left_disk}
use Rattle.ic_node.specs.Nodes.{told_of}
use Rattle.ic_node.specs.Views as nodes
use Rattle.ic_node.specs.Views.{node_of}
use Rattle.ic_node.specs.declared.component.Component.{Component}
use Rattle.ic_gate.specs.RecordFiles.{IsBeforeOrBehind}
use Rattle.ic_world.proofs.Lists.{get-map}
use Rattle.ic_world.specs.Stepping.{adds_at}
use Rattle.ic_world.specs.Views.{components_of, world_of, state_of}
use Rattle.ic_world.specs.declared.world.World.{World}

-- where nothing is added, whatever would be added makes no difference
pub none-added : (old : List ℕ) (records added : List Record) (image : List ℕ) → IsBeforeOrBehind old records [] image → IsBeforeOrBehind old records added image
none-added old records added image h = (h.0, by h.1)
  where
    by : (log_of image ≡ Ok records) ⊎ (log_of image ≡ Ok (records ++ [])) → (log_of image ≡ Ok records) ⊎ (log_of image ≡ Ok (records ++ added))
    by (inl is) = inl is
    by (inr is) = inl (is ∙ ap (λ rs. Ok rs) (append-nil records))

module _ (program : Program) (p : SystemState) (vs : List Transition) (c : ComId) (image : List ℕ) where
  -- an event is tried
  pub way-further : (what : What) → IsOnWay program p vs None c image → IsOnWay program p vs (Some what) c image
  way-further what h = record { front = h.front; back = h.back; is = h.is; reads = by h.back h.reads }
    where
      s : SystemState
      s = last_state p h.front

      by : (back : List Transition) → IsBeforeOrBehind (file_of s c) (forced_of (node_at s.world c)) (added_by program s c (coming back None)) image → IsBeforeOrBehind (file_of s c) (forced_of (node_at s.world c)) (added_by program s c (coming back (Some what))) image
      by [] r = none-added (file_of s c) (forced_of (node_at s.world c)) (adds_at program s what c) image r
      by (v ∷ back) r = r

  -- and is done
  pub way-taken : (v : Transition) → IsOnWay program p vs (Some v.trace.event.what) c image → IsOnWay program p (vs ++ v ∷ []) None c image
  way-taken v h = record {
    front = h.front;
    back = h.back ++ v ∷ [];
    is = ap (λ (l : List Transition). l ++ v ∷ []) h.is ∙ append_assoc h.front h.back (v ∷ []);
    reads = by h.back h.reads;
  }
    where
      s : SystemState
      s = last_state p h.front

      by : (back : List Transition) → IsBeforeOrBehind (file_of s c) (forced_of (node_at s.world c)) (added_by program s c (coming back (Some v.trace.event.what))) image → IsBeforeOrBehind (file_of s c) (forced_of (node_at s.world c)) (added_by program s c (coming (back ++ v ∷ []) None)) image
      by [] r = r
      by (u ∷ back) r = r

-- disks that may be missing -----------------------------------------------------------------------

module _ {D : Type 0} (d : Ghosts D) where
  pub kept-then : (x y z : Option D) → kept_disk d x y → kept_disk d y z → kept_disk d x z
  kept-then None None None first second = tt
  kept-then (Some x) (Some y) (Some z) first second = Keeps-trans first second
  kept-then None None (Some z) first second = absurd second
  kept-then None (Some y) z first second = absurd first
  kept-then (Some x) None z first second = absurd first
  kept-then (Some x) (Some y) None first second = absurd second

  pub kept-same : (x : Option D) → kept_disk d x x
  kept-same None = tt
  kept-same (Some x) = Keeps-refl x

  pub told-behind : (x y : Option D) → kept_disk d x y → told_of d x → told_of d y
  told-behind None None kept told = tt
  told-behind (Some x) (Some y) kept told = kept.tells.0 told
  told-behind None (Some y) kept told = absurd kept
  told-behind (Some x) None kept told = absurd kept

  pub left-weaker : (x y : Option D) (P Q : List ℕ → Type 0) → ((image : List ℕ) → P image → Q image) → left_disk d x y P → left_disk d x y Q
  left-weaker None None P Q f l = tt
  left-weaker (Some x) (Some y) P Q f l = crash_weaker (λ keeps image h. f image h) l
  left-weaker None (Some y) P Q f l = absurd l
  left-weaker (Some x) None P Q f l = absurd l

  pub left-then : (x y z : Option D) (P : List ℕ → Type 0) → kept_disk d x y → left_disk d x y P → left_disk d y z P → left_disk d x z P
  left-then None None None P kept first second = tt
  left-then (Some x) (Some y) (Some z) P kept first second = crash_then kept first second
  left-then None None (Some z) P kept first second = absurd second
  left-then None (Some y) z P kept first second = absurd kept
  left-then (Some x) None z P kept first second = absurd kept
  left-then (Some x) (Some y) None P kept first second = absurd second

module _ {D : Type 0} {d : Ghosts D} (program : Program) (w : World D d) (c : ComId) (x : Component D d) (at : slice_get (components_of w) c.0 ≡ Some x) where
  node-is : node_at (world_of w) c ≡ Some (node_of x)
  node-is = get-map (λ y. node_of y) (components_of w) c.0 ∙ ap (option_map (λ y. node_of y)) at

  file-is : file_of (state_of w) c ≡ nodes.file_of x
  file-is = ap (λ o. unwrap_or o []) (get-map (λ y. nodes.file_of y) (components_of w) c.0 ∙ ap (option_map (λ y. nodes.file_of y)) at)

  -- what its component leaves is on the way to it
  pub way-at : (p : SystemState) (vs : List Transition) (tried : Option What) (image : List ℕ) → last_state p vs ≡ state_of w → IsBeforeOrBehind (nodes.file_of x) (forced_of (Some (node_of x))) (added_by program (state_of w) c tried) image → IsOnWay program p vs tried c image
  way-at p vs tried image ends h =
      let A : List ℕ → Type 0 = λ f. IsBeforeOrBehind f (forced_of (Some (node_of x))) (added_by program (state_of w) c tried) image in
      let B : List Record → Type 0 = λ rs. IsBeforeOrBehind (file_of (state_of w) c) rs (added_by program (state_of w) c tried) image in
      let C : SystemState → Type 0 = λ s. IsBeforeOrBehind (file_of s c) (forced_of (node_at s.world c)) (added_by program s c tried) image in
      record {
        front = vs;
        back = [];
        is = sym (append-nil vs);
        reads = subst C (sym ends) (subst B (sym (ap forced_of node-is)) (subst A (sym file-is) h));
      }
