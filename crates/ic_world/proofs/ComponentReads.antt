-- A component of the world that is read.
use Rattle.std.proofs.Common.{◌≡◌, ◌∙◌, sym, ap, refl, ℕ, zero, suc, ◌<◌, ◌≤◌, List, [], ◌∷◌, length, get_or, arith, Option, Some, None, option_map}
use Rattle.std.specs.Prelude.{slice_get, MatchOption}
use Rattle.ic_base.specs.declared.messages.ComId.{ComId}
use Rattle.def_step.specs.World.{node_at}
use Rattle.ic_disk.specs.declared.disk.Disk.{Ghosts}
use Rattle.ic_node.specs.Views.{node_of}
use Rattle.ic_node.specs.declared.component.Component.{Component}
use Rattle.ic_world.specs.Views.{components_of, world_of}
use Rattle.ic_world.specs.declared.world.World.{World}
use Rattle.ic_world.proofs.Lists.{get-map}

pub get-read : {X : Type 0} (xs : List X) (i : ℕ) (x : X) → i < length xs → x ≡ get_or xs i x → slice_get xs i ≡ Some x
get-read [] i x l e = absurd (omega arith)
get-read (y ∷ ys) zero x l e = ap (λ z. Some z) (sym e)
get-read (y ∷ ys) (suc i) x l e = get-read ys i x (omega arith) e

get-past : {X : Type 0} (xs : List X) (i : ℕ) → length xs ≤ i → slice_get xs i ≡ None
get-past [] i l = refl
get-past (x ∷ xs) zero l = absurd (omega arith)
get-past (x ∷ xs) (suc i) l = get-past xs i (omega arith)

pub none-past : {A : Type 0} (o : Option A) (P : Type 0) (Q : A → Type 0) → o ≡ None → MatchOption o P Q → P
none-past None P Q e m = m
none-past (Some x) P Q e m = absurd (cc)

module _ {D : Type 0} {d : Ghosts D} (w : World D d) (c : ComId) (xs : List (Component D d)) (i : ℕ) (all : xs ≡ components_of w) (place : i ≡ c.0) where
  pub there : (x : Component D d) → i < length xs → x ≡ get_or xs i x → node_at (world_of w) c ≡ Some (node_of x)
  there x l e = get-map (λ y. node_of y) (components_of w) c.0 ∙ ap (option_map (λ y. node_of y)) (ap (slice_get (components_of w)) (sym place) ∙ ap (λ ys. slice_get ys i) (sym all) ∙ get-read xs i x l e)

  pub nowhere : length xs ≤ i → node_at (world_of w) c ≡ None
  nowhere l = get-map (λ y. node_of y) (components_of w) c.0 ∙ ap (option_map (λ y. node_of y)) (ap (slice_get (components_of w)) (sym place) ∙ ap (λ ys. slice_get ys i) (sym all) ∙ get-past xs i l)
