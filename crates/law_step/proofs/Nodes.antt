-- The nodes and logs of a world in which one component has changed.
use Rattle.std.proofs.Common.{◌≡◌, refl, ◌∙◌, ap, sym, subst, ℕ, zero, suc, ◌==◌, Bool, true, false, List, [], ◌∷◌, map, length, slice_get, slice_set, Option, Some, option_map, unwrap_or, arith}
use Rattle.std.proofs.lemmas.Option.{slice_get-map, none-some}
use Rattle.ic_base.specs.declared.messages.ComId.{ComId}
use Rattle.ic_base.specs.declared.record.Record.{Record}
use Rattle.ic_base.specs.Programs.{same_com}
use Rattle.def_step.specs.World.{World, Node, Done, node_at, world_with}
use Rattle.def_facts.specs.Logs.{log_at}
use Rattle.law_step.proofs.Cross.{IsWith}
use Rattle.law_replay.proofs.Lists.{same-com}

-- what holds of one component and of each other one holds of all
pub each-com : (c : ComId) (P : ComId → Type 0) → P c → ((e : ComId) → same_com c e ≡ false → P e) → (e : ComId) → P e
each-com c P here there e = at (same_com c e) refl
  where
    at : (b : Bool) → same_com c e ≡ b → P e
    at true is = subst P (same-com c e is) here
    at false is = there e is

set-same : {A : Type 0} (xs : List A) (i : ℕ) (x y : A) → slice_get xs i ≡ Some y → slice_get (slice_set xs i x) i ≡ Some x
set-same [] i x y e = absurd (none-some y e)
set-same (z ∷ zs) zero x y e = refl
set-same (z ∷ zs) (suc i) x y e = set-same zs i x y e

set-other : {A : Type 0} (xs : List A) (i j : ℕ) (x : A) → (i == j) ≡ false → slice_get (slice_set xs i x) j ≡ slice_get xs j
set-other [] i j x e = refl
set-other (z ∷ zs) zero zero x e = absurd (cc)
set-other (z ∷ zs) zero (suc j) x e = refl
set-other (z ∷ zs) (suc i) zero x e = refl
set-other (z ∷ zs) (suc i) (suc j) x e = set-other zs i j x (down i j e)
  where
    down : (a b : ℕ) → (suc a == suc b) ≡ false → (a == b) ≡ false
    down a b f = grind (arith, f)

pub set-long : {A : Type 0} (xs : List A) (i : ℕ) (x : A) → length (slice_set xs i x) ≡ length xs
set-long [] i x = refl
set-long (z ∷ zs) zero x = refl
set-long (z ∷ zs) (suc i) x = ap suc (set-long zs i x)

pub map-long : {A B : Type 0} (f : A → B) (xs : List A) → length (map f xs) ≡ length xs
map-long f [] = refl
map-long f (x ∷ xs) = ap suc (map-long f xs)

-- a list of logs, made of the nodes
abbrev pub log_of : (Node → List Record) → Option Node → List Record
log_of f o = unwrap_or (option_map f o) []

pub log-is : (f : Node → List Record) (w : World) (c : ComId) → log_at (map f w.nodes) c ≡ log_of f (node_at w c)
log-is f w c = ap (λ o. unwrap_or o []) (slice_get-map f w.nodes c.0)

pub log-here : (f : Node → List Record) (w : World) (c : ComId) (node : Node) → node_at w c ≡ Some node → log_at (map f w.nodes) c ≡ f node
log-here f w c node is = log-is f w c ∙ ap (log_of f) is

pub node-same : (w : World) (c : ComId) (d : Done) (node : Node) → node_at w c ≡ Some node → node_at (world_with w c d) c ≡ Some d.node
node-same w c d node is = set-same w.nodes c.0 d.node node is

pub node-other : (w : World) (c e : ComId) (d : Done) → same_com c e ≡ false → node_at (world_with w c d) e ≡ node_at w e
node-other w c e d apart = set-other w.nodes c.0 e.0 d.node apart

pub log-same : (f : Node → List Record) (w : World) (c : ComId) (d : Done) (node : Node) → node_at w c ≡ Some node → log_at (map f (world_with w c d).nodes) c ≡ f d.node
log-same f w c d node is = log-here f (world_with w c d) c d.node (node-same w c d node is)

pub log-other : (f : Node → List Record) (w : World) (c e : ComId) (d : Done) → same_com c e ≡ false → log_at (map f (world_with w c d).nodes) e ≡ log_at (map f w.nodes) e
log-other f w c e d apart = log-is f (world_with w c d) e ∙ ap (log_of f) (node-other w c e d apart) ∙ sym (log-is f w e)

pub logs-long : (f : Node → List Record) (w : World) (c : ComId) (d : Done) → length (map f (world_with w c d).nodes) ≡ length (map f w.nodes)
logs-long f w c d = map-long f (slice_set w.nodes c.0 d.node) ∙ set-long w.nodes c.0 d.node ∙ sym (map-long f w.nodes)

-- the logs with another one of one component
pub set-with : (f : Node → List Record) (w : World) (c : ComId) (node : Node) (log : List Record) → node_at w c ≡ Some node → IsWith (map f w.nodes) c log (slice_set (map f w.nodes) c.0 log)
set-with f w c node log is = record {
  here = ap (λ o. unwrap_or o []) (set-same (map f w.nodes) c.0 log (f node) (slice_get-map f w.nodes c.0 ∙ ap (option_map f) is));
  others = λ e apart. ap (λ o. unwrap_or o []) (set-other (map f w.nodes) c.0 e.0 log apart);
}
