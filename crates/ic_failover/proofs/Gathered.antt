-- What stands in the file of a component, the messages among packets, and a component that is there.
use Rattle.std.proofs.Common.{◌≡◌, ◌∙◌, refl, ap, sym, ℕ, zero, suc, ◌+◌, ◌<◌, arith, true, true≢false, List, [], ◌∷◌, ◌++◌, length, take, drop, Option, Some, None, option_to_list, option_map}
use Rattle.std.specs.Prelude.{filter_map, slice_get, option_and_then, ◌||◌}
use Rattle.std.proofs.lemmas.List.{take_at, take_all}
use Rattle.def_run.specs.CoreSteps.{forced_of}
use Rattle.def_run.specs.Reports.{log_of_node}
use Rattle.def_step.specs.World.{Node, Runs, Serves, Down, External, node_at, nth}
use Rattle.def_facts.specs.Logs.{message_in}
use Rattle.def_standby.specs.Standbys.{Standby}
use Rattle.ic_base.specs.Programs.{is_a_pcom, is_a_tcom}
use Rattle.ic_base.specs.declared.messages.ComId.{ComId}
use Rattle.ic_base.specs.declared.messages.Msg.{Msg}
use Rattle.ic_base.specs.declared.messages.Packet.{Packet}
use Rattle.ic_base.specs.declared.record.Record.{Record}
use Rattle.ic_base.specs.declared.scenario.Program.{Program}
use Rattle.ic_disk.specs.declared.disk.Disk.{Ghosts}
use Rattle.ic_node.specs.Views.{node_of}
use Rattle.ic_node.specs.declared.component.Component.{Component}
use Rattle.ic_world.proofs.Lists.{get-map, get-within}
use Rattle.ic_world.specs.Allowing.{IsMadeFor, is_kept}
use Rattle.ic_world.specs.Views.{components_of, world_of}
use Rattle.ic_world.specs.declared.world.World.{World}

pub forced_front : (node : Node) → take (length (forced_of (Some node))) (log_of_node node) ≡ forced_of (Some node)
forced_front (Runs p) = take_at p.log.forced p.log.buffered (length p.log.forced) refl
forced_front (Serves t) = take_all (length t.records) t.records (omega arith)
forced_front (Down records) = take_all (length records) records (omega arith)
forced_front External = refl

-- one packet more
further : {A B : Type 0} (f : A → Option B) (y : A) (ys zs : List A) (o : Option B) → filter_map f ys ≡ filter_map f zs ++ option_to_list o → filter_map f (y ∷ ys) ≡ filter_map f (y ∷ zs) ++ option_to_list o
further f y ys zs o e = by (f y) refl
  where
    by : (p : Option _) → f y ≡ p → filter_map f (y ∷ ys) ≡ filter_map f (y ∷ zs) ++ option_to_list o
    by None is = grind (arith, is, e)
    by (Some b) is = grind (arith, is, e)

alone : {A B : Type 0} (f : A → Option B) (y : A) → filter_map f (y ∷ []) ≡ option_to_list (f y)
alone f y = by (f y) refl
  where
    by : (p : Option _) → f y ≡ p → filter_map f (y ∷ []) ≡ option_to_list (f y)
    by None is = grind (arith, is)
    by (Some b) is = grind (arith, is)

one-further : {A B : Type 0} (f : A → Option B) (xs : List A) (n : ℕ) (x : A) → slice_get xs n ≡ Some x → filter_map f (take (suc n) xs) ≡ filter_map f (take n xs) ++ option_to_list (f x)
one-further f [] n x e = absurd (cc e)
one-further f (y ∷ ys) zero x e =
    let same : y ≡ x = cc e in
    alone f y ∙ ap (λ z. option_to_list (f z)) same
one-further f (y ∷ ys) (suc n) x e = further f y (take (suc n) ys) (take n ys) (f x) (one-further f ys n x e)

pub one_more : {A B : Type 0} (f : A → Option B) (xs : List A) (n : ℕ) (x : A) → slice_get xs n ≡ Some x → filter_map f (take (n + 1) xs) ≡ filter_map f (take n xs) ++ option_to_list (f x)
one_more f xs n x e =
    let same : n + 1 ≡ suc n = omega arith in
    ap (λ m. filter_map f (take m xs)) same ∙ one-further f xs n x e

pub none_of : {A : Type 0} (o : Option A) → ((a : A) → o ≡ Some a → ⊥) → o ≡ None
none_of None f = refl
none_of (Some a) f = absurd (f a refl)

-- a packet by its number, and what it brings
nth-behind : {A : Type 0} (xs : List A) (n : ℕ) → nth xs (n + 1) ≡ slice_get xs n
nth-behind xs n =
    let same : n + 1 ≡ suc n = omega arith in
    ap (nth xs) same

there-is : {A : Type 0} (xs : List A) (n : ℕ) → n < length xs → (x : A) × (slice_get xs n ≡ Some x)
there-is [] n l = absurd (omega (arith, l))
there-is (x ∷ xs) zero l = (x, refl)
there-is (x ∷ xs) (suc n) l = there-is xs n (omega (arith, l))

pub messages_more : (ps : List Packet) (n : ℕ) (told : Option Msg) (was now : List Msg) → n < length ps → told ≡ option_and_then message_in (nth ps (n + 1)) → was ≡ filter_map message_in (take n ps) → now ≡ was ++ option_to_list told → now ≡ filter_map message_in (take (n + 1) ps)
messages_more ps n told was now l t w e =
    let x = there-is ps n l in
    let same : told ≡ message_in x.0 = t ∙ ap (option_and_then message_in) (nth-behind ps n ∙ x.1) in
    e ∙ ap (λ ms. ms ++ option_to_list told) w ∙ ap (λ o. filter_map message_in (take n ps) ++ option_to_list o) same ∙ sym (one_more message_in ps n x.0 x.1)

module _ {D : Type 0} {d : Ghosts D} (w : World D d) (c : ComId) where
  pub node_is : (x : Component D d) → slice_get (components_of w) c.0 ≡ Some x → node_at (world_of w) c ≡ Some (node_of x)
  node_is x at = get-map (λ y. node_of y) (components_of w) c.0 ∙ ap (option_map (λ y. node_of y)) at

  -- the records behind those that a standby has
  pub behind_is : (x : Component D d) (s : Standby) (records slice behind : List Record) (have : ℕ) → slice_get (components_of w) c.0 ≡ Some x → records ≡ forced_of (Some (node_of x)) → slice ≡ records → have ≡ s.have → behind ≡ drop have slice → behind ≡ drop s.have (forced_of (node_at (world_of w) c))
  behind_is x s records slice behind have at r sl h is = is ∙ ap (λ n. drop n slice) h ∙ ap (drop s.have) (sl ∙ r ∙ ap forced_of (sym (node_is x at)))

  -- a Pcom is one of the components
  pub is_there : (program : Program) → IsMadeFor program (world_of w) → is_a_pcom program c ≡ true → c.0 < length (components_of w)
  is_there program made pcom = by (slice_get (components_of w) c.0) refl
    where
      kept : is_kept (node_at (world_of w) c) ≡ true
      kept = made.kept c ∙ ap (λ p. p || is_a_tcom program c) pcom

      by : (o : Option (Component D d)) → slice_get (components_of w) c.0 ≡ o → c.0 < length (components_of w)
      by None e = absurd (true≢false (sym kept ∙ ap is_kept (get-map (λ y. node_of y) (components_of w) c.0 ∙ ap (option_map (λ y. node_of y)) e)))
      by (Some x) e = get-within (components_of w) c.0 x e
