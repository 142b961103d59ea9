-- Each component goes into its berth with the ends of its own lanes and its list.
use Rattle.std.proofs.Common.{◌≡◌, refl, sym, ap, subst, ◌∙◌, ℕ, zero, suc, ◌<◌, ◌≤◌, le_refl, false, true, List, [], ◌∷◌, ◌++◌, map, length, arith, length-append, append_assoc, Option, Some, None}
use Rattle.std.specs.Prelude.{slice_get, slice_index_or, Contains}
use Rattle.std.proofs.lemmas.List.{length-map}
use Rattle.std.proofs.lemmas.Option.{same_Some, slice_get_within, slice_get-get_or}
use Rattle.atomic_table.specs.Seated.{TableId}
use Rattle.ic_base.specs.declared.events.Event.{Event}
use Rattle.ic_base.specs.declared.messages.ComId.{ComId}
use Rattle.ic_base.specs.declared.scenario.Program.{Program}
use Rattle.def_live.specs.Turns.{is_own}
use Rattle.ic_disk.specs.declared.disk.Disk.{Ghosts}
use Rattle.ic_lane.specs.Lanes.{In, Out}
use Rattle.ic_node.specs.Views.{com_of}
use Rattle.ic_node.specs.declared.component.Component.{Component}
use Rattle.law_replay.proofs.Members.{filter-has}
use Rattle.ic_live.specs.Berthed.{berthed, list_of}
use Rattle.ic_live.specs.Berths.{BeginsBerth, AreEndsOf}
use Rattle.ic_live.specs.Ended.{MayMoor}
use Rattle.ic_live.specs.Faults.{faults_of, faults_at, HaveFailed}
use Rattle.ic_live.specs.Grids.{AreLanes, lane_at}
use Rattle.ic_live.proofs.Closings.{get_front, get_last, part-of}

-- the last of what is left of a list, in its place
pub got : {A : Type 0} (all now pre rest : List A) (x : A) (n : ℕ) → all ≡ now ++ rest → now ≡ pre ++ x ∷ [] → n ≡ length pre → slice_get all n ≡ Some x
got all now pre rest x n e f is = subst (λ (k : ℕ). slice_get all k ≡ Some x) (sym is) (subst (λ (l : List _). slice_get l (length pre) ≡ Some x) (sym (e ∙ ap (λ l. l ++ rest) f)) (get_front (pre ++ x ∷ []) rest x (length pre) (get_last pre x)))

pub rest_more : {A : Type 0} (all now pre rest : List A) (x : A) → all ≡ now ++ rest → now ≡ pre ++ x ∷ [] → (left : List A) × (all ≡ pre ++ left)
rest_more all now pre rest x e f = (x ∷ rest, e ∙ ap (λ l. l ++ rest) f ∙ append_assoc pre (x ∷ []) rest)

pub same_place : {A B : Type 0} (ms ms' : List A) (m : A) (os os' : List B) (o : B) → ms ≡ ms' ++ m ∷ [] → os ≡ os' ++ o ∷ [] → length os ≡ length ms → length os' ≡ length ms'
same_place ms ms' m os os' o e f is = omega (arith, ap (λ (l : List _). length l) e, ap (λ (l : List _). length l) f, length-append ms' (m ∷ []), length-append os' (o ∷ []), is)

-- nothing is left where it may not be
pub none-left : {A : Type 0} (xs : List A) → (0 < length xs → false ≡ true) → length xs ≡ 0
none-left [] none = refl
none-left (x ∷ xs) none = absurd (cc (none (omega arith)))

within : {A : Type 0} (xs : List A) (i : ℕ) → i < length xs → (x : A) × (slice_get xs i ≡ Some x)
within [] i small = absurd (omega (arith, small))
within (x ∷ xs) i small = (_, slice_get-get_or (x ∷ xs) i x small)

module _ {D : Type 0} {d : Ghosts D} (program : Program) (print : List ℕ) (plan : ComId → List Event) (lane : ℕ → ℕ → TableId) (began : ℕ → ℕ) (honest : Type 0) (xs : List (Component D d)) (outs : List (List Out)) (ins : List (List In)) (events : List Event) (m : MayMoor program print plan lane began honest xs outs ins events)
    (n : ℕ) (x : Component D d) (os : List Out) (is : List In) (at_x : slice_get xs n ≡ Some x) (at_os : slice_get outs n ≡ Some os) (at_is : slice_get ins n ≡ Some is) where
  -- the other end of one that receives
  sender : (k : ℕ) (y : In) → slice_get is k ≡ Some y → (row : List Out) × (o : Out) × (slice_get outs k ≡ Some row) × (slice_get row n ≡ Some o)
  sender k y at =
      let row = within outs k (omega (arith, slice_get_within is k y at, m.grid.2 n is at_is)) in
      let o = within row.0 n (omega (arith, m.grid.1 k row.0 row.1, slice_get_within outs n os at_os, m.count)) in
      (row.0, o.0, row.1, o.1)

  -- the other end of one that sends
  receiver : (k : ℕ) (o : Out) → slice_get os k ≡ Some o → (row : List In) × (y : In) × (slice_get ins k ≡ Some row) × (slice_get row n ≡ Some y)
  receiver k o at =
      let row = within ins k (omega (arith, slice_get_within os k o at, m.grid.1 n os at_os, m.grid.0)) in
      let y = within row.0 n (omega (arith, m.grid.2 k row.0 row.1, slice_get_within outs n os at_os)) in
      (row.0, y.0, row.1, y.1)

  ends-are : AreEndsOf lane n (length xs) is os
  ends-are = (
    (
      length-map is (λ (y : In). y.lane) ∙ m.grid.2 n is at_is ∙ m.count,
      λ k t at.
          let y = part-of (λ (z : In). z.lane) is (map (λ (z : In). z.lane) is) k t refl at in
          let s = sender k y.0 y.1 in
          y.2 ∙ sym (m.grid.3 k n s.0 s.1 is y.0 s.2 s.3 at_is y.1).0 ∙ m.lanes k n s.0 s.1 s.2 s.3,
    ),
    (
      length-map os (λ (z : Out). z.lane) ∙ m.grid.1 n os at_os,
      λ k t at. let o = part-of (λ (z : Out). z.lane) os (map (λ (z : Out). z.lane) os) k t refl at in o.2 ∙ m.lanes n k os o.0 at_os o.1,
    ),
  )

  pub begins-at : (peers : List ComId) (list : List Event) → peers ≡ berthed program → list ≡ list_of (com_of x) events → BeginsBerth program print plan lane began honest n x peers is os list
  begins-at peers list all listed = record {
    playable = m.playable;
    flat = m.flat;
    bytes = m.bytes;
    up = m.started.up n x at_x;
    has_disk = m.started.has_disk n x at_x;
    told = λ y. m.told y n x at_x;
    since = m.since n x at_x;
    all_peers = all;
    at_place = ap (λ l. slice_get l n) all ∙ m.started.at_place n x at_x;
    ends = subst (λ k. AreEndsOf lane n k is os) (m.started.one_each ∙ ap (λ (l : List ComId). length l) (sym all)) ends-are;
    none_received = λ k y at. let s = sender k y at in (m.grid.3 k n s.0 s.1 is y s.2 s.3 at_is at).3;
    none_sent = λ k o at. let r = receiver k o at in (m.grid.3 n k os o r.0 r.1 at_os at r.2 r.3).1;
    listed = listed ∙ sym (m.lists (com_of x));
    own = λ e has. let h = filter-has (λ (z : Event). is_own (com_of x) z.what) events e (subst (λ l. Contains l e) listed has) in (m.events_are e h.0, h.1);
  }

-- the lanes that are made are the scene's
pub lanes-are : (outs : List (List Out)) → AreLanes (lane_at outs) outs
lanes-are outs i j os o at_os at_o =
    let none : Out = record { lane = record { words = 0; slots = 0; views_name = 0; atom = 0; block = 0; offset = 0; slot_names = [] }; capacity = 0; sent = []; fulls = 0 } in
    sym (ap (λ (r : List Out). (slice_index_or r j none).lane) (read outs i os [] at_os) ∙ ap (λ (z : Out). z.lane) (read os j o none at_o))
  where
    read : {A : Type 0} (xs : List A) (k : ℕ) (x y : A) → slice_get xs k ≡ Some x → slice_index_or xs k y ≡ x
    read [] k x y e = absurd (cc e)
    read (z ∷ zs) zero x y e = same_Some z x e
    read (z ∷ zs) (suc k) x y e = read zs k x y e

-- each disk has failed as often as it has
pub faults-now : {D : Type 0} {d : Ghosts D} (xs : List (Component D d)) → HaveFailed (faults_at xs) xs
faults-now {D} {d} xs k x at = subst (λ (o : Option (Component D d)). elim o [ None ↦ 0 | Some y ↦ faults_of y ] ≤ faults_of x) (sym at) (le_refl (faults_of x))
