-- A world whose components were all found over their disks.
use Rattle.std.proofs.Common.{◌≡◌, ◌∙◌, sym, ap, subst, refl, ℕ, suc, List, [], ◌∷◌, length, map, arith, Option, Some, None}
use Rattle.std.specs.Prelude.{slice_get, not, is_some, Result, Ok, Err, IfOk, IfErr}
use Rattle.ic_base.specs.declared.messages.ComId.{ComId}
use Rattle.ic_base.specs.declared.messages.Kind.{Kind}
use Rattle.ic_base.specs.declared.messages.Kind.TheVariants as kinds
use Rattle.ic_base.specs.declared.record.Record.{Record}
use Rattle.ic_base.specs.declared.scenario.Component.{Component}
use Rattle.ic_base.specs.declared.scenario.Program.{Program}
use Rattle.def_facts.specs.Playable.{IsPlayable}
use Rattle.def_run.specs.CoreSteps.{forced_of}
use Rattle.def_run.specs.Openings.{found_node, found_nodes, found_world}
use Rattle.def_step.specs.World.{Node, Down}
use Rattle.ic_disk.specs.TornDisks.{Torn}
use Rattle.ic_disk.specs.declared.disk.Disk.{Ghosts}
use Rattle.ic_node.specs.Nodes.{read_of}
use Rattle.ic_disk.specs.Torns.{torn}
use Rattle.ic_node.specs.Views.{node_of, file_of}
use Rattle.ic_node.specs.declared.component.Component.{Component as Part}
use Rattle.law_settle.proofs.Reaching.{found_world_puts_to_kept}
use Rattle.law_settle.specs.Kept.{IsWorldPutToKept}
use Rattle.law_settle.specs.Represented.{IsWorldRepresented}
use Rattle.ic_world.specs.Opening.{is_outside, places, disks_under, disks_behind, files_on, AllTell, EachMeets, LeavesNoMore, Finds, FailsToFind}
use Rattle.ic_world.specs.Making.{IsMadeOver, AreMade, FailsToMake, Opens}
use Rattle.ic_world.specs.Views.{components_of, world_of}
use Rattle.ic_world.specs.declared.making.Beginning.TheVariants.{Found}
use Rattle.ic_world.specs.declared.opening.StartRefused.{StartRefused}
use Rattle.ic_world.specs.declared.world.World.{World as Made}
use Rattle.ic_world.proofs.Lists.{map-same}
use Rattle.ic_world.proofs.Makings.{no-disk, tells-there, by-kept, by-found}
use Rattle.ic_world.proofs.Opened.{kept-nodes, tells-all, keeps-logs, over-nodes}
use Rattle.ic_world.proofs.Places.{same-some, has-at, file_at, files-so, places-count}

nodes-same : {X : Type 0} (node : X → Node) (log : X → List Record) (ds : List Component) (xs : List X) → length xs ≡ length ds → ((k : ℕ) (d : Component) (x : X) → slice_get ds k ≡ Some d → slice_get xs k ≡ Some x → node x ≡ found_node d.kind (log x)) → map node xs ≡ found_nodes ds (map log xs)
nodes-same node log [] [] l same = refl
nodes-same node log (d ∷ ds) (x ∷ xs) l same =
    ap (λ z. z ∷ map node xs) (same 0 d x refl refl) ∙ ap (λ zs. found_node d.kind (log x) ∷ zs) (nodes-same node log ds xs (omega (arith, l)) (λ k. same (suc k)))
nodes-same node log [] (x ∷ xs) l same = absurd (omega (arith, l))
nodes-same node log (d ∷ ds) [] l same = absurd (omega (arith, l))

module _ {D : Type 0} (b : Ghosts D) (program : Program) (print : List ℕ) (disks : List D) where
  module _ (made : List (Part (Torn D) (torn b))) (are : AreMade b Found program print disks made) where
    abbrev pub logs-in : List (List Record)
    logs-in = map (λ x. forced_of (Some (node_of x))) made

    node-so : (k : Kind) (x : Part (Torn D) (torn b)) (c : ComId) (o : Option D) → is_some o ≡ not (is_outside k) → IsMadeOver b Found program c print o x → node_of x ≡ found_node k (forced_of (Some (node_of x)))
    node-so kinds.Xcom x c None fits is = is.node
    node-so kinds.Pcom x c None fits is = absurd (cc)
    node-so kinds.Tcom x c None fits is = absurd (cc)
    node-so kinds.Xcom x c (Some old) fits is = absurd (cc)
    node-so kinds.Pcom x c (Some old) fits is = is.begins.down ∙ ap Down (sym (ap (λ n. forced_of (Some n)) is.begins.down))
    node-so kinds.Tcom x c (Some old) fits is = is.begins.down ∙ ap Down (sym (ap (λ n. forced_of (Some n)) is.begins.down))

    nodes-so : map (λ x. node_of x) made ≡ found_nodes program.components logs-in
    nodes-so = nodes-same (λ x. node_of x) (λ x. forced_of (Some (node_of x))) program.components made are.count at
      where
        at : (k : ℕ) (d : Component) (x : Part (Torn D) (torn b)) → slice_get program.components k ≡ Some d → slice_get made k ≡ Some x → node_of x ≡ found_node d.kind (forced_of (Some (node_of x)))
        at k d x e f =
            let p = are.each (record { 0 = k }) x f in
            node-so d.kind x (record { 0 = k }) p.place (p.has ∙ sym (has-at program (record { 0 = k }) d (not (is_outside d.kind)) e refl)) p.made

    -- what its disks read
    files-same : AllTell b disks → map (λ x. file_of x) made ≡ files_on b program disks
    files-same all =
        map-same (λ x. file_of x) (λ o. file_at b.seen o) made (places program.components disks) (are.count ∙ sym (places-count program.components disks)) at
        ∙ sym (files-so b.seen program.components disks)
      where
        by : (c : ComId) (x : Part (Torn D) (torn b)) (o : Option D) → slice_get (places program.components disks) c.0 ≡ Some o → IsMadeOver b Found program c print o x → file_of x ≡ file_at b.seen o
        by c x None at is = ap (read_of (torn b)) (no-disk b x is.node)
        by c x (Some old) at is = is.begins.bytes (tells-there b program disks all c old at)

        at : (k : ℕ) (x : Part (Torn D) (torn b)) (o : Option D) → slice_get made k ≡ Some x → slice_get (places program.components disks) k ≡ Some o → file_of x ≡ file_at b.seen o
        at k x o e f =
            let p = are.each (record { 0 = k }) x e in
            by (record { 0 = k }) x o f (subst (λ q. IsMadeOver b Found program (record { 0 = k }) print q x) (same-some p.place o (sym p.at ∙ f)) p.made)

  pub finds : IsPlayable program → (new : Made (Torn D) (torn b)) → Opens b Found program print disks new → Finds b program print disks new
  finds playable new o =
      let made = components_of new in
      let logs = logs-in made o.components in
      let world : world_of new ≡ found_world program logs = over-nodes (world_of new) (found_nodes program.components logs) (nodes-so made o.components) o.packets o.waiting o.showings in
      let law = found_world_puts_to_kept program logs in
      record {
        logs = logs;
        world = world;
        state = λ all. record { logs = logs; world = world; files = files-same made o.components all; kept = keeps-logs b Found program print disks made o.components all };
        is_new = record {
          is_own = o.is_own;
          received = o.received;
          played = o.played;
          going = o.going;
          made = record {
            playable = playable;
            kept = kept-nodes b Found program print disks made o.components;
            represented = subst (λ w. IsWorldRepresented program w) (sym world) law.0;
            puts = subst (λ w. IsWorldPutToKept program w) (sym world) law.1;
          };
          count = o.components.count;
          disks = by-kept b Found disks (disks_under made) o.components.kept;
          tells = tells-all b Found program print disks made o.components;
        };
      }

  pub found-ok : IsPlayable program → (r : Result (Made (Torn D) (torn b)) (StartRefused D)) → IfOk r (Opens b Found program print disks) → IfOk r (Finds b program print disks)
  found-ok playable (Ok new) o = finds playable new o
  found-ok playable (Err refused) o = tt

  pub found-err : (r : Result (Made (Torn D) (torn b)) (StartRefused D)) → IfErr r (FailsToMake b Found program print disks) → IfErr r (FailsToFind b program print disks)
  found-err (Ok new) f = tt
  found-err (Err refused) f = f.opens

  -- a load writes nothing
  pub found-leaves : (r : Result (Made (Torn D) (torn b)) (StartRefused D)) → IfOk r (Opens b Found program print disks) → IfErr r (FailsToMake b Found program print disks) → EachMeets (LeavesNoMore b) disks (disks_behind r)
  found-leaves (Ok new) o f = by-found b disks (disks_under (components_of new)) o.components.kept
  found-leaves (Err refused) o f = by-found b disks refused.disks.items f.kept
