-- A world whose components were all made over their disks.
use Rattle.std.proofs.Common.{◌≡◌, ◌∙◌, sym, ap, subst, refl, ℕ, true, false, List, [], map, arith, Option, Some, None}
use Rattle.std.specs.Prelude.{slice_get, is_some, option_map, unwrap_or, ◌||◌}
use Rattle.std.proofs.lemmas.Option.{slice_get_past}
use Rattle.ic_base.specs.declared.messages.ComId.{ComId}
use Rattle.ic_base.specs.declared.messages.Output.{Output}
use Rattle.ic_base.specs.declared.messages.Packet.{Packet}
use Rattle.ic_base.specs.declared.scenario.Component.{Component}
use Rattle.ic_base.specs.declared.scenario.Program.{Program}
use Rattle.ic_base.specs.Programs.{declares, is_pcom, is_tcom}
use Rattle.def_run.specs.CoreSteps.{forced_of}
use Rattle.def_run.specs.SystemStates.{IsLog, KeepsLog, has_disk}
use Rattle.def_step.specs.World.{World, Node, Runs, Serves, Down, External}
use Rattle.ic_disk.specs.TornDisks.{Torn}
use Rattle.ic_disk.specs.declared.disk.Disk.{Ghosts}
use Rattle.ic_node.specs.Nodes.{read_of, told_of}
use Rattle.ic_disk.specs.Torns.{torn}
use Rattle.ic_node.specs.Views.{node_of, disk_of, file_of, com_of, is_over, Tells}
use Rattle.ic_node.specs.declared.component.Component.{Component as Part}
use Rattle.ic_world.specs.Allowing.{is_kept}
use Rattle.ic_world.specs.Opening.{places, AllTell}
use Rattle.ic_world.specs.Making.{IsMadeOver, AreMade}
use Rattle.ic_world.specs.Standing.{ArePlaced, HoldLogs}
use Rattle.ic_world.specs.declared.making.Beginning.{Beginning}
use Rattle.ic_world.proofs.Lists.{get-map, none-past}
use Rattle.ic_world.proofs.Makings.{no-disk, tells-there, tells-part}
use Rattle.ic_world.proofs.Sizes.{own-log}

inside-kept : (n : Node) → (n ≡ External → ⊥) → is_kept (Some n) ≡ true
inside-kept (Runs p) inside = refl
inside-kept (Serves t) inside = refl
inside-kept (Down records) inside = refl
inside-kept External inside = absurd (inside refl)

-- a world of these components, with nothing put out or shown
pub over-nodes : (w : World) (nodes : List Node) → w.nodes ≡ nodes → w.packets ≡ [] → w.waiting ≡ [] → w.showings ≡ [] → w ≡ record { nodes = nodes; packets = []; waiting = []; showings = [] }
over-nodes w nodes n p t s =
    let P : List Node → List Packet → List ℕ → List (ComId × Output) → World = λ ns ps ts ss. record { nodes = ns; packets = ps; waiting = ts; showings = ss } in
    ap (λ ns. P ns w.packets w.waiting w.showings) n ∙ ap (λ ps. P nodes ps w.waiting w.showings) p ∙ ap (λ ts. P nodes [] ts w.showings) t ∙ ap (λ ss. P nodes [] [] ss) s

module _ {D : Type 0} (b : Ghosts D) (way : Beginning) (program : Program) (print : List ℕ) (disks : List D) (made : List (Part (Torn D) (torn b))) (are : AreMade b way program print disks made) where
  placed-com : (c : ComId) (x : Part (Torn D) (torn b)) (o : Option D) → IsMadeOver b way program c print o x → (com_of x ≡ c) × (is_over x ≡ false)
  placed-com c x None is = (is.which, is.going)
  placed-com c x (Some old) is = (is.which, is.going)

  pub are-placed : ArePlaced made
  are-placed k x e =
      let p = are.each (record { 0 = k }) x e in
      let q = placed-com (record { 0 = k }) x p.place p.made in
      (ap (λ (c : ComId). c.0) q.0, q.1)

  inside : (x : Part (Torn D) (torn b)) (disk : Torn D) → disk_of x ≡ Some disk → node_of x ≡ External → ⊥
  inside x disk has e = let f : None ≡ Some disk = sym (no-disk b x e) ∙ has in cc

  holds : (x : Part (Torn D) (torn b)) (disk : Torn D) (c : ComId) (o : Option D) → IsMadeOver b way program c print o x → disk_of x ≡ Some disk → (torn b).tells disk → IsLog print c.0 ((torn b).seen disk) (forced_of (Some (node_of x)))
  holds x disk c None is has tells = absurd (inside x disk has is.node)
  holds x disk c (Some old) is has tells =
      let log = own-log print c (file_of x) (node_of x) (inside-kept (node_of x) (inside x disk has)) (is.logs (subst (λ (p : Option (Torn D)). told_of (torn b) p) (sym has) tells)) in
      subst (λ p. IsLog print c.0 (read_of (torn b) p) (forced_of (Some (node_of x)))) has log

  pub hold-logs : HoldLogs print made
  hold-logs k x disk e has tells = let p = are.each (record { 0 = k }) x e in holds x disk (record { 0 = k }) p.place p.made has tells

  kept-so : (c : ComId) (x : Part (Torn D) (torn b)) (o : Option D) → IsMadeOver b way program c print o x → is_kept (Some (node_of x)) ≡ is_some o
  kept-so c x None is = ap (λ n. is_kept (Some n)) is.node
  kept-so c x (Some old) is = inside-kept (node_of x) (inside x is.disk is.has)

  pub none-has : (c : ComId) → slice_get made c.0 ≡ None → has_disk program c ≡ false
  none-has c e =
      let past : slice_get program.components c.0 ≡ None = slice_get_past program.components c.0 (omega (arith, none-past made c.0 e, are.count)) in
      ap (λ (o : Option Component). declares (λ x. is_pcom x.kind) o || declares (λ x. is_tcom x.kind) o) past

  pub kept-nodes : (c : ComId) → is_kept (slice_get (map (λ x. node_of x) made) c.0) ≡ has_disk program c
  kept-nodes c = ap is_kept (get-map (λ x. node_of x) made c.0) ∙ by (slice_get made c.0) refl
    where
      by : (o : Option (Part (Torn D) (torn b))) → slice_get made c.0 ≡ o → is_kept (option_map (λ x. node_of x) (slice_get made c.0)) ≡ has_disk program c
      by None e = ap (λ o. is_kept (option_map (λ x. node_of x) o)) e ∙ sym (none-has c e)
      by (Some x) e =
          let p = are.each c x e in
          ap (λ o. is_kept (option_map (λ x. node_of x) o)) e ∙ kept-so c x p.place p.made ∙ p.has

  -- where the disks tell their bytes
  tells-so : AllTell b disks → (c : ComId) (x : Part (Torn D) (torn b)) (o : Option D) → slice_get (places program.components disks) c.0 ≡ Some o → IsMadeOver b way program c print o x → Tells x
  tells-so all c x None at is = subst (λ (p : Option (Torn D)). told_of (torn b) p) (sym (no-disk b x is.node)) tt
  tells-so all c x (Some old) at is = tells-part b program print disks way c old x is (tells-there b program disks all c old at)

  pub tells-all : AllTell b disks → (k : ℕ) (x : Part (Torn D) (torn b)) → slice_get made k ≡ Some x → Tells x
  tells-all all k x e = let p = are.each (record { 0 = k }) x e in tells-so all (record { 0 = k }) x p.place p.at p.made

  log-so : AllTell b disks → (c : ComId) (x : Part (Torn D) (torn b)) (o : Option D) → slice_get (places program.components disks) c.0 ≡ Some o → IsMadeOver b way program c print o x → KeepsLog print c (file_of x) (Some (node_of x))
  log-so all c x None at is = subst (λ n. KeepsLog print c (file_of x) (Some n)) (sym is.node) tt
  log-so all c x (Some old) at is = is.logs (tells-so all c x (Some old) at is)

  pub keeps-logs : AllTell b disks → (c : ComId) → KeepsLog print c (unwrap_or (slice_get (map (λ x. file_of x) made) c.0) []) (slice_get (map (λ x. node_of x) made) c.0)
  keeps-logs all c =
      subst (λ o. KeepsLog print c (unwrap_or o []) (slice_get (map (λ x. node_of x) made) c.0)) (sym (get-map (λ x. file_of x) made c.0))
      (subst (λ o. KeepsLog print c (unwrap_or (option_map (λ x. file_of x) (slice_get made c.0)) []) o) (sym (get-map (λ x. node_of x) made c.0)) (by (slice_get made c.0) refl))
    where
      by : (o : Option (Part (Torn D) (torn b))) → slice_get made c.0 ≡ o → KeepsLog print c (unwrap_or (option_map (λ x. file_of x) o) []) (option_map (λ x. node_of x) o)
      by None e = tt
      by (Some x) e = let p = are.each c x e in log-so all c x p.place p.at p.made
