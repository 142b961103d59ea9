-- What a crash leaves of the logs that were made before the refusal.
use Rattle.std.proofs.Common.{◌≡◌, ◌∙◌, sym, ap, subst, refl, ℕ, zero, suc, ◌+◌, ◌≤◌, inr, Bool, true, false, List, [], ◌∷◌, ◌++◌, length, arith, Option, Some, None}
use Rattle.std.specs.Prelude.{slice_get, take, drop, cond, not, is_some, option_to_list, Result, Ok, Err, IfErr}
use Rattle.std.proofs.Math.Seq.{drop-append_seam}
use Rattle.ic_base.specs.declared.messages.ComId.{ComId}
use Rattle.ic_base.specs.declared.refusals.StartWhy.TheVariants as starts
use Rattle.ic_base.specs.declared.scenario.Component.{Component}
use Rattle.ic_base.specs.declared.scenario.Program.{Program}
use Rattle.def_log.specs.Frame.{fresh}
use Rattle.def_log.specs.Images.{LeavesJust}
use Rattle.ic_disk.specs.TornDisks.{Torn}
use Rattle.ic_disk.specs.TornLaws.{may_none}
use Rattle.ic_disk.specs.declared.disk.Disk.{Ghosts}
use Rattle.ic_gate.specs.declared.refusals.LoadRefused.{LoadRefused}
use Rattle.ic_gate.specs.declared.refusals.LoadWhy.{LoadWhy}
use Rattle.ic_gate.specs.declared.refusals.LoadWhy.TheVariants as loads
use Rattle.ic_node.specs.Nodes.{read_of, told_of}
use Rattle.ic_node.specs.Standing.{keeps_of, leave_of}
use Rattle.ic_disk.specs.Torns.{torn}
use Rattle.ic_node.specs.Views.{disk_of}
use Rattle.ic_node.specs.declared.component.Component.{Component as Part}
use Rattle.ic_world.specs.Opening.{is_outside, inner_of, disks_under, disks_in, places, EachMeets, start_why, LeavesNoMore, IsBegun, AreBegun, LeavesBegun}
use Rattle.ic_world.specs.Making.{IsOnlyRead, IsMadeOver, FailsOver, Stands}
use Rattle.ic_world.specs.declared.making.Beginning.{Beginning}
use Rattle.ic_world.specs.declared.making.Beginning.TheVariants.{Fresh, Found}
use Rattle.ic_world.specs.declared.opening.StartRefused.{StartRefused}
use Rattle.ic_world.specs.declared.world.World.{World}
use Rattle.ic_world.proofs.Lists.{get-within, get-there, get-first, get-past}
use Rattle.ic_world.proofs.Makings.{no-disk, each-at, each-count, by-all, read-none, leaves-then}
use Rattle.ic_world.proofs.Places.{same-some, next-drop, has-at, places-count}

-- a log that isn't made is no disk that isn't blank
pub not-asked : (c d : ComId) (why : LoadWhy) → start_why c why ≡ starts.NotBlank d → ⊥
not-asked c d (loads.Bad place) e = absurd (cc)
not-asked c d (loads.Foreign own) e = absurd (cc)
not-asked c d loads.Failed e = absurd (cc)
not-asked c d loads.Stopped e = absurd (cc)
not-asked c d loads.Memory e = absurd (cc)

module _ {D : Type 0} (b : Ghosts D) where
  -- what each disk below a component has, and where it comes
  under-each : (P : ℕ → ℕ → D → Type 0) (made : List (Part (Torn D) (torn b))) → ((j : ℕ) (x : Part (Torn D) (torn b)) (t : Torn D) → slice_get made j ≡ Some x → disk_of x ≡ Some t → P j (length (disks_under (take j made))) t.inner)
      → (k : ℕ) (disk : D) → slice_get (disks_under made) k ≡ Some disk → (j : ℕ) × P j k disk
  under-each P [] all k disk at = absurd (cc)
  under-each P (x ∷ xs) all k disk at = by (λ Q each i e. under-each Q xs each i disk e) (disk_of x) refl k at
    where
      by : ((Q : ℕ → ℕ → D → Type 0) → ((j : ℕ) (y : Part (Torn D) (torn b)) (t : Torn D) → slice_get xs j ≡ Some y → disk_of y ≡ Some t → Q j (length (disks_under (take j xs))) t.inner) → (i : ℕ) → slice_get (disks_under xs) i ≡ Some disk → (j : ℕ) × Q j i disk)
          → (o : Option (Torn D)) → disk_of x ≡ o → (i : ℕ) → slice_get (inner_of o ++ disks_under xs) i ≡ Some disk → (j : ℕ) × P j i disk
      by rest None is i e =
          let r = rest (λ j n z. P (suc j) n z) (λ j y t there has. subst (λ o. P (suc j) (length (inner_of o ++ disks_under (take j xs))) t.inner) is (all (suc j) y t there has)) i e in
          (suc r.0, r.1)
      by rest (Some t) is zero e = (0, subst (P 0 0) (same-some t.inner disk e) (all 0 x t refl is))
      by rest (Some u) is (suc i) e =
          let r = rest (λ j n z. P (suc j) (suc n) z) (λ j y t there has. subst (λ o. P (suc j) (length (inner_of o ++ disks_under (take j xs))) t.inner) is (all (suc j) y t there has)) i e in
          (suc r.0, r.1)

  -- as many disks stand below the first components as these have
  count-under : (made : List (Part (Torn D) (torn b))) (cs : List Component) → ((j : ℕ) (x : Part (Torn D) (torn b)) → slice_get made j ≡ Some x → (d : Component) × ((slice_get cs j ≡ Some d) × (is_some (disk_of x) ≡ not (is_outside d.kind))))
      → (j : ℕ) → j ≤ length made → length (disks_under (take j made)) ≡ disks_in (take j cs)
  count-under made cs each zero l = refl
  count-under [] cs each (suc j) l = absurd (omega (arith, l))
  count-under (x ∷ xs) [] each (suc j) l = absurd (let d = each 0 x refl in let clash = d.1.0 in cc)
  count-under (x ∷ xs) (c ∷ cs) each (suc j) l =
      let d = each 0 x refl in
      let same : c ≡ d.0 = same-some c d.0 d.1.0 in
      by (disk_of x) (is_outside c.kind) (d.1.1 ∙ ap (λ (k : Component). not (is_outside k.kind)) (sym same)) (count-under xs cs (λ i. each (suc i)) j (omega (arith, l)))
    where
      by : (o : Option (Torn D)) (out : Bool) → is_some o ≡ not out → length (disks_under (take j xs)) ≡ disks_in (take j cs) → length (inner_of o ++ disks_under (take j xs)) ≡ cond out (disks_in (take j cs)) (1 + disks_in (take j cs))
      by None true e same = same
      by (Some t) false e same = omega (arith, same)
      by None false e same = absurd (cc)
      by (Some t) true e same = absurd (cc)

  made-has : (way : Beginning) (program : Program) (print : List ℕ) (c : ComId) (place : Option D) (x : Part (Torn D) (torn b)) → IsMadeOver b way program c print place x → is_some (disk_of x) ≡ is_some place
  made-has way program print c None x is = ap is_some (no-disk b x is.node)
  made-has way program print c (Some old) x is = ap is_some is.has

  -- a component that was made over a fresh log
  pub part-fresh : ((disk : D) → b.keeps disk → b.tells disk) → (program : Program) (print : List ℕ) (c : ComId) (place : Option D) (x : Part (Torn D) (torn b)) → IsMadeOver b Fresh program c print place x → (t : Torn D) → disk_of x ≡ Some t → b.keeps t.inner → LeavesJust ((torn b).may_leave t) (fresh print c.0)
  part-fresh keeping_tells program print c None x is t has keeps image may = absurd (let clash : None ≡ Some t = sym (no-disk b x is.node) ∙ has in cc)
  part-fresh keeping_tells program print c (Some old) x is t has keeps image may =
      let lasts = subst (λ q. keeps_of (torn b) q → LeavesJust (leave_of (torn b) q) (read_of (torn b) q)) has (x.durable is.going) in
      let file = is.begins.fresh (subst (λ (q : Option (Torn D)). told_of (torn b) q) (sym has) (keeping_tells t.inner keeps)) in
      lasts keeps image may ∙ ap (read_of (torn b)) (sym has) ∙ file

  -- the disks were only read
  pub begun-none : (program : Program) (print : List ℕ) (olds : List D) (refused : StartRefused D) → EachMeets (IsOnlyRead b) olds refused.disks.items → LeavesBegun b program print olds refused
  begun-none program print olds refused read = record {
    logs = record {
      made = 0;
      begun = 0;
      one = omega arith;
      fresh = λ k disk l at. absurd (omega (arith, l));
      later = λ k old new l was is. (each-at (IsOnlyRead b) olds refused.disks.items read k old new was is).1;
    };
    asked = λ c is. refl;
  }

  -- they were only read before
  begun-after : (program : Program) (print : List ℕ) (given disks : List D) (refused : StartRefused D) → EachMeets (IsOnlyRead b) given disks → LeavesBegun b program print disks refused → LeavesBegun b program print given refused
  begun-after program print given disks refused read l = record {
    logs = record {
      made = l.logs.made;
      begun = l.logs.begun;
      one = l.logs.one;
      fresh = l.logs.fresh;
      later = λ k old new le was is.
          let mid = get-there disks k (omega (arith, get-within given k old was, each-count (IsOnlyRead b) given disks read)) in
          leaves-then b old mid.0 new (each-at (IsOnlyRead b) given disks read k old mid.0 was mid.1) (l.logs.later k mid.0 new le mid.1 is);
    };
    asked = l.asked;
  }

  pub begun-err : (program : Program) (print : List ℕ) (given disks : List D) → EachMeets (IsOnlyRead b) given disks → (r : Result (World (Torn D) (torn b)) (StartRefused D)) → IfErr r (λ refused. Fresh ≡ Fresh → LeavesBegun b program print disks refused) → IfErr r (LeavesBegun b program print given)
  begun-err program print given disks read (Ok new) l = tt
  begun-err program print given disks read (Err refused) l = begun-after program print given disks refused read (l refl)

  module _ (only_now : (disk : D) (image : List ℕ) → b.keeps disk → b.left_since disk (b.moment disk) image → b.may_leave disk image) where
    -- nothing was done
    pub none-begun : (program : Program) (print : List ℕ) (refused : StartRefused D) → LeavesBegun b program print refused.disks.items refused
    none-begun program print refused = begun-none program print refused.disks.items refused (by-all b only_now Found refused.disks.items)

    -- the component over the next disk isn't made
    module _ (keeping_tells : (disk : D) → b.keeps disk → b.tells disk) (program : Program) (print : List ℕ) (disks : List D) (made : List (Part (Torn D) (torn b))) (rest left : List D) where
      placed-kind : Stands b Fresh program print disks made rest → (j : ℕ) (x : Part (Torn D) (torn b)) → slice_get made j ≡ Some x → (d : Component) × ((slice_get program.components j ≡ Some d) × (is_some (disk_of x) ≡ not (is_outside d.kind)))
      placed-kind s j x at =
          let p = s.each (record { 0 = j }) x at in
          let d = get-there program.components j (omega (arith, get-within (places program.components disks) j p.place p.at, places-count program.components disks)) in
          (d.0, (d.1, made-has Fresh program print (record { 0 = j }) p.place x p.made ∙ p.has ∙ sym (has-at program (record { 0 = j }) d.0 (not (is_outside d.0.kind)) d.1 refl)))

      under-fresh : Stands b Fresh program print disks made rest → (k : ℕ) (disk : D) → slice_get (disks_under made) k ≡ Some disk → IsBegun b program print k disk
      under-fresh s k disk at =
          (under-each (λ j n z. IsBegun b program print n z) made
          (λ j x t there has.
          let p = s.each (record { 0 = j }) x there in
          record {
            who = record { 0 = j };
            has = sym p.has ∙ sym (made-has Fresh program print (record { 0 = j }) p.place x p.made) ∙ ap is_some has;
            place = sym (count-under made program.components (placed-kind s) j (omega (arith, get-within made j x there)));
            leaves = λ keeps image may. part-fresh keeping_tells program print (record { 0 = j }) p.place x p.made t has keeps image (inr (image, may, may_none t.held image));
          })
          k disk at).1

      same-past : (old new : D) → drop (length (disks_under made)) disks ≡ old ∷ left → drop (length (disks_under made) + 1) disks ≡ drop (length (disks_under made) + 1) (disks_under made ++ new ∷ left)
      same-past old new untouched =
          next-drop disks (length (disks_under made)) old left untouched
          ∙ sym (next-drop (disks_under made ++ new ∷ left) (length (disks_under made)) new left (drop-append_seam (disks_under made) (new ∷ left)))

      begun-with : Stands b Fresh program print disks made rest → (old new : D) → rest ≡ old ∷ left → AreBegun b program print disks (disks_under made ++ new ∷ left)
      begun-with s old new split = record {
        made = length (disks_under made);
        begun = length (disks_under made) + 1;
        one = omega arith;
        fresh = λ k disk l at. under-fresh s k disk (sym (get-first (disks_under made) (new ∷ left) k l) ∙ at);
        later = λ k x y l was is.
            let same : x ≡ y = same-some x y (sym was ∙ get-past disks (disks_under made ++ new ∷ left) (length (disks_under made) + 1) k (same-past old new (s.untouched ∙ split)) l ∙ is) in
            subst (λ z. LeavesNoMore b x z) same (read-none b only_now x).1;
      }

      pub begun-step : (way : Beginning) → way ≡ Fresh → Stands b way program print disks made rest → (place : Option D) → rest ≡ option_to_list place ++ left → (refused : LoadRefused (Torn D)) → FailsOver b way (record { 0 = length made }) print place refused → AreBegun b program print disks (disks_under made ++ refused.disk.inner ∷ left)
      begun-step way fresh s None split refused fails = absurd fails
      begun-step way fresh s (Some old) split refused fails = begun-with (subst (λ w. Stands b w program print disks made rest) fresh s) old refused.disk.inner split
