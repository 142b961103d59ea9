-- What comes out of the berths, side by side.
use Rattle.std.proofs.Common.{◌≡◌, ⊎_elim, refl, sym, ap, subst, ◌∙◌, ℕ, zero, suc, ◌+◌, ◌<◌, ◌≤◌, Bool, true, List, [], ◌∷◌, ◌++◌, map, length, get_or, arith, Option, Some, None, option_map}
use Rattle.std.specs.Prelude.{slice_get, is_some}
use Rattle.std.proofs.lemmas.List.{map-append, length-map}
use Rattle.std.proofs.lemmas.Option.{same_Some, slice_get-map, slice_get_within, slice_get_read}
use Rattle.atomic_table.specs.Seated.{TableId}
use Rattle.ic_base.specs.declared.events.Event.{Event}
use Rattle.ic_base.specs.declared.messages.ComId.{ComId}
use Rattle.ic_base.specs.declared.refusals.WorldRefused.{WorldRefused}
use Rattle.ic_base.specs.declared.scenario.Program.{Program}
use Rattle.def_live.specs.Turns.{Choice}
use Rattle.def_step.specs.World.{Node, External}
use Rattle.ic_disk.specs.TornDisks.{Torn}
use Rattle.ic_disk.specs.declared.disk.Disk.{Ghosts}
use Rattle.ic_lane.specs.Lanes.{In, Out}
use Rattle.ic_disk.specs.Torns.{torn}
use Rattle.ic_node.specs.Views.{com_of, disk_of, Tells}
use Rattle.ic_node.specs.declared.component.Component.{Component}
use Rattle.ic_turn.specs.Doing.{standing_of}
use Rattle.ic_turn.specs.Progresses.{left_of, received_of, packets_of}
use Rattle.ic_turn.specs.Standings.{Standing}
use Rattle.ic_turn.specs.declared.progress.Progress.{Progress}
use Rattle.ic_turn.proofs.Places.{there, get_more}
use Rattle.law_run.specs.ProgramBytes.{HasBytes}
use Rattle.ic_live.specs.Berthed.{berthed, AreLeftOf}
use Rattle.ic_live.specs.Berths.{Berthed, BerthHolds, AreEndsOf}
use Rattle.ic_live.specs.Carrying.{FailsToCarryOut}
use Rattle.ic_live.specs.Faults.{faults_of, HaveFailed}
use Rattle.ic_live.specs.Ended.{AreEnded, IsGoing, AreReturned, HaveLeft, AllTell, AreJoined, WasRefused}
use Rattle.ic_live.specs.Grids.{SameLane, InOrder, Paired, IsSquare}
use Rattle.ic_live.specs.Standings.{IsKept, berth_of}
use Rattle.ic_live.proofs.Closed.{are-closed, berth-at, outside-left, all, plans, berths}
use Rattle.ic_live.proofs.Closings.{part-of, part-at}
use Rattle.ic_live.proofs.Moored.{Fails, Holds, outs-count, ins-count}

-- the type of a berth keeps the same of all peers and the fingerprint of the run
pub holds-whole : {X : Type 0} (node : X → Node) (which : X → ComId) (file : X → List ℕ) (tells : X → Type 0) (is_over has : X → Bool) (faults : X → ℕ) (fails : Program → List ℕ → Option Choice → X → ℕ → ℕ → X → WorldRefused → Type 0) (program : Program) (print : List ℕ) (plan : ComId → List Event) (lane : ℕ → ℕ → TableId) (began : ℕ → ℕ) (honest : Type 0) (fingerprint : List ℕ) (peers : List ComId) (b : Berthed X)
    → BerthHolds node which file tells is_over has faults fails program print plan lane began honest fingerprint peers b → BerthHolds node which file tells is_over has faults fails program print plan lane began honest print (berthed program) b
holds-whole node which file tells is_over has faults fails program print plan lane began honest fingerprint peers b h =
    let P : List ℕ × List ComId → Type 0 = λ z. BerthHolds node which file tells is_over has faults fails program print plan lane began honest z.0 z.1 b in
    subst P (λ i. (h.own_print i, h.all_peers i)) h

-- the lists ---------------------------------------------------------------------------------------------------

module _ {X : Type 0} (holds : Berthed X → Type 0) where
  pub ended-none : (xs : List X) (ps : List Progress) (rs : List (Option WorldRefused)) (is : List (List In)) (os : List (List Out)) → xs ≡ [] → ps ≡ [] → rs ≡ [] → is ≡ [] → os ≡ [] → AreEnded holds xs ps rs is os
  ended-none xs ps rs is os a b c d e = record { berths = []; components_are = a; progresses_are = b; refusals_are = c; ins_are = d; outs_are = e; hold = λ k y at. absurd (grind (arith, at)) }

  pub ended-next : (xs news : List X) (ps nps : List Progress) (rs nrs : List (Option WorldRefused)) (is nis : List (List In)) (os nos : List (List Out)) (b : Berthed X) → AreEnded holds xs ps rs is os → b.place ≡ length xs → holds b
      → news ≡ xs ++ b.component ∷ [] → nps ≡ ps ++ b.progress ∷ [] → nrs ≡ rs ++ b.refused ∷ [] → nis ≡ is ++ b.ins ∷ [] → nos ≡ os ++ b.outs ∷ [] → AreEnded holds news nps nrs nis nos
  ended-next xs news ps nps rs nrs is nis os nos b e place h a1 a2 a3 a4 a5 = record {
    berths = e.berths ++ b ∷ [];
    components_are = a1 ∙ ap (λ l. l ++ b.component ∷ []) e.components_are ∙ sym (map-append (λ (y : Berthed X). y.component) e.berths (b ∷ []));
    progresses_are = a2 ∙ ap (λ l. l ++ b.progress ∷ []) e.progresses_are ∙ sym (map-append (λ (y : Berthed X). y.progress) e.berths (b ∷ []));
    refusals_are = a3 ∙ ap (λ l. l ++ b.refused ∷ []) e.refusals_are ∙ sym (map-append (λ (y : Berthed X). y.refused) e.berths (b ∷ []));
    ins_are = a4 ∙ ap (λ l. l ++ b.ins ∷ []) e.ins_are ∙ sym (map-append (λ (y : Berthed X). y.ins) e.berths (b ∷ []));
    outs_are = a5 ∙ ap (λ l. l ++ b.outs ∷ []) e.outs_are ∙ sym (map-append (λ (y : Berthed X). y.outs) e.berths (b ∷ []));
    hold = λ k y at. ⊎_elim
        (λ (q : (k ≡ length e.berths) × (y ≡ b)). let P : Berthed X → Type 0 = λ z. (z.place ≡ k) × holds z in subst P (sym q.1) (place ∙ many ∙ sym q.0, h))
        (λ (q : (k < length e.berths) × (slice_get e.berths k ≡ Some y)). e.hold k y q.1)
        (get_more e.berths b y k at);
  }
    where
      many : length xs ≡ length e.berths
      many = ap (λ (l : List X). length l) e.components_are ∙ length-map e.berths (λ (y : Berthed X). y.component)

  -- as many of each
  module _ (xs : List X) (ps : List Progress) (rs : List (Option WorldRefused)) (is : List (List In)) (os : List (List Out)) (e : AreEnded holds xs ps rs is os) where
    pub many-components : length xs ≡ length e.berths
    many-components = ap (λ (l : List X). length l) e.components_are ∙ length-map e.berths (λ (y : Berthed X). y.component)

    pub many-progresses : length ps ≡ length e.berths
    many-progresses = ap (λ (l : List Progress). length l) e.progresses_are ∙ length-map e.berths (λ (y : Berthed X). y.progress)

    pub many-refusals : length rs ≡ length e.berths
    many-refusals = ap (λ (l : List (Option WorldRefused)). length l) e.refusals_are ∙ length-map e.berths (λ (y : Berthed X). y.refused)

    pub many-ins : length is ≡ length e.berths
    many-ins = ap (λ (l : List (List In)). length l) e.ins_are ∙ length-map e.berths (λ (y : Berthed X). y.ins)

    pub many-outs : length os ≡ length e.berths
    many-outs = ap (λ (l : List (List Out)). length l) e.outs_are ∙ length-map e.berths (λ (y : Berthed X). y.outs)

-- one that no refusal ended ----------------------------------------------------------------------------------------

module _ {D : Type 0} {d : Ghosts D} (fails : Fails d) (program : Program) (print : List ℕ) (plan : ComId → List Event) (lane : ℕ → ℕ → TableId) (began : ℕ → ℕ) (honest : Type 0)
    (xs : List (Component D d)) (ps : List Progress) (rs : List (Option WorldRefused)) (ins : List (List In)) (outs : List (List Out)) (e : AreEnded (λ b. Holds fails program print plan lane began honest print (berthed program) b) xs ps rs ins outs) where
  pub going-at : (k : ℕ) (x : Component D d) → slice_get xs k ≡ Some x → slice_get rs k ≡ Some None → IsGoing program print k x
  going-at k x at none =
      let b = part-of (λ (y : Berthed _). y.component) e.berths xs k x e.components_are at in
      let h = e.hold k b.0 b.1 in
      let g = h.1.goes_on (same_Some b.0.refused None (sym (part-at (λ (y : Berthed _). y.refused) e.berths rs k b.0 e.refusals_are b.1) ∙ none)) in
      let y : IsGoing program print k b.0.component = record {
        at_place = subst (λ j. slice_get (berthed program) j ≡ Some (com_of b.0.component)) h.0 g.at_place;
        not_over = g.going;
        fits = g.fits;
        has_disk = h.1.has_disk;
        logs = g.logs;
      } in
      subst (IsGoing program print k) (sym b.2) y

  pub returned : length xs ≡ length (berthed program) → ((k : ℕ) (r : Option WorldRefused) → slice_get rs k ≡ Some r → r ≡ None) → AreReturned program print xs ps
  returned n quiet = let holds : Berthed (Component D d) → Type 0 = λ b. Holds fails program print plan lane began honest print (berthed program) b in record {
    one_each = n;
    progresses = many-progresses holds xs ps rs ins outs e ∙ sym (many-components holds xs ps rs ins outs e);
    going = λ k x at.
        let b = part-of (λ (y : Berthed _). y.component) e.berths xs k x e.components_are at in
        let r = part-at (λ (y : Berthed _). y.refused) e.berths rs k b.0 e.refusals_are b.1 in
        going-at k x at (r ∙ ap (λ z. Some z) (quiet k b.0.refused r));
  }

  -- what each left is an end of its list
  pub have-left : ((k : ℕ) (r : Option WorldRefused) → slice_get rs k ≡ Some r → r ≡ None) → HaveLeft plan xs ps
  have-left quiet k x p at_x at_p =
      let b = part-of (λ (y : Berthed _). y.component) e.berths xs k x e.components_are at_x in
      let q : p ≡ b.0.progress = same_Some p b.0.progress (sym at_p ∙ part-at (λ (y : Berthed _). y.progress) e.berths ps k b.0 e.progresses_are b.1) in
      let g = (e.hold k b.0 b.1).1.goes_on (quiet k b.0.refused (part-at (λ (y : Berthed _). y.refused) e.berths rs k b.0 e.refusals_are b.1)) in
      let P : Component D d × Progress → Type 0 = λ z. AreLeftOf (plan (com_of z.0)) (left_of z.1) in
      subst P (λ i. (sym b.2 i, sym q i)) g.listed

  -- the disk of each has failed no less than when the run began
  pub failed : HaveFailed began xs
  failed k x at =
      let b = part-of (λ (y : Berthed _). y.component) e.berths xs k x e.components_are at in
      let h = e.hold k b.0 b.1 in
      let P : ℕ × Component D d → Type 0 = λ z. began z.0 ≤ faults_of z.1 in
      subst P (λ i. (h.0 i, sym b.2 i)) h.1.since

  -- in an honest run the disk of each tells its bytes
  pub told : honest → AllTell xs
  told y k x at =
      let b = part-of (λ (y : Berthed _). y.component) e.berths xs k x e.components_are at in
      subst Tells (sym b.2) ((e.hold k b.0 b.1).1.told y)

-- behind the joins --------------------------------------------------------------------------------------------

module _ {D : Type 0} {d : Ghosts D} (fails : Fails d) (program : Program) (print : List ℕ) (plan : ComId → List Event) (lane : ℕ → ℕ → TableId) (began : ℕ → ℕ) (honest : Type 0)
    (xs : List (Component D d)) (ps : List Progress) (rs : List (Option WorldRefused)) (ins : List (List In)) (outs : List (List Out)) (e : AreEnded (λ b. Holds fails program print plan lane began honest print (berthed program) b) xs ps rs ins outs) (n : length xs ≡ length (berthed program)) where
  many : length e.berths ≡ length (berthed program)
  many = sym (many-components (λ b. Holds fails program print plan lane began honest print (berthed program) b) xs ps rs ins outs e) ∙ n

  ends-at : (k : ℕ) (b : Berthed (Component D d)) → slice_get e.berths k ≡ Some b → AreEndsOf lane k (length (berthed program)) b.ins b.outs
  ends-at k b at = let h = e.hold k b at in subst (λ j. AreEndsOf lane j (length (berthed program)) b.ins b.outs) h.0 h.1.ends

  pub square : IsSquare outs ins
  square = (
    (λ i os at. let b = part-of (λ (y : Berthed _). y.outs) e.berths outs i os e.outs_are at in
        ap (λ (l : List Out). length l) b.2 ∙ outs-count lane i (length (berthed program)) b.0.ins b.0.outs (ends-at i b.0 b.1) ∙ sym many ∙ sym (many-ins (λ b. Holds fails program print plan lane began honest print (berthed program) b) xs ps rs ins outs e)),
    λ j is at. let b = part-of (λ (y : Berthed _). y.ins) e.berths ins j is e.ins_are at in
        ap (λ (l : List In). length l) b.2 ∙ ins-count lane j (length (berthed program)) b.0.ins b.0.outs (ends-at j b.0 b.1) ∙ sym many ∙ sym (many-outs (λ b. Holds fails program print plan lane began honest print (berthed program) b) xs ps rs ins outs e),
  )

  pub same-lanes : Paired SameLane outs ins
  same-lanes i j os o is x at_os at_o at_is at_x =
      let a = part-of (λ (y : Berthed _). y.outs) e.berths outs i os e.outs_are at_os in
      let b = part-of (λ (y : Berthed _). y.ins) e.berths ins j is e.ins_are at_is in
      let o' : slice_get a.0.outs j ≡ Some o = ap (λ l. slice_get l j) (sym a.2) ∙ at_o in
      let x' : slice_get b.0.ins i ≡ Some x = ap (λ l. slice_get l i) (sym b.2) ∙ at_x in
      (ends-at i a.0 a.1).1.1 j o.lane (mapped (λ (y : Out). y.lane) a.0.outs j o o') ∙ sym ((ends-at j b.0 b.1).0.1 i x.lane (mapped (λ (y : In). y.lane) b.0.ins i x x'))
    where
      mapped : {A : Type 0} (f : A → TableId) (ys : List A) (k : ℕ) (y : A) → slice_get ys k ≡ Some y → slice_get (map f ys) k ≡ Some (f y)
      mapped f ys k y at = slice_get-map f ys k ∙ ap (option_map f) at

  stood : Option (Berthed (Component D d)) → Standing
  stood (Some b) = standing_of b.component b.progress
  stood None = record { node = External; file = []; left = []; answers = []; shown = []; turns = 0 }

  outs_in : Option (Berthed (Component D d)) → List Out
  outs_in (Some b) = b.outs
  outs_in None = []

  ins_in : Option (Berthed (Component D d)) → List In
  ins_in (Some b) = b.ins
  ins_in None = []

  abbrev s : ℕ → Standing
  s k = stood (slice_get e.berths k)

  abbrev os_at : ℕ → List Out
  os_at k = outs_in (slice_get e.berths k)

  abbrev is_at : ℕ → List In
  is_at k = ins_in (slice_get e.berths k)

  -- the berth in a place
  in-place : (i : ℕ) (c : ComId) → slice_get (berthed program) i ≡ Some c → (b : Berthed (Component D d)) × (slice_get e.berths i ≡ Some b)
  in-place i c at = there e.berths (berthed program) i c (sym many) at

  at_outs : (i : ℕ) (c : ComId) → slice_get (berthed program) i ≡ Some c → slice_get outs i ≡ Some (os_at i)
  unfolding in-place outs_in
  at_outs i c at = let b = in-place i c at in part-at (λ (y : Berthed _). y.outs) e.berths outs i b.0 e.outs_are b.1 ∙ ap (λ o. Some (outs_in o)) (sym b.1)

  at_ins : (i : ℕ) (c : ComId) → slice_get (berthed program) i ≡ Some c → slice_get ins i ≡ Some (is_at i)
  unfolding in-place ins_in
  at_ins i c at = let b = in-place i c at in part-at (λ (y : Berthed _). y.ins) e.berths ins i b.0 e.ins_are b.1 ∙ ap (λ o. Some (ins_in o)) (sym b.1)

  -- no refusal ended one
  module _ (quiet : (k : ℕ) (r : Option WorldRefused) → slice_get rs k ≡ Some r → r ≡ None) where
    quiet-at : (k : ℕ) (b : Berthed (Component D d)) → slice_get e.berths k ≡ Some b → b.refused ≡ None
    quiet-at k b at = quiet k b.refused (part-at (λ (y : Berthed _). y.refused) e.berths rs k b e.refusals_are at)

    com-at : (k : ℕ) (b : Berthed (Component D d)) → slice_get e.berths k ≡ Some b → slice_get (berthed program) k ≡ Some (com_of b.component)
    com-at k b at = let h = e.hold k b at in subst (λ j. slice_get (berthed program) j ≡ Some (com_of b.component)) h.0 (h.1.goes_on (quiet-at k b at)).at_place

    keeps : honest → (i : ℕ) (c : ComId) → slice_get (berthed program) i ≡ Some c → IsKept program print c (plan c) (s i) (is_at i) (os_at i)
    unfolding stood ins_in in-place outs_in
    keeps is i c at =
        let b = in-place i c at in
        let h = e.hold i b.0 b.1 in
        let P : ComId × Standing × List In × List Out → Type 0 = λ t. IsKept program print t.0 (plan t.0) t.1 t.2 t.3 in
        subst P (λ j. (
          same_Some (com_of b.0.component) c (sym (com-at i b.0 b.1) ∙ at) j,
          ap stood (sym b.1) j,
          ap ins_in (sym b.1) j,
          ap outs_in (sym b.1) j,
        )) ((h.1.goes_on (quiet-at i b.0 b.1)).kept is)

    pub joins : HasBytes program → Paired InOrder outs ins → honest → AreJoined program print plan xs ps
    unfolding outs_in in-place stood
    joins bytes order y =
        let k = keeps y in
        let rows : (i : ℕ) (c : ComId) → slice_get (berthed program) i ≡ Some c → length (os_at i) ≡ length (berthed program) = λ i c at. let b = in-place i c at in ap (λ o. length (outs_in o)) b.1 ∙ outs-count lane i (length (berthed program)) b.0.ins b.0.outs (ends-at i b.0 b.1) in
        record {
          plans = plans program print plan outs ins bytes s os_at is_at at_outs at_ins k;
          lanes = all program print plan outs ins bytes s os_at is_at at_outs at_ins k;
          berths = berths program print plan outs ins bytes s os_at is_at at_outs at_ins k;
          closed = are-closed program print plan outs ins bytes s os_at is_at at_outs at_ins k rows order;
          told = told fails program print plan lane began honest xs ps rs ins outs e y;
          outside = λ c none. outside-left program print plan outs ins bytes s os_at is_at at_outs at_ins k c none;
          of = λ i x p at_x at_p.
              let b = part-of (λ (y : Berthed _). y.component) e.berths xs i x e.components_are at_x in
              let q : p ≡ b.0.progress = same_Some p b.0.progress (sym at_p ∙ part-at (λ (y : Berthed _). y.progress) e.berths ps i b.0 e.progresses_are b.1) in
              let at : slice_get (berthed program) i ≡ Some (com_of x) = com-at i b.0 b.1 ∙ ap (λ z. Some (com_of z)) (sym b.2) in
              let w = berth-at program print plan outs ins bytes s os_at is_at at_outs at_ins k i (com_of x) at in
              let one : standing_of x p ≡ standing_of b.0.component b.0.progress = λ j. standing_of (b.2 j) (q j) in
              let stands : standing_of x p ≡ s w.0 = one ∙ ap stood (sym b.1) ∙ ap (λ k. stood (slice_get e.berths k)) (sym w.2) in
              record {
                sent = (k w.0 (com_of x) w.1).sent;
                received = (k w.0 (com_of x) w.1).received;
                is = w.3 ∙ ap (λ z. berth_of program (com_of x) z (k w.0 (com_of x) w.1).sent (k w.0 (com_of x) w.1).received) (sym stands);
                list_is = w.4;
              };
        }

-- one that a refusal ended
module _ {D : Type 0} (g : Ghosts D) (program : Program) (print : List ℕ) (plan : ComId → List Event) (lane : ℕ → ℕ → TableId) (began : ℕ → ℕ) (honest : Type 0)
    (xs : List (Component (Torn D) (torn g))) (ps : List Progress) (rs : List (Option WorldRefused)) (ins : List (List In)) (outs : List (List Out)) (e : AreEnded (λ b. Holds (FailsToCarryOut g) program print plan lane began honest print (berthed program) b) xs ps rs ins outs) where
  was-refused : (k : ℕ) (why : WorldRefused) (p : Progress) → length xs ≡ length (berthed program) → slice_get rs k ≡ Some (Some why) → slice_get ps k ≡ Some p → ((j : ℕ) → j < k → slice_get rs j ≡ Some None) → WasRefused g began honest program print xs (received_of p) (packets_of p) why
  was-refused k why p n at at_p before =
      let b = part-of (λ (y : Berthed _). y.refused) e.berths rs k (Some why) e.refusals_are at in
      let r = (e.hold k b.0 b.1).1.ended why (sym b.2) in
      let same : p ≡ b.0.progress = same_Some p b.0.progress (sym at_p ∙ part-at (λ (y : Berthed _). y.progress) e.berths ps k b.0 e.progresses_are b.1) in
      record {
        one_each = n;
        have_disks = λ j x at_x.
            let y = part-of (λ (z : Berthed _). z.component) e.berths xs j x e.components_are at_x in
            subst (λ (z : Component (Torn D) (torn g)). is_some (disk_of z) ≡ true) (sym y.2) (e.hold j y.0 y.1).1.has_disk;
        place = k;
        old = r.old;
        new = b.0.component;
        next = r.next;
        at_place = subst (λ j. slice_get (berthed program) j ≡ Some (com_of r.old)) (e.hold k b.0 b.1).0 r.at_place;
        came_out = part-at (λ (y : Berthed _). y.component) e.berths xs k b.0 e.components_are b.1;
        own = r.own;
        cause = subst (λ (z : Progress). FailsToCarryOut g program print r.next r.old (received_of z) (packets_of z) b.0.component why) (sym same) r.cause;
        since = subst (λ j. began j ≤ faults_of r.old) (e.hold k b.0 b.1).0 r.since;
        sound = r.sound;
        lowest = λ j x below at_x. going-at (FailsToCarryOut g) program print plan lane began honest xs ps rs ins outs e j x at_x (before j below);
      }

  -- its place is one of those of all, whatever the code calls the lists
  pub refused-within : (k : ℕ) (r : List (Option WorldRefused)) (p : List Progress) (why : WorldRefused) → r ≡ rs → p ≡ ps → slice_get r k ≡ Some (Some why) → k < length p
  refused-within k r p why a b at =
      let holds : Berthed (Component (Torn D) (torn g)) → Type 0 = λ b. Holds (FailsToCarryOut g) program print plan lane began honest print (berthed program) b in
      omega (arith, slice_get_within r k (Some why) at, ap (λ (l : List (Option WorldRefused)). length l) a, ap (λ (l : List Progress). length l) b, many-refusals holds xs ps rs ins outs e, many-progresses holds xs ps rs ins outs e)

  pub refusal-of : (k : ℕ) (r : List (Option WorldRefused)) (p : List Progress) (why : WorldRefused) (x : Progress) → length xs ≡ length (berthed program) → r ≡ rs → p ≡ ps → slice_get r k ≡ Some (Some why) → ((j : ℕ) → j < k → slice_get r j ≡ Some None) → x ≡ get_or p k x → WasRefused g began honest program print xs (received_of x) (packets_of x) why
  refusal-of k r p why x n a b at before is =
      was-refused k why x n (ap (λ l. slice_get l k) (sym a) ∙ at) (ap (λ l. slice_get l k) (sym b) ∙ slice_get_read p (length p) k x refl (refused-within k r p why a b at) is) (λ j below. ap (λ l. slice_get l j) (sym a) ∙ before j below)

-- none of those before a place is a refusal, and none in it
pub quiet-more : (rs : List (Option WorldRefused)) (at k : ℕ) → slice_get rs at ≡ Some None → ((j : ℕ) → j < at → slice_get rs j ≡ Some None) → k < at + 1 → slice_get rs k ≡ Some None
quiet-more [] at k here before small = absurd (cc here)
quiet-more (r ∷ rs) zero zero here before small = here
quiet-more (r ∷ rs) zero (suc k) here before small = absurd (omega (arith, small))
quiet-more (r ∷ rs) (suc at) zero here before small = before 0 (omega arith)
quiet-more (r ∷ rs) (suc at) (suc k) here before small = quiet-more rs at k here (λ j l. before (suc j) (omega (arith, l))) (omega (arith, small))
