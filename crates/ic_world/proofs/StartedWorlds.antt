-- A world whose components all began over fresh logs.
use Rattle.std.proofs.Common.{◌≡◌, ◌∙◌, sym, ap, subst, refl, ℕ, suc, ◌+◌, true, false, List, [], ◌∷◌, length, map, arith, Option, Some, None}
use Rattle.std.specs.Prelude.{◌++◌, slice_get, take, drop, not, is_some, option_map, unwrap_or, Result, Ok, Err, IfOk, IfErr}
use Rattle.std.proofs.lemmas.List.{append-nil, drop_all, take_all}
use Rattle.ic_base.specs.declared.messages.ComId.{ComId}
use Rattle.ic_base.specs.declared.messages.Kind.{Kind}
use Rattle.ic_base.specs.declared.messages.Kind.TheVariants as kinds
use Rattle.ic_base.specs.declared.scenario.Component.{Component}
use Rattle.ic_base.specs.declared.scenario.Program.{Program}
use Rattle.ic_base.specs.declared.refusals.StartWhy.{StartWhy}
use Rattle.ic_base.specs.declared.refusals.StartWhy.TheVariants as starts
use Rattle.def_facts.specs.Playable.{IsPlayable}
use Rattle.def_log.specs.Frame.{fresh}
use Rattle.def_run.specs.Openings.{IsStarted, IsStartRefused, start_refusal}
use Rattle.def_run.specs.SystemStates.{file_in, has_disk}
use Rattle.def_step.specs.World.{Node, first_node, first_nodes, first_world}
use Rattle.ic_disk.proofs.Disks.{Keeps-trans}
use Rattle.ic_disk.specs.TornDisks.{Torn}
use Rattle.ic_disk.specs.declared.disk.Disk.{Ghosts}
use Rattle.ic_node.specs.Nodes.{read_of}
use Rattle.ic_disk.specs.Torns.{torn}
use Rattle.ic_node.specs.Views.{node_of, file_of}
use Rattle.ic_node.specs.declared.component.Component.{Component as Part}
use Rattle.law_settle.proofs.Reaching.{first_world_puts_to_kept}
use Rattle.law_settle.proofs.Worlds.{first_world_is_represented}
use Rattle.law_settle.specs.Kept.{IsWorldPutToKept}
use Rattle.law_settle.specs.Represented.{IsWorldRepresented}
use Rattle.ic_world.specs.Opening.{is_outside, places, place_in, files_of, disks_under, files_on, AllTell, AllKept, LeavesFresh, IsStartFailed, Starts, FailsToStart}
use Rattle.ic_world.specs.Making.{AreBlank, IsNoneBlank, IsMadeOver, AreMade, Opens, FailsToMake}
use Rattle.ic_world.specs.Views.{components_of, world_of, state_of}
use Rattle.ic_world.specs.declared.making.Beginning.TheVariants.{Fresh}
use Rattle.ic_world.specs.declared.opening.StartRefused.{StartRefused}
use Rattle.ic_world.specs.declared.world.World.{World}
use Rattle.ic_world.proofs.Begun.{part-fresh}
use Rattle.ic_world.proofs.Lists.{get-map, get-within, get-there, none-past}
use Rattle.ic_world.proofs.Makings.{no-disk, tells-there, tells-part, file-there, kept-at, kept-count, kept-trans, kept-tell, by-kept, fault-since}
use Rattle.ic_world.proofs.Opened.{kept-nodes, tells-all, none-has, over-nodes}
use Rattle.ic_world.proofs.Places.{has-at, places-in, places-count, files-none}

nodes-first : {X : Type 0} (program : Program) (node : X → Node) (i : ℕ) (ds : List Component) (xs : List X) → length xs ≡ length ds → ((k : ℕ) (d : Component) (x : X) → slice_get ds k ≡ Some d → slice_get xs k ≡ Some x → node x ≡ first_node program (record { 0 = i + k }) d.kind) → map node xs ≡ first_nodes program i ds
nodes-first program node i [] [] l same = refl
nodes-first program node i (d ∷ ds) (x ∷ xs) l same =
    let here : i + 0 ≡ i = omega arith in
    ap (λ z. z ∷ map node xs) (same 0 d x refl refl ∙ ap (λ j. first_node program (record { 0 = j }) d.kind) here)
    ∙ ap (λ zs. first_node program (record { 0 = i }) d.kind ∷ zs)
    (nodes-first program node (i + 1) ds xs (omega (arith, l)) (λ k e y at is. let next : i + suc k ≡ i + 1 + k = omega arith in same (suc k) e y at is ∙ ap (λ j. first_node program (record { 0 = j }) e.kind) next))
nodes-first program node i [] (x ∷ xs) l same = absurd (omega (arith, l))
nodes-first program node i (d ∷ ds) [] l same = absurd (omega (arith, l))

module _ {D : Type 0} (b : Ghosts D) (program : Program) (print : List ℕ) (disks : List D) where
  module _ (made : List (Part (Torn D) (torn b))) (are : AreMade b Fresh program print disks made) where
    node-so : (d : Component) (x : Part (Torn D) (torn b)) (c : ComId) (o : Option D) → slice_get program.components c.0 ≡ Some d → is_some o ≡ not (is_outside d.kind) → IsMadeOver b Fresh program c print o x → node_of x ≡ first_node program c d.kind
    node-so d x c (Some old) at fits is = is.begins.first d at
    node-so d x c None at fits is = is.node ∙ by d.kind fits
      where
        by : (k : Kind) → false ≡ not (is_outside k) → first_node program c kinds.Xcom ≡ first_node program c k
        by kinds.Xcom e = refl
        by kinds.Pcom e = absurd (cc)
        by kinds.Tcom e = absurd (cc)

    nodes-so : map (λ x. node_of x) made ≡ first_nodes program 0 program.components
    nodes-so = nodes-first program (λ x. node_of x) 0 program.components made are.count at
      where
        at : (k : ℕ) (d : Component) (x : Part (Torn D) (torn b)) → slice_get program.components k ≡ Some d → slice_get made k ≡ Some x → node_of x ≡ first_node program (record { 0 = 0 + k }) d.kind
        at k d x e f =
            let p = are.each (record { 0 = k }) x f in
            let same : k ≡ 0 + k = omega arith in
            node-so d x (record { 0 = k }) p.place e (p.has ∙ sym (has-at program (record { 0 = k }) d (not (is_outside d.kind)) e refl)) p.made
            ∙ ap (λ j. first_node program (record { 0 = j }) d.kind) same

    file-at : (c : ComId) (o : Option (Part (Torn D) (torn b))) → slice_get made c.0 ≡ o → file_in (map (λ x. file_of x) made) c ≡ unwrap_or (option_map (λ x. file_of x) o) []
    file-at c o is = ap (λ p. unwrap_or p []) (get-map (λ x. file_of x) made c.0) ∙ ap (λ p. unwrap_or (option_map (λ x. file_of x) p) []) is

    no-file : (c : ComId) → slice_get made c.0 ≡ None → file_in (files_on b program disks) c ≡ []
    no-file c e = none-file (slice_get (places program.components disks) c.0) refl
      where
        none-file : (o : Option (Option D)) → slice_get (places program.components disks) c.0 ≡ o → file_in (files_on b program disks) c ≡ []
        none-file None is = files-none b.seen program.components disks c.0 is
        none-file (Some place) is = absurd (omega (arith, get-within (places program.components disks) c.0 place is, places-count program.components disks, none-past made c.0 e, are.count))

    module _ (all : AllTell b disks) (blank : (k : ℕ) (disk : D) → slice_get disks k ≡ Some disk → b.tells disk → b.seen disk ≡ []) where
      blank-so : (c : ComId) → file_in (files_on b program disks) c ≡ []
      blank-so c = by (slice_get made c.0) refl
        where
          at : (o : Option D) → slice_get (places program.components disks) c.0 ≡ Some o → file_in (files_on b program disks) c ≡ []
          at None is = file-there b program disks c None is
          at (Some old) is = let there = places-in program.components disks c.0 old is in file-there b program disks c (Some old) is ∙ blank there.0 old there.1 (all there.0 old there.1)

          by : (o : Option (Part (Torn D) (torn b))) → slice_get made c.0 ≡ o → file_in (files_on b program disks) c ≡ []
          by None e = no-file c e
          by (Some x) e = let p = are.each c x e in at p.place p.at

      fresh-so : (c : ComId) → has_disk program c ≡ true → file_in (map (λ x. file_of x) made) c ≡ fresh print c.0
      fresh-so c has = by (slice_get made c.0) refl
        where
          at : (x : Part (Torn D) (torn b)) (o : Option D) → slice_get (places program.components disks) c.0 ≡ Some o → is_some o ≡ has_disk program c → IsMadeOver b Fresh program c print o x → file_of x ≡ fresh print c.0
          at x None is fits made = absurd (let clash : false ≡ true = fits ∙ has in cc)
          at x (Some old) is fits made = made.begins.fresh (tells-part b program print disks Fresh c old x made (tells-there b program disks all c old is))

          by : (o : Option (Part (Torn D) (torn b))) → slice_get made c.0 ≡ o → file_in (map (λ x. file_of x) made) c ≡ fresh print c.0
          by None e = absurd (let clash : false ≡ true = sym (none-has b Fresh program print disks made are c e) ∙ has in cc)
          by (Some x) e = let p = are.each c x e in file-at c (Some x) e ∙ at x p.place p.at p.has p.made

      others-so : (c : ComId) → has_disk program c ≡ false → file_in (map (λ x. file_of x) made) c ≡ file_in (files_on b program disks) c
      others-so c has = by (slice_get made c.0) refl ∙ sym (blank-so c)
        where
          at : (x : Part (Torn D) (torn b)) (o : Option D) → is_some o ≡ has_disk program c → IsMadeOver b Fresh program c print o x → file_of x ≡ []
          at x None fits made = ap (read_of (torn b)) (no-disk b x made.node)
          at x (Some old) fits made = absurd (let clash : true ≡ false = fits ∙ has in cc)

          by : (o : Option (Part (Torn D) (torn b))) → slice_get made c.0 ≡ o → file_in (map (λ x. file_of x) made) c ≡ []
          by None e = file-at c None e
          by (Some x) e = let p = are.each c x e in file-at c (Some x) e ∙ at x p.place p.has p.made

  -- a crash leaves of each log just that it was made
  started-leaves : ((disk : D) → b.keeps disk → b.tells disk) → (new : World (Torn D) (torn b)) → Opens b Fresh program print disks new → LeavesFresh print new
  started-leaves keeping_tells new o k x disk at has keeps =
      let p = o.components.each (record { 0 = k }) x at in
      part-fresh b keeping_tells program print (record { 0 = k }) p.place x p.made disk has keeps

  pub started-fresh : ((disk : D) → b.keeps disk → b.tells disk) → (r : Result (World (Torn D) (torn b)) (StartRefused D)) → IfOk r (Opens b Fresh program print disks) → IfOk r (LeavesFresh print)
  started-fresh keeping_tells (Ok new) o = started-leaves keeping_tells new o
  started-fresh keeping_tells (Err refused) o = tt

  -- over disks that were asked, and whose files are those of the disks that were given
  module _ (given : List D) (kept : AllKept b given disks) (asked : AreBlank b program given disks) where
    same-files : AllTell b given → files_on b program disks ≡ files_on b program given
    same-files all = ap (files_of program.components) (asked.same all)

    started : IsPlayable program → (new : World (Torn D) (torn b)) → Opens b Fresh program print disks new → Starts b program print given new
    started playable new o =
        let made = components_of new in
        let world : world_of new ≡ first_world program = over-nodes (world_of new) (first_nodes program 0 program.components) (nodes-so made o.components) o.packets o.waiting o.showings in
        record {
          world = world;
          state = λ all. let here = kept-tell b given disks kept all in subst (λ files. IsStarted program print files (state_of new)) (same-files all) (record {
            blank = λ c has. blank-so made o.components here asked.blank c;
            world = world;
            fresh = fresh-so made o.components here asked.blank;
            others = others-so made o.components here asked.blank;
          });
          is_new = record {
            is_own = o.is_own;
            received = o.received;
            played = o.played;
            going = o.going;
            made = record {
              playable = playable;
              kept = kept-nodes b Fresh program print disks made o.components;
              represented = subst (λ w. IsWorldRepresented program w) (sym world) (first_world_is_represented program);
              puts = subst (λ w. IsWorldPutToKept program w) (sym world) (first_world_puts_to_kept program);
            };
            count = o.components.count;
            disks = kept-trans b given disks (disks_under made) kept (by-kept b Fresh disks (disks_under made) o.components.kept);
            tells = λ all. tells-all b Fresh program print disks made o.components (kept-tell b given disks kept all);
          };
        }

    -- none was made
    failed-since : (news : List D) (why : StartWhy) → IsStartFailed b program disks news why → IsStartFailed b program given news why
    failed-since news (starts.Failed c) f =
        let was = get-there given (place_in program c) (omega (arith, get-within disks (place_in program c) f.before f.was, kept-count b given disks kept)) in
        record { before = was.0; now = f.now; has = f.has; was = was.1; is = f.is; fault = fault-since b was.0 f.before f.now (kept-at b given disks kept (place_in program c) was.0 f.before was.1 f.was) f.fault }
    failed-since news (starts.NotBlank c) f = tt
    failed-since news (starts.Bad c place) f = tt
    failed-since news (starts.Foreign c own) f = tt
    failed-since news starts.Memory f = tt

    not-started : (refused : StartRefused D) → FailsToMake b Fresh program print disks refused → FailsToStart b program given refused
    not-started refused made = let f = made.opens in record {
      opens = record {
        why = λ all. subst (λ files. IsStartRefused (start_refusal program files) refused.why) (same-files all) (f.why (kept-tell b given disks kept all));
        failed = failed-since refused.disks.items refused.why f.failed;
        count = f.count ∙ sym (kept-count b given disks kept);
        kept = λ k old new at is. let mid = get-there disks k (omega (arith, get-within given k old at, kept-count b given disks kept)) in Keeps-trans (kept-at b given disks kept k old mid.0 at mid.1) (f.kept k mid.0 new mid.1 is);
      };
      stay = λ all some. absurd (let clash : false ≡ true = sym (ap is_some (asked.untold all)) ∙ some in cc);
    }

    pub started-ok : IsPlayable program → (r : Result (World (Torn D) (torn b)) (StartRefused D)) → IfOk r (Opens b Fresh program print disks) → IfOk r (Starts b program print given)
    started-ok playable (Ok new) o = started playable new o
    started-ok playable (Err refused) o = tt

    pub started-err : (r : Result (World (Torn D) (torn b)) (StartRefused D)) → IfErr r (FailsToMake b Fresh program print disks) → IfErr r (FailsToStart b program given)
    started-err (Ok new) f = tt
    started-err (Err refused) f = not-started refused f

-- all of a slice was written
pub whole-slice : {X : Type 0} (xs ys : List X) (len : ℕ) → len ≡ length xs → length xs ≡ length ys → take len (ys ++ drop (length ys) xs) ≡ ys
whole-slice xs ys len l same =
    ap (λ zs. take len (ys ++ zs)) (drop_all (length ys) xs (omega (arith, same))) ∙ ap (take len) (append-nil ys) ∙ take_all len ys (omega (arith, l, same))

-- the disks were only asked
pub none-started : {D : Type 0} (b : Ghosts D) (program : Program) (given : List D) (refused : StartRefused D) → AllKept b given refused.disks.items → IsNoneBlank b program given refused.disks.items refused.why → FailsToStart b program given refused
none-started b program given refused kept none = record {
  opens = record { why = none.met; failed = none.failed; count = sym (kept-count b given refused.disks.items kept); kept = kept-at b given refused.disks.items kept };
  stay = λ all some. none.stay;
}
