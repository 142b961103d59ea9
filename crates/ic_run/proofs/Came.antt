-- From worlds to the disks of a call: where a run opened, what a crash leaves on its way, and what the disks then hold.
use Rattle.std.proofs.Common.{◌≡◌, ◌∙◌, sym, ap, subst, refl, ℕ, ◌<◌, ◌≤◌, arith, Bool, true, false, List, [], ◌∷◌, ◌++◌, length, Option, Some, None, option_map, ◌⊎◌, inl, inr}
use Rattle.std.specs.Prelude.{slice_get, not, unwrap_or, ◌||◌, Ok}
use Rattle.ic_base.specs.declared.limits.TheConstants.{PACKETS}
use Rattle.ic_base.specs.declared.messages.ComId.{ComId}
use Rattle.ic_base.specs.declared.events.Event.{Event}
use Rattle.ic_base.specs.declared.events.What.{What}
use Rattle.ic_base.specs.declared.messages.Kind.{Kind}
use Rattle.ic_base.specs.declared.messages.Kind.TheVariants as kinds
use Rattle.ic_base.specs.declared.scenario.Component.{Component as Declared}
use Rattle.ic_base.specs.declared.scenario.Program.{Program}
use Rattle.ic_base.specs.Programs.{declares, is_pcom, is_tcom}
use Rattle.def_log.specs.Log.{log_of}
use Rattle.def_step.specs.World as steps
use Rattle.def_step.specs.World.{Runs, Serves, Down, External, node_at}
use Rattle.def_run.specs.CoreSteps.{is_full_at, forced_of}
use Rattle.def_run.specs.Executions.{Agenda, Executes}
use Rattle.def_run.specs.SystemStates.{SystemState, Transition, KeepsLog, KeepsLogs, file_in, last_state, has_disk}
use Rattle.ic_disk.specs.Causes.{Rose}
use Rattle.ic_disk.specs.Disk.{Keeps, CrashLeaves}
use Rattle.ic_disk.specs.TornDisks.{Torn}
use Rattle.ic_disk.specs.TornLaws.{may_none}
use Rattle.ic_disk.specs.declared.disk.Disk.{Ghosts}
use Rattle.ic_disk.specs.declared.sink.Sink as sink
use Rattle.ic_disk.proofs.Disks.{Keeps-refl}
use Rattle.ic_run.specs.Crashes.{AreAtRest, AreLeftAt}
use Rattle.ic_run.specs.Running as running
use Rattle.ic_run.specs.Running.{CrashLeavesWay, IsOnWay, KeepsAll, IsBetween}
use Rattle.ic_run.specs.Lending.{lent, left_over, merged}
use Rattle.ic_run.proofs.Places.{all_count, lent_count, lent_merged, merged_count}
use Rattle.ic_run.proofs.Programs.{number_of, inside_of, own_disk, lent_disk, other_disk, enough_back, each_place}
use Rattle.ic_node.specs.Faults.{HasFault, has_fault}
use Rattle.ic_node.specs.Meeting.{kept_disk, left_disk}
use Rattle.ic_node.specs.Nodes.{disk_in, node_with, read_of}
use Rattle.ic_disk.specs.Torns.{torn}
use Rattle.ic_node.specs.Views.{node_of, disk_of, file_of}
use Rattle.ic_node.specs.declared.component.Component.{Component}
use Rattle.ic_node.specs.declared.node.Node.{Node}
use Rattle.ic_node.specs.declared.node.Node.TheVariants.{Per, Tra, Off, Ext}
use Rattle.ic_settle.specs.Policies.{intervals_of}
use Rattle.ic_plan.specs.declared.run_texts.RunTexts.{RunTexts}
use Rattle.ic_world.specs.Allowing.{is_kept, IsMadeFor}
use Rattle.ic_world.specs.Explaining.{may_be_left, AreLeft}
use Rattle.ic_world.specs.Opening as opens
use Rattle.ic_world.specs.Opening.{is_outside, disks_in, disks_under, AllKept, IsNewWorld}
use Rattle.ic_world.specs.Stepping.{KeepsDisks, CrashLeavesLogs, CrashLeavesFiles, read_by}
use Rattle.ic_world.specs.Views.{components_of, world_of, state_of, is_over}
use Rattle.ic_world.specs.declared.world.World.{World}
use Rattle.ic_world.proofs.Durable.{files-durable}
use Rattle.ic_world.proofs.Explained.{are-images}
use Rattle.ic_world.proofs.InnerFiles.{inner-file}
use Rattle.ic_world.proofs.Lists.{get-map, get-there, get-within}
use Rattle.ic_world.proofs.Makings.{kept-count, kept-at, kept-trans, fault-since}
use Rattle.ic_world.proofs.Places.{same-some}
use Rattle.ic_run.specs.Openings.{IsOpened, files_on, TheyTell}
use Rattle.ic_run.specs.Runs.{HandsBack, HasFailed, LeavesJustFiles, AreLeftFrom, AreBetween, Outlasts, CameTo}
use Rattle.ic_run.specs.Worlds.{Opens, agenda_of}
use Rattle.ic_run.specs.declared.opening.Opening.{Opening}
use Rattle.ic_run.proofs.Files.{FitsDisk, files-under, file-of_disk}
use Rattle.ic_run.proofs.Lasting.{keeps-self, fits-at}
use Rattle.ic_run.proofs.Opened.{opened-new, opened-state, opened-world, no-packets}
use Rattle.ic_run.proofs.Standing.{keeps-first, keeps-last, comes-explained, comes-contents, comes-decided, comes-again, comes-caused, comes-to-stand}
use Rattle.ic_run.specs.Agendas.{MayRun}
use Rattle.ic_run.proofs.TakenUp.{IsTried, taken-up}
use Rattle.law_run.specs.Images.{AreImages}
use Rattle.ic_run.proofs.Under.{HasOwn, all-under, under-at}
use Rattle.ic_run.proofs.WorldFiles.{has-at, own-made}

not-false : (h : Bool) → false ≡ not h → h ≡ true
not-false true e = refl
not-false false e = absurd (cc e)

module _ {D : Type 0} (b : Ghosts D) where
  crash-below : (t u : Torn D) (P : List ℕ → Type 0) → CrashLeaves (torn b) t u P → CrashLeaves b t.inner u.inner P
  crash-below t u P run = record {
    any_moment = λ keeps. let m = run.any_moment keeps in record { later = m.later; each = m.each; earlier = m.earlier };
    behind = λ keeps image may. run.behind keeps image (inr (image, may, may_none u.held image));
  }

  own-kept : (x : Declared) (o q : Option (Torn D)) → kept_disk (torn b) o q → HasOwn b x o → HasOwn b x q
  own-kept x None None k own = own
  own-kept x None (Some u) k own = absurd k
  own-kept x (Some t) None k own = absurd k
  own-kept x (Some t) (Some u) k own = own

  some-own : (x : Declared) (o : Option (Torn D)) → HasOwn b x o → is_outside x.kind ≡ false → (t : Torn D) × (o ≡ Some t)
  some-own x None own is = absurd (let e : true ≡ false = sym own ∙ is in cc)
  some-own x (Some t) own is = (t, refl)

  module _ (program : Program) (disks : List D) (few : length program.components ≤ length disks) where
    -- disks that are kept are handed back in their places
    pub hands : (back : List D) → length back ≡ disks_in program.components → ((k : ℕ) (old new : D) → slice_get (lent program.components disks) k ≡ Some old → slice_get back k ≡ Some new → Keeps b old new)
        → HandsBack b program disks (merged program.components (left_over program.components disks) back)
    hands back count kept =
        let xs = program.components in
        record {
          count = omega (arith, merged_count xs (left_over xs disks) back count (enough_back program disks back few count), all_count xs disks few, lent_count xs disks few, count);
          kept = each_place program (Keeps b) disks back few count (λ d. Keeps-refl {d = b} d) kept;
          others = other_disk program disks back few count;
        }

    -- a disk that was taken out and failed stands failed in its place
    pub failed-at : (back : List D) → length back ≡ disks_in program.components → (c : ComId) (d e : D) → has_disk program c ≡ true → slice_get (lent program.components disks) (number_of program c) ≡ Some d → slice_get back (number_of program c) ≡ Some e
        → Rose (b.faults d) (b.faults e) ⊎ b.stopped e → HasFailed b disks (merged program.components (left_over program.components disks) back) c
    failed-at back count c d e has was now fault =
        let xs = program.components in
        (d, e, sym (lent_disk program disks few c has) ∙ was, own_disk program (left_over xs disks) back count (enough_back program disks back few count) c has ∙ now, fault)

  module _ (r : RunTexts) (opening : Opening) (disks : List D) (few : length r.program.components ≤ length disks) (old : World (Torn D) (torn b)) (opened : Opens b opening r.program r.fingerprint (lent r.program.components disks) old) where
    abbrev given : List D
    given = lent r.program.components disks

    pub new-world : IsNewWorld b r.program r.fingerprint (lent r.program.components disks) old
    new-world = opened-new b r.program r.fingerprint given old opening opened

    opens-so : TheyTell b r.program disks → IsOpened opening r.program r.fingerprint (files_on b r.program disks) (state_of old)
    opens-so tell = opened-state b r.program r.fingerprint given old opening opened tell

    own-old : (i : ℕ) (x : Declared) (p : Component (Torn D) (torn b)) → slice_get r.program.components i ≡ Some x → slice_get (components_of old) i ≡ Some p → HasOwn b x (disk_of p)
    own-old = own-made b r.program old new-world.made

    module _ (new : World (Torn D) (torn b)) (keeps : KeepsAll old new) where
      count-new : length (components_of new) ≡ length r.program.components
      count-new = keeps.count ∙ new-world.count

      own-new : (i : ℕ) (x : Declared) (q : Component (Torn D) (torn b)) → slice_get r.program.components i ≡ Some x → slice_get (components_of new) i ≡ Some q → HasOwn b x (disk_of q)
      own-new i x q at is =
          let within : i < length (components_of old) = omega (arith, get-within (components_of new) i q is, keeps.count) in
          let p = get-there (components_of old) i within in
          own-kept x (disk_of p.0) (disk_of q) (keeps.kept i p.0 q p.1 is) (own-old i x p.0 at p.1)

      pub kept-new : AllKept b (lent r.program.components disks) (disks_under (components_of new))
      kept-new = kept-trans b (lent r.program.components disks) (disks_under (components_of old)) (disks_under (components_of new)) new-world.disks (all-under b old new keeps)

      pub count-back : length (disks_under (components_of new)) ≡ disks_in r.program.components
      count-back = sym (kept-count b (lent r.program.components disks) (disks_under (components_of new)) kept-new) ∙ lent_count r.program.components disks few

      -- where the world goes on, the disks hold what it has
      pub files-new : is_over new ≡ false → (state_of new).files ≡ files_on b r.program (merged r.program.components (left_over r.program.components disks) (disks_under (components_of new)))
      files-new going =
          let xs = r.program.components in
          let back = disks_under (components_of new) in
          files-under b xs (components_of new) count-new (λ i x q at is. fits x q (disk_of q) refl (own-new i x q at is) (λ t has. inner-file b new going i q t is has))
          ∙ ap (λ l. opens.files_on b r.program l) (sym (lent_merged xs (left_over xs disks) back count-back (enough_back r.program disks back few count-back)))
        where
          fits : (x : Declared) (q : Component (Torn D) (torn b)) (o : Option (Torn D)) → disk_of q ≡ o → HasOwn b x o → ((t : Torn D) → disk_of q ≡ Some t → b.seen t.inner ≡ file_of q) → FitsDisk b x q o
          fits x q None is own seen = own
          fits x q (Some t) is own seen = (own, seen t is)

    -- the disks of a call, with those of a world in their places
    abbrev pub placed-in : World (Torn D) (torn b) → List D
    placed-in w = merged r.program.components (left_over r.program.components disks) (disks_under (components_of w))

    -- the component of a disk in its place
    record OwnAt (here : World (Torn D) (torn b)) (c : ComId) (x : D) : Type 0 where
      component : Component (Torn D) (torn b)
      over : Torn D
      there : slice_get (components_of here) c.0 ≡ Some component
      has : disk_of component ≡ Some over
      is : over.inner ≡ x

    own-at : (here : World (Torn D) (torn b)) → KeepsAll old here → (c : ComId) (x : D) → has_disk r.program c ≡ true → slice_get (placed-in here) c.0 ≡ Some x → OwnAt here c x
    own-at here keeps c x has at =
        let xs = r.program.components in
        let count = count-back here keeps in
        let d = inside_of r.program c has in
        let p = get-there (components_of here) c.0 (omega (arith, get-within xs c.0 d.0 d.1, count-new here keeps)) in
        let t = some-own d.0 (disk_of p.0) (own-new here keeps c.0 d.0 p.0 d.1 p.1) d.2 in
        let under : slice_get (disks_under (components_of here)) (number_of r.program c) ≡ Some t.0.inner = under-at b xs (components_of here) (count-new here keeps) (own-new here keeps) c.0 p.0 t.0 p.1 t.1 in
        record {
          component = p.0;
          over = t.0;
          there = p.1;
          has = t.1;
          is = same-some t.0.inner x (sym under ∙ sym (own_disk r.program (left_over xs disks) (disks_under (components_of here)) count (enough_back r.program disks (disks_under (components_of here)) few count) c has) ∙ at);
        }

    -- and the disk of a component that has one
    place-of : (here : World (Torn D) (torn b)) → KeepsAll old here → (c : ComId) (p : Component (Torn D) (torn b)) (t : Torn D) → slice_get (components_of here) c.0 ≡ Some p → disk_of p ≡ Some t → (has_disk r.program c ≡ true) × (slice_get (placed-in here) c.0 ≡ Some t.inner)
    place-of here keeps c p t at is =
        let xs = r.program.components in
        let count = count-back here keeps in
        let d = get-there xs c.0 (omega (arith, get-within (components_of here) c.0 p at, count-new here keeps)) in
        let inside : is_outside d.0.kind ≡ false = subst (λ o. HasOwn b d.0 o) is (own-new here keeps c.0 d.0 p d.1 at) in
        let has : has_disk r.program c ≡ true = not-false (has_disk r.program c) (sym inside ∙ has-at r.program c d.0 d.1) in
        (has, own_disk r.program (left_over xs disks) (disks_under (components_of here)) count (enough_back r.program disks (disks_under (components_of here)) few count) c has ∙ under-at b xs (components_of here) (count-new here keeps) (own-new here keeps) c.0 p t at is)

    crash-from : (here new : World (Torn D) (torn b)) → KeepsAll old here → KeepsAll old new → (vs : List Transition) (tried : Option What) → CrashLeavesWay r.program here vs tried new → (c : ComId) (x y : D) → has_disk r.program c ≡ true
        → slice_get (placed-in here) c.0 ≡ Some x → slice_get (placed-in new) c.0 ≡ Some y → CrashLeaves b x y (IsOnWay r.program (state_of here) vs tried c)
    crash-from here new kh kn vs tried way c x y has at is =
        let p = own-at here kh c x has at in
        let q = own-at new kn c y has is in
        let P : List ℕ → Type 0 = IsOnWay r.program (state_of here) vs tried c in
        let there : left_disk (torn b) (Some p.over) (Some q.over) P =
        subst (λ o. left_disk (torn b) o (Some q.over) P) p.has (subst (λ o. left_disk (torn b) (disk_of p.component) o P) q.has (way c p.component q.component p.there q.there)) in
        subst (λ z. CrashLeaves b z y P) p.is (subst (λ z. CrashLeaves b p.over.inner z P) q.is (crash-below p.over q.over P there))

    -- a crash leaves just the files of a world that goes on
    pub just-files : (here : World (Torn D) (torn b)) → KeepsAll old here → is_over here ≡ false → CrashLeavesFiles here → LeavesJustFiles b r.program (placed-in here)
    just-files here keeps going just c x has at kept image may =
        let p = own-at here keeps c x has at in
        let below : b.keeps p.over.inner = subst (λ z. b.keeps z) (sym p.is) kept in
        let left : b.may_leave p.over.inner image = subst (λ z. b.may_leave z image) (sym p.is) may in
        just c.0 p.component p.over p.there p.has below image (inr (image, left, may_none p.over.held image))
        ∙ sym (ap (λ o. read_of (torn b) o) p.has) ∙ sym (inner-file b here going c.0 p.component p.over p.there p.has) ∙ ap (λ z. b.seen z) p.is

    -- the disks between two events
    pub are-between : (new : World (Torn D) (torn b)) → KeepsAll old new → (us ws : List Transition) (tried : Option What) (here : World (Torn D) (torn b)) → IsBetween r.program old new us ws tried here
        → AreBetween b r.program disks (placed-in new) (state_of old) us ws tried (placed-in here)
    are-between new kn us ws tried here m = record {
      kept = hands r.program disks few (disks_under (components_of here)) (count-back here m.disks) (kept-at b given (disks_under (components_of here)) (kept-new here m.disks));
      files = λ tell. ap (λ (s : SystemState). s.files) m.state ∙ files-new here m.disks m.going;
      durable = just-files here m.disks m.going m.durable;
      crash = λ c x y has at is. subst (λ s. CrashLeaves b x y (IsOnWay r.program s ws tried c)) (sym m.state) (crash-from here new m.disks kn ws tried m.crash c x y has at is);
    }

    -- images that a crash of the whole machine leaves from one world to another
    module _ (was new : World (Torn D) (torn b)) (kw : KeepsAll old was) (kn : KeepsAll old new) where
      left-over_it : (t u : Torn D) (image : List ℕ) → may_be_left b (Some t.inner) (Some u.inner) image → may_be_left (torn b) (Some t) (Some u) image
      left-over_it t u image left = (left.0, by left.1)
        where
          by : b.left_since u.inner (b.moment t.inner) image ⊎ b.may_leave u.inner image → (torn b).left_since u ((torn b).moment t) image ⊎ (torn b).may_leave u image
          by (inl since) = inl since
          by (inr may) = inr (inr (image, may, may_none u.held image))

      are-left : (images : List (List ℕ)) → AreLeftFrom b r.program (placed-in was) (placed-in new) images → AreLeft was new images
      are-left images left c x y at is = by (disk_of x) (disk_of y) refl refl
        where
          by : (o p : Option (Torn D)) → disk_of x ≡ o → disk_of y ≡ p → may_be_left (torn b) o p (file_in images c)
          by None None xo yp = tt
          by None (Some u) xo yp = tt
          by (Some t) None xo yp = tt
          by (Some t) (Some u) xo yp =
              let a = place-of was kw c x t at xo in
              let z = place-of new kn c y u is yp in
              left-over_it t u (file_in images c)
              (subst (λ o. may_be_left b (Some t.inner) o (file_in images c)) z.1 (subst (λ o. may_be_left b o (slice_get (placed-in new) c.0) (file_in images c)) a.1 (left c a.0)))

      pub left-at : (us : List Transition) (event : Event) → last_state (state_of old) us ≡ state_of was → IsMadeFor r.program (world_of was) → KeepsDisks was event.what new → CrashLeavesLogs r.program was event.what new → is_full_at r.program (last_state (state_of old) us) event.what ≡ false
          → (images : List (List ℕ)) → AreLeftFrom b r.program (placed-in was) (placed-in new) images → AreLeftAt r.program (last_state (state_of old) us) (Some event.what) images
      left-at us event ends made kept crash fits images left =
          let A : SystemState → Type 0 = λ s. AreImages r.program s event.what (read_by s) images in
          inr (fits, subst A (sym ends) (are-images r.program was new event made kept crash images (are-left images left)))

      -- what the disks read that are handed back is an image of each
      own-disk : (here : World (Torn D) (torn b)) (keeps : KeepsAll old here) (c : ComId) → has_disk r.program c ≡ true
          → (p : Component (Torn D) (torn b)) × (t : Torn D) × (slice_get (components_of here) c.0 ≡ Some p) × (disk_of p ≡ Some t) × (slice_get (placed-in here) c.0 ≡ Some t.inner)
      own-disk here keeps c has =
          let xs = r.program.components in
          let d = inside_of r.program c has in
          let p = get-there (components_of here) c.0 (omega (arith, get-within xs c.0 d.0 d.1, count-new here keeps)) in
          let t = some-own d.0 (disk_of p.0) (own-new here keeps c.0 d.0 p.0 d.1 p.1) d.2 in
          (p.0, t.0, p.1, t.1, (place-of here keeps c p.0 t.0 p.1 t.1).1)

      pub left-now : ((disk : D) → b.keeps disk → b.may_leave disk (b.seen disk)) → KeepsAll was new → ((c : ComId) (y : D) → has_disk r.program c ≡ true → slice_get (placed-in new) c.0 ≡ Some y → b.keeps y)
          → AreLeftFrom b r.program (placed-in was) (placed-in new) (files_on b r.program (placed-in new))
      left-now may_stay later keep c has =
          let d = inside_of r.program c has in
          let x = own-disk was kw c has in
          let y = own-disk new kn c has in
          let images = files_on b r.program (placed-in new) in
          let on : kept_disk (torn b) (Some x.1) (Some y.1) = subst (λ o. kept_disk (torn b) o (Some y.1)) x.3 (subst (λ o. kept_disk (torn b) (disk_of x.0) o) y.3 (later.kept c.0 x.0 y.0 x.2 y.2)) in
          let kept : b.keeps y.1.inner = keep c y.1.inner has y.4 in
          let file : file_in images c ≡ b.seen y.1.inner = file-of_disk b r.program (placed-in new) c d.0 y.1.inner d.1 d.2 y.4 in
          let left : may_be_left b (Some x.1.inner) (Some y.1.inner) (file_in images c) = (on.keeps.1 kept, inr (subst (λ i. b.may_leave y.1.inner i) (sym file) (may_stay y.1.inner kept))) in
          subst (λ o. may_be_left b o (slice_get (placed-in new) c.0) (file_in images c)) (sym x.4) (subst (λ o. may_be_left b (Some x.1.inner) o (file_in images c)) (sym y.4) left)

      -- behind a full log they read as before the event
      pub at-rest : ((disk : D) → b.keeps disk → b.may_leave disk (b.seen disk)) → (print : List ℕ) → KeepsLogs print (state_of was) → IsMadeFor r.program (world_of was) → (state_of new).files ≡ (state_of was).files → CrashLeavesFiles new
          → ((c : ComId) (y : D) → has_disk r.program c ≡ true → slice_get (placed-in new) c.0 ≡ Some y → b.keeps y) → AreAtRest r.program (state_of was) (files_on b r.program (placed-in new))
      at-rest may_stay print logs made same just keep c has =
          let d = inside_of r.program c has in
          let y = own-disk new kn c has in
          let kept : b.keeps y.1.inner = keep c y.1.inner has y.4 in
          let image : List ℕ = b.seen y.1.inner in
          let file : file_in (files_on b r.program (placed-in new)) c ≡ image = file-of_disk b r.program (placed-in new) c d.0 y.1.inner d.1 d.2 y.4 in
          let still : image ≡ file_of y.0 = just c.0 y.0 y.1 y.2 y.3 kept image (inr (image, may_stay y.1.inner kept, may_none y.1.held image)) ∙ sym (ap (λ o. read_of (torn b) o) y.3) in
          let read : file_in (state_of new).files c ≡ file_of y.0 = ap (λ o. unwrap_or o []) (get-map (λ z. file_of z) (components_of new) c.0 ∙ ap (option_map (λ z. file_of z)) y.2) in
          ap log_of (file ∙ still ∙ sym read ∙ ap (λ fs. file_in fs c) same) ∙ reads c (node_at (world_of was) c) (file_in (state_of was).files c) (made.kept c ∙ has) (logs c)
        where
          reads : (c : ComId) (o : Option steps.Node) (bytes : List ℕ) → is_kept o ≡ true → KeepsLog print c bytes o → log_of bytes ≡ Ok (forced_of o)
          reads c None bytes e k = absurd (cc e)
          reads c (Some (Runs p)) bytes e k = k.holds
          reads c (Some (Serves t)) bytes e k = k.holds
          reads c (Some (Down rs)) bytes e k = k.holds
          reads c (Some External) bytes e k = absurd (cc e)

    module _ {K : Type 0} (k : sink.Ghosts K) (before after : K) (new : World (Torn D) (torn b)) (keeps : KeepsAll old new) where
      -- an event outlasts a crash
      outlasts : (pieces : List (List ℕ)) (us : List Transition) (v : Transition) (ws : List Transition) (tried : Option What) → (TheyTell b r.program disks → is_full_at r.program (last_state (state_of old) us) v.trace.event.what ≡ false)
          → running.Outlasts k r.program pieces old new before us v ws tried → Outlasts b k r opening disks (placed-in new) before after pieces (state_of old) us v ws tried
      outlasts pieces us v ws tried fits x = record {
        was = placed-in x.was;
        held = placed-in x.held;
        told = x.told;
        before_it = are-between new keeps us (v ∷ ws) tried x.was x.before_it;
        behind_it = are-between new keeps (us ++ v ∷ []) ws tried x.held x.behind_it;
        printed = x.printed;
        within = λ tell. left-at x.was x.held x.before_it.disks x.behind_it.disks us v.trace.event x.before_it.state x.before_it.made x.disks x.within (fits tell);
      }

      module _ (may : MayRun r) (long : length r.fingerprint ≡ 32) where
        pub came-to : (lines : List Transition → List (List ℕ)) (vs : List Transition) (agenda : Agenda) (tried : Option What) (last : World (Torn D) (torn b)) → running.Goes r.program (intervals_of r.policy) (agenda_of r) old vs agenda last → CrashLeavesWay r.program old vs tried new → running.AllOutlast k r.program lines old new before vs tried
            → IsTried r (last_state (state_of old) vs) agenda tried
            → CameTo b k r opening disks (placed-in new) before after lines (state_of old) vs agenda tried
        came-to lines vs agenda tried last goes way outlast tries =
            let P : List ℕ → Type 0 = λ print. Executes r.program print (intervals_of r.policy) (agenda_of r) (state_of old) vs agenda in
            let runs : (TheyTell b r.program disks → P r.fingerprint) = λ tell. subst P new-world.is_own (goes.executes (new-world.tells tell)) in
            let files = files_on b r.program disks in
            record {
              opened = opens-so;
              world = opened-world b r.program r.fingerprint given old opening opened;
              follows = goes.follows;
              executes = runs;
              first = placed-in old;
              begins = are-between new keeps [] vs tried old (record {
                state = refl;
                disks = keeps-self old;
                later = keeps;
                made = new-world.made;
                going = new-world.going;
                durable = files-durable old new-world.going;
                crash = way;
              });
              outlast = λ us ws v is. outlasts (lines us) us v ws tried
                  (λ tell. fits-at r.program r.fingerprint (intervals_of r.policy) (agenda_of r) agenda (state_of old) us v ws (subst (λ (l : List Transition). Executes r.program r.fingerprint (intervals_of r.policy) (agenda_of r) (state_of old) l agenda) is (runs tell)))
                  (outlast us ws v is);
              received = omega (arith, goes.received, new-world.received, last.receipts);
              numbered = subst (λ (s : SystemState). length s.world.packets ≤ PACKETS) (sym goes.ends) (last.counted goes.going);
              logs = λ tell. keeps-last r may files (state_of old) vs agenda (runs tell) (keeps-first r may files (state_of old) long opening (opens-so tell));
              anew = λ is tell. (tell, inl (long, subst (λ o. IsOpened o r.program r.fingerprint files (state_of old)) is (opens-so tell)));
              gains = λ o. (comes-to-stand r may files (state_of old) vs agenda (runs o.0) o.1).0;
              explained = λ o. comes-explained r may files (state_of old) vs agenda (runs o.0) o.1;
              contents = λ o. comes-contents r may files (state_of old) vs agenda (runs o.0) o.1;
              ledgers = λ o. comes-decided r may files (state_of old) vs agenda (runs o.0) o.1;
              again = λ o. comes-again r may files (state_of old) vs agenda (runs o.0) o.1;
              aborts = λ o. comes-caused r may files (state_of old) vs agenda (runs o.0) o.1 (no-packets opening r.program (world_of old) (opened-world b r.program r.fingerprint given old opening opened));
              stands = λ o. (comes-to-stand r may files (state_of old) vs agenda (runs o.0) o.1).1;
              taken_up = λ o images q left start are. taken-up r may files (state_of old) vs agenda (runs o.0) o.1 images q start are tried tries left;
            }

    -- a component whose disk failed in an event has failed since the call began
    pub fault-at : (mid new : World (Torn D) (torn b)) → KeepsAll old mid → KeepsAll old new → (c : ComId) (x y : Component (Torn D) (torn b)) → slice_get (components_of mid) c.0 ≡ Some x → slice_get (components_of new) c.0 ≡ Some y → HasFault b x y
        → HasFailed b disks (merged r.program.components (left_over r.program.components disks) (disks_under (components_of new))) c
    fault-at mid new km kn c x y at is fault = by (disk_of x) (disk_of y) refl refl fault
      where
        by : (o p : Option (Torn D)) → disk_of x ≡ o → disk_of y ≡ p → has_fault b o p → HasFailed b disks (merged r.program.components (left_over r.program.components disks) (disks_under (components_of new))) c
        by None p xo yp f = absurd f
        by (Some t) None xo yp f = absurd f
        by (Some t) (Some u) xo yp f =
            let xs = r.program.components in
            let d = get-there xs c.0 (omega (arith, get-within (components_of new) c.0 y is, count-new new kn)) in
            let inside : is_outside d.0.kind ≡ false = subst (λ o. HasOwn b d.0 o) yp (own-new new kn c.0 d.0 y d.1 is) in
            let has : has_disk r.program c ≡ true = not-false (has_disk r.program c) (sym inside ∙ has-at r.program c d.0 d.1) in
            let first = get-there disks c.0 (omega (arith, get-within xs c.0 d.0 d.1, few)) in
            let was : slice_get given (number_of r.program c) ≡ Some first.0 = lent_disk r.program disks few c has ∙ first.1 in
            let mid-at : slice_get (disks_under (components_of mid)) (number_of r.program c) ≡ Some t.inner = under-at b xs (components_of mid) (count-new mid km) (own-new mid km) c.0 x t at xo in
            let new-at : slice_get (disks_under (components_of new)) (number_of r.program c) ≡ Some u.inner = under-at b xs (components_of new) (count-new new kn) (own-new new kn) c.0 y u is yp in
            failed-at r.program disks few (disks_under (components_of new)) (count-back new kn) c first.0 u.inner has was new-at
            (fault-since b first.0 t.inner u.inner (kept-at b given (disks_under (components_of mid)) (kept-new mid km) (number_of r.program c) first.0 t.inner was mid-at) f)
