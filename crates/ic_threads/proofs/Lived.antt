-- The disks of a live run, and what it came to.
use Rattle.std.proofs.Common.{◌≡◌, ◌∙◌, sym, ap, subst, refl, ℕ, suc, ◌+◌, arith, Bool, true, false, List, [], ◌∷◌, ◌++◌, length, Option, Some, None, OnOk, IfErr, inl, inr}
use Rattle.std.specs.Prelude.{slice_get, cond, filter, flat_map, is_some, IfSome, Result, Ok, Err}
use Rattle.std.specs.List.{AllByRecursion}
use Rattle.def_facts.specs.Flat.{HasFlatParts}
use Rattle.def_facts.specs.Playable.{IsPlayable}
use Rattle.def_live.specs.Turns.{is_own}
use Rattle.ic_base.specs.declared.events.Event.{Event}
use Rattle.ic_base.specs.declared.messages.ComId.{ComId}
use Rattle.ic_base.specs.declared.scenario.Component.{Component as Declared}
use Rattle.ic_base.specs.declared.scenario.Program.{Program}
use Rattle.ic_disk.specs.TornDisks.{Torn}
use Rattle.ic_disk.specs.Torns.{torn}
use Rattle.ic_disk.specs.declared.disk.Disk as disk
use Rattle.ic_disk.specs.declared.sink.Sink as sink
use Rattle.ic_joins.specs.Placing.{IsPlaced}
use Rattle.ic_joins.specs.Threads.{JoinsTold, faults_on}
use Rattle.ic_live.specs.Berthed.{list_of}
use Rattle.ic_live.specs.Ended.{AreReturned, HaveLeft}
use Rattle.ic_live.specs.Faults.{HaveFailed}
use Rattle.ic_live.specs.Turned.{HaveTurned}
use Rattle.ic_live.proofs.Peers.{berthed-has}
use Rattle.ic_node.specs.Meeting.{kept_disk}
use Rattle.ic_node.specs.Views.{com_of, disk_of, file_of}
use Rattle.ic_node.specs.declared.component.Component.{Component}
use Rattle.ic_plan.specs.declared.run_texts.RunTexts.{RunTexts}
use Rattle.ic_report.specs.declared.ending.Why.{Why}
use Rattle.ic_run.specs.Agendas.{MayCome}
use Rattle.ic_run.specs.Lending.{lent, left_over}
use Rattle.ic_run.specs.Running.{KeepsAll}
use Rattle.ic_run.specs.declared.running.Cut.{Cut}
use Rattle.ic_run.specs.declared.running.Cut.TheVariants as cuts
use Rattle.ic_run.proofs.Programs.{inside_of, outside_of}
use Rattle.ic_run.proofs.Files.{FitsDisk, files-under}
use Rattle.ic_run.proofs.Under.{all-under}
use Rattle.ic_run.proofs.Worlds.{keeps-more}
use Rattle.ic_settle.specs.Policies.{intervals_of}
use Rattle.ic_turn.specs.Progresses.{left_of}
use Rattle.ic_turn.specs.declared.progress.Progress.{Progress}
use Rattle.ic_turn.proofs.Places.{there}
use Rattle.ic_world.specs.Opening.{is_outside, disks_in, inner_of, disks_under, files_on}
use Rattle.ic_world.specs.Views.{components_of, state_of, is_over}
use Rattle.ic_world.proofs.InnerFiles.{inner-file}
use Rattle.ic_world.proofs.Lists.{get-there, get-within}
use Rattle.ic_world.proofs.Makings.{no-disk, kept-count}
use Rattle.ic_world.proofs.Places.{same-some}
use Rattle.law_run.specs.ProgramBytes.{HasBytes}
use Rattle.law_syntax.specs.Events.{IsEvent}
use Rattle.ic_threads.specs.Joined.{JoinsUp}
use Rattle.ic_threads.specs.Runs.{FinishesOf, FailsToFinish, LivesOver, LivesIn, LivesShort, Lives, IsToldBy, put_in}
use Rattle.ic_threads.specs.Serial.{WasCut}
use Rattle.ic_threads.specs.declared.joined.Joined.{Joined}
use Rattle.ic_threads.proofs.Ended.{ends-joined}

pub events-are : (program : Program) (es : List Event) → AllByRecursion (MayCome program) es → AllByRecursion (IsEvent program) es
events-are program [] a = tt
events-are program (e ∷ es) a = (a.0.event, events-are program es a.1)

all-append : (P : Event → Type 0) (xs ys : List Event) → AllByRecursion P xs → AllByRecursion P ys → AllByRecursion P (xs ++ ys)
all-append P [] ys a b = b
all-append P (x ∷ xs) ys a b = (a.0, all-append P xs ys a.1 b)

all-filter : (P : Event → Type 0) (f : Event → Bool) (xs : List Event) → AllByRecursion P xs → AllByRecursion P (filter f xs)
all-filter P f [] a = tt
all-filter P f (x ∷ xs) a = by (f x) (all-filter P f xs a.1)
  where
    by : (b : Bool) → AllByRecursion P (filter f xs) → AllByRecursion P (cond b (x ∷ filter f xs) (filter f xs))
    by true more = (a.0, more)
    by false more = more

all-left : (P : Event → Type 0) (done left : List Event) → AllByRecursion P (done ++ left) → AllByRecursion P left
all-left P [] left a = a
all-left P (x ∷ done) left a = all-left P done left a.1

all-flat : (P : Event → Type 0) (ps : List Progress) → ((k : ℕ) (p : Progress) → slice_get ps k ≡ Some p → AllByRecursion P (left_of p)) → AllByRecursion P (flat_map left_of ps)
all-flat P [] each = tt
all-flat P (p ∷ ps) each = all-append P (left_of p) (flat_map left_of ps) (each 0 p refl) (all-flat P ps (λ k. each (suc k)))

-- what the components left of the plan may come, as all of it
pub left-may : {D : Type 0} {d : disk.Ghosts D} (P : Event → Type 0) (plan : List Event) (xs : List (Component D d)) (ps : List Progress) → length ps ≡ length xs → HaveLeft (λ c. list_of c plan) xs ps → AllByRecursion P plan → AllByRecursion P (flat_map left_of ps)
left-may P plan xs ps count left all =
    all-flat P ps (λ k p at.
    let x = there xs ps k p count at in
    let l = left k x.0 p x.1 at in
    all-left P l.0 (left_of p) (subst (AllByRecursion P) l.1 (all-filter P (λ e. is_own (com_of x.0) e.what) plan all)))

-- as many disks lie below as components have one
under-count : {D : Type 0} {d : disk.Ghosts (Torn D)} (xs : List Declared) (ps : List (Component (Torn D) d)) → length ps ≡ length xs
    → ((k : ℕ) (x : Declared) (p : Component (Torn D) d) → slice_get xs k ≡ Some x → slice_get ps k ≡ Some p → is_some (disk_of p) ≡ cond (is_outside x.kind) false true)
    → length (disks_under ps) ≡ disks_in xs
under-count [] [] count each = refl
under-count [] (p ∷ ps) count each = absurd (omega (arith, count))
under-count (x ∷ xs) [] count each = absurd (omega (arith, count))
under-count {D} {d} (x ∷ xs) (p ∷ ps) count each = by (under-count xs ps (omega (arith, count)) (λ k y q. each (suc k) y q)) (disk_of p) (is_outside x.kind) (each 0 x p refl refl)
  where
    by : length (disks_under ps) ≡ disks_in xs → (o : Option (Torn D)) (out : Bool) → is_some o ≡ cond out false true → length (inner_of o ++ disks_under ps) ≡ cond out (disks_in xs) (1 + disks_in xs)
    by more None true own = more
    by more None false own = absurd (cc own)
    by more (Some t) true own = absurd (cc own)
    by more (Some t) false own = let e : suc (length (disks_under ps)) ≡ 1 + disks_in xs = omega (arith, more) in e

module _ {D : Type 0} (b : disk.Ghosts D) (r : RunTexts) (xs : List (Component (Torn D) (torn b))) (ps : List Progress) (returned : AreReturned r.program r.fingerprint xs ps) (old : Joined (Torn D) (torn b)) (joins : JoinsUp b r xs ps old) where
  pub own-at : (k : ℕ) (y : Declared) (p : Component (Torn D) (torn b)) → slice_get r.program.components k ≡ Some y → IsPlaced r.program xs (record { 0 = k }) p → is_some (disk_of p) ≡ cond (is_outside y.kind) false true
  own-at k y p at (inl h) =
      let c : ComId = record { 0 = k } in
      let x = inside_of r.program c (berthed-has r.program h.0 c h.1) in
      let out : is_outside y.kind ≡ false = ap (λ (z : Declared). is_outside z.kind) (same-some y x.0 (sym at ∙ x.1)) ∙ x.2 in
      (returned.going h.0 p h.2).has_disk ∙ sym (ap (λ o. cond o false true) out)
  own-at k y p at (inr h) =
      let c : ComId = record { 0 = k } in
      let out : is_outside y.kind ≡ true = outside_of r.program c h.0 y at in
      ap (λ (o : Option (Torn D)). is_some o) (no-disk b p h.1.node) ∙ sym (ap (λ o. cond o false true) out)

  pub old-count : length (disks_under (components_of old.world)) ≡ disks_in r.program.components
  old-count =
      let a = joins.assembled in
      ap (λ (l : List (Component (Torn D) (torn b))). length (disks_under l)) a.assembles.same
      ∙ under-count r.program.components a.all a.placed.count (λ k y p at there. own-at k y p at (a.placed.each (record { 0 = k }) p there))

  module _ {K : Type 0} (k : sink.Ghosts K) (new : Joined (Torn D) (torn b)) (before after : K) where
    cut-keeps : (cut : Cut) → WasCut b r.program (intervals_of r.policy) old.left old.world new.world cut → KeepsAll old.world new.world
    cut-keeps (cuts.Refused w) was = keeps-more old.world was.now new.world was.event.what was.goes.disks was.disks
    cut-keeps cuts.Print was = absurd was
    cut-keeps cuts.Memory was = was

    pub short-keeps : (why : Why) → FailsToFinish b k r old new before after why → KeepsAll old.world new.world
    short-keeps why (inl c) = cut-keeps c.cut c.was
    short-keeps why (inr u) = u.done.goes.disks

    keeps : (result : Result Unit Why) → OnOk result (FinishesOf b k r old new before after) → IfErr result (FailsToFinish b k r old new before after) → KeepsAll old.world new.world
    keeps (Ok x) done cut = (done xs ps joins).goes.disks
    keeps (Err why) done cut = short-keeps why cut

    pub new-count : (result : Result Unit Why) → OnOk result (FinishesOf b k r old new before after) → IfErr result (FailsToFinish b k r old new before after) → length (disks_under (components_of new.world)) ≡ disks_in r.program.components
    new-count result done cut = sym (kept-count b (disks_under (components_of old.world)) (disks_under (components_of new.world)) (all-under b old.world new.world (keeps result done cut))) ∙ old-count

    pub short-count : (why : Why) → FailsToFinish b k r old new before after why → length (disks_under (components_of new.world)) ≡ disks_in r.program.components
    short-count why fails = sym (kept-count b (disks_under (components_of old.world)) (disks_under (components_of new.world)) (all-under b old.world new.world (short-keeps why fails))) ∙ old-count

    -- where the world goes on, the disks below hold what it has
    kept-some : (o q : Option (Torn D)) (e : Bool) → kept_disk (torn b) o q → is_some o ≡ e → is_some q ≡ e
    kept-some None None e kept is = is
    kept-some None (Some u) e kept is = absurd kept
    kept-some (Some t) None e kept is = absurd kept
    kept-some (Some t) (Some u) e kept is = is

    fits : (y : Declared) (q : Component (Torn D) (torn b)) (o : Option (Torn D)) → disk_of q ≡ o → is_some o ≡ cond (is_outside y.kind) false true → ((t : Torn D) → disk_of q ≡ Some t → b.seen t.inner ≡ file_of q) → FitsDisk b y q o
    fits y q None is own seen = outside (is_outside y.kind) own
      where
        outside : (out : Bool) → false ≡ cond out false true → out ≡ true
        outside true e = refl
        outside false e = absurd (cc e)
    fits y q (Some t) is own seen = (inside (is_outside y.kind) own, seen t is)
      where
        inside : (out : Bool) → true ≡ cond out false true → out ≡ false
        inside false e = refl
        inside true e = absurd (cc e)

    files-so : KeepsAll old.world new.world → is_over new.world ≡ false → (state_of new.world).files ≡ files_on b r.program (disks_under (components_of new.world))
    files-so keep going =
        let a = joins.assembled in
        let xs-new = components_of new.world in
        let count : length (components_of old.world) ≡ length r.program.components = ap length a.assembles.same ∙ a.placed.count in
        files-under b r.program.components xs-new (keep.count ∙ count) (λ i y q at is.
        let p = get-there (components_of old.world) i (omega (arith, get-within xs-new i q is, keep.count)) in
        let own = own-at i y p.0 at (a.placed.each (record { 0 = i }) p.0 (ap (λ (l : List (Component (Torn D) (torn b))). slice_get l i) (sym a.assembles.same) ∙ p.1)) in
        fits y q (disk_of q) refl (kept-some (disk_of p.0) (disk_of q) (cond (is_outside y.kind) false true) (keep.kept i p.0 q p.1 is) own) (λ t has. inner-file b new.world going i q t is has))

    pub lives-over : IsPlayable r.program → HasFlatParts r.program → HasBytes r.program → (disks : List D) → HaveTurned r.policy.workers r.policy.turns ps → HaveLeft (λ c. list_of c r.schedule.events) xs ps → HaveFailed (faults_on b disks) xs → JoinsTold b r.program r.fingerprint r.schedule.events disks xs ps → (back : List D) → back ≡ disks_under (components_of new.world) → (result : Result Unit Why) → OnOk result (FinishesOf b k r old new before after) → IfErr result (FailsToFinish b k r old new before after) → LivesOver b k r disks (Some back) before after result
    lives-over playable flat bytes disks turned left since told back is (Ok x) done cut =
        let ran : LivesIn b k r disks before after new.world = record {
          components = xs;
          progresses = ps;
          returned = returned;
          turned = turned;
          left = left;
          told = told;
          old = old.world;
          finishes = done xs ps joins;
          files = files-so (done xs ps joins).goes.disks (done xs ps joins).goes.going;
          ends = λ tell. ends-joined b k r playable flat bytes xs ps returned (told tell) old.world new.world before after (done xs ps joins);
        } in
        record { new = new.world; ran = ran; is = back; some = refl; under = is }
    lives-over playable flat bytes disks turned left since told back is (Err why) done cut =
        let ran : LivesShort b k r disks before after new.world why = record { components = xs; progresses = ps; returned = returned; since = since; told = told; was = old; joins = joins; now = new; is = refl; fails = cut } in
        inr (inr (record { new = new.world; ran = ran; is = back; some = refl; under = is }))

pub on-some : {A : Type 0} {P Q : A → Type 0} (o : Option A) → IfSome o P → ((x : A) → P x → Q x) → IfSome o Q
on-some None p f = tt
on-some (Some x) p f = f x p

pub lives-as : {D : Type 0} (b : disk.Ghosts D) {K : Type 0} (k : sink.Ghosts K) (r : RunTexts) (disks taken left now : List D) (back : Option (List D)) (before mid after : K) (result : Result Unit Why) (status : ℕ)
    → taken ≡ lent r.program.components disks → left ≡ left_over r.program.components disks → LivesOver b k r taken back before mid result → now ≡ put_in r.program left back → IsToldBy b k r result mid after status → Lives b k r disks now before after status
lives-as {D} b k r disks taken left now back before mid after result status is rest lives put ends = inr (record {
  back = back;
  mid = mid;
  result = result;
  lives = subst (λ (l : List D). LivesOver b k r l back before mid result) is lives;
  places = put ∙ ap (λ (l : List D). put_in r.program l back) rest;
  ends = ends;
})
