-- A live run in which nothing goes wrong does all that was to be done, or reaches a limit.
use Rattle.std.proofs.Common.{◌≡◌, ◌∙◌, sym, ap, subst, refl, ℕ, zero, suc, ◌+◌, ◌≤◌, arith, Bool, true, false, not, cond, List, [], ◌∷◌, ◌++◌, length, filter, take, Option, Some, None, ◌⊎◌, inl, inr}
use Rattle.std.specs.Prelude.{slice_get, is_some, codes, Result, Ok, Err}
use Rattle.ic_base.specs.declared.events.Event.{Event}
use Rattle.ic_base.specs.declared.messages.ComId.{ComId}
use Rattle.ic_base.specs.declared.refusals.StartWhy.{StartWhy}
use Rattle.ic_base.specs.declared.refusals.StartWhy.TheVariants as starts
use Rattle.ic_base.specs.declared.refusals.WorldRefused.{WorldRefused}
use Rattle.ic_base.specs.declared.refusals.WorldRefused.TheVariants as refused
use Rattle.ic_base.specs.declared.scenario.Component.{Component as Declared}
use Rattle.ic_base.specs.declared.scenario.Program.{Program}
use Rattle.def_facts.specs.Flat.{HasFlatParts}
use Rattle.def_facts.specs.Playable.{IsPlayable}
use Rattle.def_live.specs.Serial.{agenda_left}
use Rattle.def_live.specs.Turns.{Choice, coms_from, event_of}
use Rattle.def_run.specs.Executions.{Executes}
use Rattle.def_run.specs.Openings.{IsStartRefused}
use Rattle.def_run.specs.Refusals.{met, IsRefused}
use Rattle.def_run.specs.SystemStates.{SystemState, has_disk}
use Rattle.ic_disk.specs.Causes.{Rose}
use Rattle.ic_disk.specs.TornDisks.{Torn}
use Rattle.ic_disk.specs.Torns.{torn}
use Rattle.ic_disk.specs.declared.disk.Disk as disk
use Rattle.ic_disk.specs.declared.sink.Sink as sink
use Rattle.ic_joins.specs.Placing.{IsPlaced}
use Rattle.ic_joins.specs.Threads.{FailsToRun, faults_on}
use Rattle.ic_joins.specs.declared.threads.ThreadsRefused.{ThreadsRefused}
use Rattle.ic_joins.specs.declared.threads.ThreadsRefused.TheVariants as threads
use Rattle.ic_live.specs.Berthed.{berthed, list_of}
use Rattle.ic_live.specs.Carrying.{FailsToCarryOut}
use Rattle.ic_live.specs.Ended.{AreJoined, WasRefused}
use Rattle.ic_live.specs.Faults.{faults_in}
use Rattle.ic_live.proofs.Peers.{berthed-has}
use Rattle.ic_node.specs.Faults.{HasFault, has_fault}
use Rattle.ic_node.specs.Meeting.{kept_disk}
use Rattle.ic_node.specs.Views.{com_of, disk_of}
use Rattle.ic_node.specs.declared.component.Component.{Component}
use Rattle.ic_node.specs.declared.done.NodeRefused.{NodeRefused}
use Rattle.ic_node.specs.declared.done.NodeRefused.TheVariants.{Full, Bad, Foreign, Failed, Memory as Wanting}
use Rattle.ic_plan.specs.declared.run_texts.RunTexts.{RunTexts}
use Rattle.ic_report.specs.Ends.{EndsAs}
use Rattle.ic_report.specs.declared.ending.Why.{Why}
use Rattle.ic_report.specs.declared.ending.Why.TheVariants.{Fault as AFault, Print, Memory}
use Rattle.ic_run.specs.Completing.{IsOfLimit, NothingFails}
use Rattle.ic_run.specs.Lending.{lent, left_over, merged}
use Rattle.ic_run.specs.Runs.{HasFailed}
use Rattle.ic_run.specs.Whys.{why_of_cut, why_of_start, why_of_world}
use Rattle.ic_run.specs.Running.{KeepsAll}
use Rattle.ic_run.specs.declared.opening.Opening.TheVariants.{Anew}
use Rattle.ic_run.specs.declared.running.Cut.{Cut}
use Rattle.ic_run.specs.declared.running.Cut.TheVariants as cuts
use Rattle.ic_run.proofs.Came.{failed-at}
use Rattle.ic_run.proofs.Places.{lent_count}
use Rattle.ic_run.proofs.Programs.{number_of, inside_of, lent_disk}
use Rattle.ic_run.proofs.Under.{HasOwn, under-at}
use Rattle.ic_run.proofs.WorldFiles.{has-at}
use Rattle.ic_run.proofs.Worlds.{tells-on}
use Rattle.ic_settle.specs.Policies.{intervals_of}
use Rattle.ic_work.specs.Components.{FailsToWork, refusal_of}
use Rattle.ic_work.specs.declared.work.Work.{Work}
use Rattle.ic_work.specs.declared.work.Work.TheVariants.{Calls, Crashes, Recovers}
use Rattle.ic_world.specs.Opening.{is_outside, disks_in, inner_of, disks_under, AllTell, IsStartFailed}
use Rattle.ic_world.specs.Stepping.{IsFailed}
use Rattle.ic_world.specs.Views.{components_of, world_of, state_of, print_of, received_of, Tells}
use Rattle.ic_world.specs.declared.world.World.{World}
use Rattle.ic_world.proofs.Lists.{get-there, get-within}
use Rattle.ic_world.proofs.Makings.{no-disk}
use Rattle.ic_world.proofs.Places.{same-some}
use Rattle.law_live.specs.Meeting.{IsOfSound}
use Rattle.law_live.proofs.Closing.{closed_runs_meet}
use Rattle.law_run.specs.ProgramBytes.{HasBytes}
use Rattle.ic_threads.specs.Completing.{EndsAtLimit, Completes}
use Rattle.ic_run.specs.Summaries.{FailsToTell}
use Rattle.ic_threads.specs.Runs.{IsUnthreaded, FailsToFinish, LivesShort, LivesOver, LivesAs, Lives, IsToldBy, put_in}
use Rattle.ic_threads.specs.Serial.{WasCut, WasRefused as SerialRefused}
use Rattle.ic_threads.proofs.Back.{wants-memory}
use Rattle.ic_threads.proofs.Ended.{old-tells}
use Rattle.ic_threads.proofs.Lived.{own-at, short-keeps, short-count}

-- places --------------------------------------------------------------------------------------------------------

not-not : (a b : Bool) → a ≡ not b → b ≡ not a
not-not true false e = refl
not-not false true e = refl
not-not true true e = absurd (cc e)
not-not false false e = absurd (cc e)

-- where those that pass a test stand among the components from a number on
numbered : (n : ℕ) (xs : List Declared) (test : ComId → Bool) → ((k : ℕ) (x : Declared) (c : ComId) → slice_get xs k ≡ Some x → c.0 ≡ n + k → test c ≡ not (is_outside x.kind)) → (j : ℕ) (c : ComId) → slice_get (filter test (coms_from n xs)) j ≡ Some c → (k : ℕ) × (c.0 ≡ n + k) × (j ≡ disks_in (take k xs))
numbered n [] test agree j c at = absurd (cc at)
numbered n (x ∷ xs) test agree j c at =
    by (numbered (n + 1) xs test (λ k y e there same. agree (suc k) y e there (omega (arith, same)))) (test (record { 0 = n })) (is_outside x.kind) (agree 0 x (record { 0 = n }) refl (omega arith)) refl j at
  where
    rest : List ComId
    rest = filter test (coms_from (n + 1) xs)

    behind : (out : Bool) → is_outside x.kind ≡ out → (i : ℕ) → (k : ℕ) × (c.0 ≡ n + 1 + k) × (i ≡ disks_in (take k xs)) → (k : ℕ) × (c.0 ≡ n + k) × (cond out i (1 + i) ≡ disks_in (take k (x ∷ xs)))
    behind out is i z = (suc z.0, (omega (arith, z.1)), ap (λ o. cond o i (1 + i)) (sym is) ∙ ap (λ m. cond (is_outside x.kind) m (1 + m)) z.2)

    by : ((i : ℕ) (e : ComId) → slice_get rest i ≡ Some e → (k : ℕ) × (e.0 ≡ n + 1 + k) × (i ≡ disks_in (take k xs))) → (t out : Bool) → t ≡ not out → is_outside x.kind ≡ out → (i : ℕ) → slice_get (cond t (record { 0 = n } ∷ rest) rest) i ≡ Some c → (k : ℕ) × (c.0 ≡ n + k) × (i ≡ disks_in (take k (x ∷ xs)))
    by more true false s is zero at = let same : record { 0 = n } ≡ c = same-some (record { 0 = n }) c at in let z : c.0 ≡ n + 0 = ap (λ (e : ComId). e.0) (sym same) ∙ omega arith in (0, z, refl)
    by more true false s is (suc i) at = let z = behind false is i (more i c at) in let one : suc i ≡ 1 + i = omega arith in (z.0, z.1, one ∙ z.2)
    by more false true s is i at = behind true is i (more i c at)
    by more true true s is i at = absurd (cc s)
    by more false false s is i at = absurd (cc s)

-- the berth of a component is in the place of its disk
pub berthed-number : (program : Program) (j : ℕ) (c : ComId) → slice_get (berthed program) j ≡ Some c → j ≡ number_of program c
berthed-number program j c at =
    let agree : (k : ℕ) (x : Declared) (e : ComId) → slice_get program.components k ≡ Some x → e.0 ≡ 0 + k → has_disk program e ≡ not (is_outside x.kind) = λ k x e there same.
    let is : k ≡ e.0 = omega (arith, same) in
    not-not (is_outside x.kind) (has_disk program e) (has-at program e x (ap (slice_get program.components) (sym is) ∙ there)) in
    let n = numbered 0 program.components (has_disk program) agree j c at in
    let same : n.0 ≡ c.0 = omega (arith, n.1) in
    n.2 ∙ ap (λ k. disks_in (take k program.components)) same

module _ {D : Type 0} {d : disk.Ghosts (Torn D)} where
  -- of components that all have a disk each has its own in its place
  under-each : (xs : List (Component (Torn D) d)) → ((k : ℕ) (x : Component (Torn D) d) → slice_get xs k ≡ Some x → is_some (disk_of x) ≡ true) → (j : ℕ) (y : Component (Torn D) d) (u : Torn D) → slice_get xs j ≡ Some y → disk_of y ≡ Some u → slice_get (disks_under xs) j ≡ Some u.inner
  under-each [] each j y u at has = absurd (cc at)
  under-each (x ∷ xs) each zero y u at has = ap (λ o. slice_get (inner_of o ++ disks_under xs) 0) (ap (λ (z : Component (Torn D) d). disk_of z) (same-some x y at) ∙ has)
  under-each (x ∷ xs) each (suc j) y u at has = by (under-each xs (λ k. each (suc k)) j y u at has) (disk_of x) (each 0 x refl)
    where
      by : slice_get (disks_under xs) j ≡ Some u.inner → (o : Option (Torn D)) → is_some o ≡ true → slice_get (inner_of o ++ disks_under xs) (suc j) ≡ Some u.inner
      by more None e = absurd (cc e)
      by more (Some t) e = more

-- counts of faults ------------------------------------------------------------------------------------------------

rose-since : (first old new : ℕ) → first ≤ old → Rose old new → Rose first new
rose-since first old new less rose = omega (arith, less, rose)

-- the disk of a component that failed in an event
failed-fault : {D : Type 0} (b : disk.Ghosts D) (program : Program) (print : List ℕ) (next : Option Choice) (old new : Component (Torn D) (torn b)) (received packets : ℕ) (c : ComId) → FailsToCarryOut b program print next old received packets new (refused.Failed c) → (c ≡ com_of old) × HasFault b old new
failed-fault b program print None old new received packets c f = absurd (cc f)
failed-fault b program print (Some x) old new received packets c f = by f.node_why f.work f.is f.fails
  where
    by : (why : NodeRefused) (work : Work) → refused.Failed c ≡ refusal_of (com_of old) why → FailsToWork b program print old (event_of (com_of old) x).stop work new why → (c ≡ com_of old) × HasFault b old new
    by Failed (Calls number call) is g = ((cc is), g.cause)
    by Failed Crashes is g = absurd (cc g.0)
    by Failed Recovers is g = ((cc is), g)
    by Full work is g = absurd (cc is)
    by (Bad place) work is g = absurd (cc is)
    by (Foreign kept) work is g = absurd (cc is)
    by Wanting work is g = absurd (cc is)

module _ {D : Type 0} (b : disk.Ghosts D) (program : Program) (disks : List D) (few : length program.components ≤ length disks) where
  abbrev given : List D
  given = lent program.components disks

  -- a disk that failed since it had failed as often as when the call began, or stands stopped
  failed-since : (back : List D) → length back ≡ disks_in program.components → (c : ComId) (count : ℕ) (e : D) → has_disk program c ≡ true → faults_on b given (number_of program c) ≤ count → slice_get back (number_of program c) ≡ Some e → Rose count (b.faults e) ⊎ b.stopped e
      → HasFailed b disks (merged program.components (left_over program.components disks) back) c
  failed-since back all c count e has since now fault =
      let x = inside_of program c has in
      let first = get-there disks c.0 (omega (arith, get-within program.components c.0 x.0 x.1, few)) in
      let was : slice_get given (number_of program c) ≡ Some first.0 = lent_disk program disks few c has ∙ first.1 in
      let less : b.faults first.0 ≤ count = subst (λ (o : Option D). elim o [ None ↦ 0 | Some z ↦ b.faults z ] ≤ count) was since in
      failed-at b program disks few back all c first.0 e has was now (by (b.faults first.0) less fault)
    where
      by : (first : ℕ) → first ≤ count → Rose count (b.faults e) ⊎ b.stopped e → Rose first (b.faults e) ⊎ b.stopped e
      by first less (inl rose) = inl (rose-since first count (b.faults e) less rose)
      by first less (inr stopped) = inr stopped

  -- a component whose disk failed in its thread
  thread-failed : (honest : Type 0) (print : List ℕ) (xs : List (Component (Torn D) (torn b))) (received packets : ℕ) (c : ComId) → length (disks_under xs) ≡ disks_in program.components → WasRefused b (faults_on b given) honest program print xs received packets (refused.Failed c)
      → HasFailed b disks (merged program.components (left_over program.components disks) (disks_under xs)) c
  thread-failed honest print xs received packets c all w =
      let f = failed-fault b program print w.next w.old w.new received packets c w.cause in
      by (disk_of w.old) (disk_of w.new) refl refl f.1 f.0
    where
      by : (o p : Option (Torn D)) → disk_of w.old ≡ o → disk_of w.new ≡ p → has_fault b o p → c ≡ com_of w.old → HasFailed b disks (merged program.components (left_over program.components disks) (disks_under xs)) c
      by None p wo wp fault own = absurd fault
      by (Some t) None wo wp fault own = absurd fault
      by (Some t) (Some u) wo wp fault own =
          let at : slice_get (berthed program) w.place ≡ Some c = w.at_place ∙ ap (λ z. Some z) (sym own) in
          let place = berthed-number program w.place c at in
          let since : faults_on b given (number_of program c) ≤ b.faults t.inner = subst (λ n. faults_on b given n ≤ b.faults t.inner) place (subst (λ (o : Option (Torn D)). faults_on b given w.place ≤ faults_in (torn b) o) wo w.since) in
          let now : slice_get (disks_under xs) (number_of program c) ≡ Some u.inner = subst (λ n. slice_get (disks_under xs) n ≡ Some u.inner) place (under-each xs w.have_disks w.place w.new u w.came_out wp) in
          failed-since (disks_under xs) all c (b.faults t.inner) u.inner (berthed-has program w.place c at) since now fault

-- the serial phase --------------------------------------------------------------------------------------------------

module _ {D : Type 0} (b : disk.Ghosts D) {K : Type 0} (k : sink.Ghosts K) (r : RunTexts) (playable : IsPlayable r.program) (flat : HasFlatParts r.program) (bytes : HasBytes r.program) (disks : List D) (before after : K) (new : World (Torn D) (torn b)) (w : Why) (s : LivesShort b k r (lent r.program.components disks) before after new w)
    (why : WorldRefused) (z : SerialRefused b r.program (intervals_of r.policy) s.was.left s.was.world s.now.world why) where
  abbrev old : World (Torn D) (torn b)
  old = s.was.world

  -- a refusal of it is of sound logs
  sound-so : AllTell b (lent r.program.components disks) → IsOfSound why
  sound-so tell = by why z.fails.why_refused
    where
      joined : AreJoined r.program r.fingerprint (λ c. list_of c r.schedule.events) s.components s.progresses
      joined = s.told tell

      told : Tells old
      told = old-tells b r s.components s.progresses joined old s.joins.assembled

      meet : (y : WorldRefused) → met r.program (print_of z.now) (state_of z.now) z.event.stop z.event.what ≡ Some y → IsOfSound y
      meet y m =
          let stands = s.joins.joined (λ c. list_of c r.schedule.events) joined in
          let own : print_of z.now ≡ r.fingerprint = z.goes.disks.print ∙ s.joins.assembled.assembles.is_own in
          let P : List ℕ × List Event → Type 0 = λ q. Executes r.program q.0 (intervals_of r.policy) (agenda_left q.1) (state_of old) z.transitions z.agenda in
          let Q : List ℕ × SystemState → Type 0 = λ q. met r.program q.0 q.1 z.event.stop z.event.what ≡ Some y in
          closed_runs_meet r.program r.fingerprint (intervals_of r.policy) joined.plans joined.lanes joined.berths (world_of old).nodes (world_of old).showings z.agenda (state_of old) z.transitions z.event y playable flat bytes joined.closed stands.are stands.world stands.kept
          (subst P (λ i. (s.joins.assembled.assembles.is_own i, (s.joins.left ∙ stands.left) i)) (z.goes.executes told))
          (subst Q (λ i. (own i, sym z.goes.ends i)) m)

      by : (y : WorldRefused) → (Tells z.now → IsRefused r.program (print_of z.now) (state_of z.now) (received_of z.now) z.event y) → IsOfSound y
      by (refused.Bad c place) f = meet (refused.Bad c place) (f (tells-on old z.now z.goes.disks told))
      by (refused.Foreign c kept) f = meet (refused.Foreign c kept) (f (tells-on old z.now z.goes.disks told))
      by (refused.Limit which) f = tt
      by (refused.LogFull c) f = tt
      by (refused.Failed c) f = tt
      by refused.Memory f = tt

  all-kept : KeepsAll old s.now.world
  all-kept = short-keeps b r s.components s.progresses s.returned s.was s.joins k s.now before after w s.fails

  -- a component whose disk failed in it
  failed-so : (few : length r.program.components ≤ length disks) → length (disks_under (components_of s.now.world)) ≡ disks_in r.program.components → (c : ComId) (x y : Component (Torn D) (torn b)) → slice_get (components_of z.now) c.0 ≡ Some x → slice_get (components_of s.now.world) c.0 ≡ Some y → HasFault b x y
      → HasFailed b disks (merged r.program.components (left_over r.program.components disks) (disks_under (components_of s.now.world))) c
  failed-so few all c x y at is fault = by (disk_of p.0) (disk_of x) (disk_of y) refl refl refl (z.goes.disks.kept c.0 p.0 x p.1 at) fault (placed p.0 p.1)
    where
      xs : List Declared
      xs = r.program.components

      count : length (components_of old) ≡ length xs
      count = ap length s.joins.assembled.assembles.same ∙ s.joins.assembled.placed.count

      p : (p : Component (Torn D) (torn b)) × (slice_get (components_of old) c.0 ≡ Some p)
      p = get-there (components_of old) c.0 (omega (arith, get-within (components_of s.now.world) c.0 y is, all-kept.count))

      placed-at : (i : ℕ) (q : Component (Torn D) (torn b)) → slice_get (components_of old) i ≡ Some q → IsPlaced r.program s.components (record { 0 = i }) q
      placed-at i q there = s.joins.assembled.placed.each (record { 0 = i }) q (ap (λ (l : List (Component (Torn D) (torn b))). slice_get l i) (sym s.joins.assembled.assembles.same) ∙ there)

      placed : (q : Component (Torn D) (torn b)) → slice_get (components_of old) c.0 ≡ Some q → IsPlaced r.program s.components c q
      placed q there = s.joins.assembled.placed.each c q (ap (λ (l : List (Component (Torn D) (torn b))). slice_get l c.0) (sym s.joins.assembled.assembles.same) ∙ there)

      own-of : (v : Declared) (q e : Option (Torn D)) → kept_disk (torn b) q e → is_some q ≡ cond (is_outside v.kind) false true → HasOwn b v e
      own-of v None None kept own = outside (is_outside v.kind) own
        where
          outside : (out : Bool) → false ≡ cond out false true → out ≡ true
          outside true i = refl
          outside false i = absurd (cc i)
      own-of v (Some t) (Some u) kept own = inside (is_outside v.kind) own
        where
          inside : (out : Bool) → true ≡ cond out false true → out ≡ false
          inside false i = refl
          inside true i = absurd (cc i)
      own-of v None (Some u) kept own = absurd kept
      own-of v (Some t) None kept own = absurd kept

      own-new : (i : ℕ) (v : Declared) (q : Component (Torn D) (torn b)) → slice_get xs i ≡ Some v → slice_get (components_of s.now.world) i ≡ Some q → HasOwn b v (disk_of q)
      own-new i v q there here =
          let f = get-there (components_of old) i (omega (arith, get-within (components_of s.now.world) i q here, all-kept.count)) in
          own-of v (disk_of f.0) (disk_of q) (all-kept.kept i f.0 q f.1 here) (own-at b r s.components s.progresses s.returned s.was s.joins i v f.0 there (placed-at i f.0 f.1))

      by : (q o e : Option (Torn D)) → disk_of p.0 ≡ q → disk_of x ≡ o → disk_of y ≡ e → kept_disk (torn b) (disk_of p.0) (disk_of x) → has_fault b (disk_of x) (disk_of y) → IsPlaced r.program s.components c p.0 → HasFailed b disks (merged xs (left_over xs disks) (disks_under (components_of s.now.world))) c
      by q o e pq xo ye kept f (inr out) = absurd (gone (disk_of x) (disk_of y) (subst (λ (i : Option (Torn D)). kept_disk (torn b) i (disk_of x)) (no-disk b p.0 out.1.node) kept) f)
        where
          gone : (i j : Option (Torn D)) → kept_disk (torn b) None i → has_fault b i j → ⊥
          gone None j kept f = f
          gone (Some t) j kept f = kept
      by q o e pq xo ye kept f (inl h) = there q o e pq ye (subst (λ (i : Option (Torn D)). kept_disk (torn b) i o) pq (subst (λ (i : Option (Torn D)). kept_disk (torn b) (disk_of p.0) i) xo kept)) (subst (λ (i : Option (Torn D)). has_fault b i e) xo (subst (λ (i : Option (Torn D)). has_fault b (disk_of x) i) ye f))
        where
          there : (q o e : Option (Torn D)) → disk_of p.0 ≡ q → disk_of y ≡ e → kept_disk (torn b) q o → has_fault b o e → HasFailed b disks (merged xs (left_over xs disks) (disks_under (components_of s.now.world))) c
          there q None e pq ye kept f = absurd f
          there q (Some t) None pq ye kept f = absurd f
          there None (Some t) (Some u) pq ye kept f = absurd kept
          there (Some v) (Some t) (Some u) pq ye kept f =
              let place = berthed-number r.program h.0 c h.1 in
              let began : faults_on b (lent xs disks) h.0 ≤ b.faults v.inner = subst (λ (i : Option (Torn D)). faults_on b (lent xs disks) h.0 ≤ faults_in (torn b) i) pq (s.since h.0 p.0 h.2) in
              let since : faults_on b (lent xs disks) (number_of r.program c) ≤ b.faults t.inner = subst (λ n. faults_on b (lent xs disks) n ≤ b.faults t.inner) place (let later : b.faults v.inner ≤ b.faults t.inner = kept.later in omega (arith, began, later)) in
              let now : slice_get (disks_under (components_of s.now.world)) (number_of r.program c) ≡ Some u.inner = under-at b xs (components_of s.now.world) (all-kept.count ∙ count) own-new c.0 y u is ye in
              failed-since b r.program disks few (disks_under (components_of s.now.world)) all c (b.faults t.inner) u.inner (berthed-has r.program h.0 c h.1) since now f

-- the whole call ------------------------------------------------------------------------------------------------------

module _ {D : Type 0} (b : disk.Ghosts D) {K : Type 0} (k : sink.Ghosts K) (r : RunTexts) (playable : IsPlayable r.program) (flat : HasFlatParts r.program) (bytes : HasBytes r.program) (disks now : List D) (before after : K) (few : length r.program.components ≤ length disks) (status : ℕ) (l : LivesAs b k r disks now before after status)
    (calm : NothingFails b k r.program r.fingerprint Anew disks now before after) where
  abbrev Done : Type 0
  Done = (status ≡ 0) ⊎ ((status ≡ 12) ⊎ EndsAtLimit b k r disks now before after status)

  -- the disks that came back are those of the call
  back-now : (back : List D) (c : ComId) → l.back ≡ Some back → HasFailed b disks (merged r.program.components (left_over r.program.components disks) back) c → HasFailed b disks now c
  back-now back c is f = subst (λ (xs : List D). HasFailed b disks xs c) (sym (l.places ∙ ap (λ o. put_in r.program (left_over r.program.components disks) o) is)) f

  module _ (w : Why) (is : l.result ≡ Err w) (ends : EndsAs k (codes "iclive") (Some r.program) w l.mid after status) where
    memory : w ≡ Memory → Done
    memory wants = inr (inl (wants-memory b r k before l.mid after status w wants ends))

    -- an event was refused
    refused-so : (why : WorldRefused) → w ≡ why_of_world r.fingerprint why → IsOfSound why → ((c : ComId) → why ≡ refused.Failed c → ⊥) → Done
    refused-so why told sound failed = by why told sound failed
      where
        limit : (y : WorldRefused) → w ≡ why_of_world r.fingerprint y → IsOfLimit y → Done
        limit y told of = inr (inr (record { lives = l; why = y; is = is ∙ ap (λ v. Err v) told; limit = of }))

        by : (y : WorldRefused) → w ≡ why_of_world r.fingerprint y → IsOfSound y → ((c : ComId) → y ≡ refused.Failed c → ⊥) → Done
        by (refused.Limit which) told sound failed = limit (refused.Limit which) told tt
        by (refused.LogFull c) told sound failed = limit (refused.LogFull c) told tt
        by (refused.Bad c place) told sound failed = limit (refused.Bad c place) told sound
        by (refused.Foreign c kept) told sound failed = absurd sound
        by (refused.Failed c) told sound failed = absurd (failed c refl)
        by refused.Memory told sound failed = memory told

    -- no run starts
    start-so : (why : StartWhy) → w ≡ why_of_start r.fingerprint why → IsStartRefused None why → ((c : ComId) → why ≡ starts.Failed c → ⊥) → Done
    start-so (starts.NotBlank c) told cause failed = absurd (cc cause)
    start-so (starts.Bad c place) told cause failed = absurd (cc cause)
    start-so (starts.Foreign c kept) told cause failed = absurd (cc cause)
    start-so (starts.Failed c) told cause failed = absurd (failed c refl)
    start-so starts.Memory told cause failed = memory told

    unthreaded : (t : ThreadsRefused D (Torn D) (torn b)) → FailsToRun b r.program r.fingerprint (lent r.program.components disks) t → IsUnthreaded r t l.back w → Done
    unthreaded (threads.Start s) fails told = start-so s.why told.1 (subst (λ o. IsStartRefused o s.why) calm.opens (fails.opens.why calm.tell)) (λ c e. calm.working c (failed c e))
      where
        failed : (c : ComId) → s.why ≡ starts.Failed c → HasFailed b disks now c
        failed c e =
            let f = subst (λ v. IsStartFailed b r.program (lent r.program.components disks) s.disks.items v) e fails.opens.failed in
            back-now s.disks.items c told.0 (failed-at b r.program disks few s.disks.items (fails.opens.count ∙ lent_count r.program.components disks few) c f.before f.now f.has f.was f.is f.fault)
    unthreaded (threads.Run x) (inl m) (inl h) = memory (h.1 ∙ ap (why_of_world r.fingerprint) m.0)
    unthreaded (threads.Run x) (inr z) (inl h) =
        refused-so x.why h.1 (z.sound calm.tell)
        (λ c e. calm.working c (back-now (disks_under x.components) c h.0.is
        (thread-failed b r.program disks few (AllTell b (lent r.program.components disks)) r.fingerprint x.components x.received x.packets c h.0.count
        (subst (λ v. WasRefused b (faults_on b (lent r.program.components disks)) (AllTell b (lent r.program.components disks)) r.program r.fingerprint x.components x.received x.packets v) e z))))
    unthreaded (threads.Run x) fails (inr h) = memory h.1
    unthreaded threads.Memory fails told = memory told.1

    short-so : (new : World (Torn D) (torn b)) (back : List D) → l.back ≡ Some back → back ≡ disks_under (components_of new) → LivesShort b k r (lent r.program.components disks) before l.mid new w → Done
    short-so new back some under s = by s.fails
      where
        failed : (why : WorldRefused) (z : SerialRefused b r.program (intervals_of r.policy) s.was.left s.was.world s.now.world why) (c : ComId) → why ≡ refused.Failed c → HasFailed b disks now c
        failed why z c e =
            let f = subst (λ v. IsFailed b z.now s.now.world v) e z.fails.failed in
            let same : l.back ≡ Some (disks_under (components_of s.now.world)) = some ∙ ap (λ v. Some v) (under ∙ ap (λ (q : World (Torn D) (torn b)). disks_under (components_of q)) (sym s.is)) in
            back-now (disks_under (components_of s.now.world)) c same
            (failed-so b k r playable flat bytes disks before l.mid new w s why z few (short-count b r s.components s.progresses s.returned s.was s.joins k s.now before l.mid w s.fails) c f.0 f.1 f.2 f.3 f.4)

        cut-so : (cut : Cut) → w ≡ why_of_cut r.fingerprint cut → WasCut b r.program (intervals_of r.policy) s.was.left s.was.world s.now.world cut → Done
        cut-so (cuts.Refused why) told z = refused-so why told (sound-so b k r playable flat bytes disks before l.mid new w s why z calm.tell) (λ c e. calm.working c (failed why z c e))
        cut-so cuts.Print told z = absurd z
        cut-so cuts.Memory told z = memory told

        by : FailsToFinish b k r s.was s.now before l.mid w → Done
        by (inl c) = cut-so c.cut c.told c.was
        by (inr u) = untold _ w refl u.fails
          where
            untold : (pieces : List (List ℕ)) (v : Why) → w ≡ v → FailsToTell k pieces before l.mid v → Done
            untold pieces (AFault fault) e f = absurd f
            untold pieces Print e f = absurd (calm.output (subst (λ (o : K). Rose (k.faults before) (k.faults o)) (sym (subst (λ v. EndsAs k (codes "iclive") (Some r.program) v l.mid after status) e ends).1) f.failed))
            untold pieces Memory e f = memory e

  pub completes-as : Done
  completes-as = by l.result refl l.lives l.ends
    where
      by : (result : Result Unit Why) → l.result ≡ result → LivesOver b k r (lent r.program.components disks) l.back before l.mid result → IsToldBy b k r result l.mid after status → Done
      by (Ok x) is lives ends = inl ends.0
      by (Err w) is (inl u) ends = memory w is ends u.memory
      by (Err w) is (inr (inl u)) ends = unthreaded w is ends u.refused u.fails u.told
      by (Err w) is (inr (inr e)) ends = short-so w is ends e.new e.is e.some e.under e.ran

pub completes : {D : Type 0} (b : disk.Ghosts D) {K : Type 0} (k : sink.Ghosts K) (r : RunTexts) → IsPlayable r.program → HasFlatParts r.program → HasBytes r.program → (disks now : List D) (before after : K) → length r.program.components ≤ length disks → (status : ℕ) → Lives b k r disks now before after status → Completes b k r disks now before after status
completes b k r playable flat bytes disks now before after few status (inl h) calm = inr (inl h.0)
completes b k r playable flat bytes disks now before after few status (inr l) calm = completes-as b k r playable flat bytes disks now before after few status l calm
