-- The work of a component, with its disk, is the step of the world.
use Rattle.std.proofs.Common.{◌≡◌, ◌∙◌, sym, ap, subst, refl, ℕ, zero, suc, ◌+◌, ◌-◌, true, false, cond, ◌⊎◌, inl, inr, List, [], ◌∷◌, length, map, min, arith, Option, Some, None, option_map}
use Rattle.std.specs.Prelude.{is_some, slice_get, slice_set, option_and_then, unwrap_or}
use Rattle.std.proofs.lemmas.Bool.{cases_eq}
use Rattle.std.proofs.lemmas.List.{length-map, map-set}
use Rattle.ic_base.specs.declared.messages.ComId.{ComId}
use Rattle.ic_base.specs.declared.events.Answer.{Answer}
use Rattle.ic_base.specs.declared.events.Event.{Event}
use Rattle.ic_base.specs.declared.events.Stop.{Stop}
use Rattle.ic_base.specs.declared.events.Trace.{Trace}
use Rattle.ic_base.specs.declared.record.Record.{Record}
use Rattle.ic_base.specs.declared.scenario.Program.{Program}
use Rattle.def_log.specs.Sizes.{size_in}
use Rattle.def_run.specs.CoreSteps.{CoreStep, IsTornAt, loads_first, forced_of}
use Rattle.def_run.specs.Reports.{played_by, played_by_all}
use Rattle.def_run.specs.SystemStates.{file_of, has_disk, KeepsLog, KeepsLogs, IsLog}
use Rattle.def_step.specs.Calls.{node_is_full}
use Rattle.def_step.specs.World as definition
use Rattle.def_step.specs.World.{Node, Runs, Serves, Down, External, DiskOutcome, Done, After, node_at, is_reached, behind}
use Rattle.ic_disk.specs.declared.disk.Disk.{Ghosts}
use Rattle.ic_node.specs.Calling.{call_of, done_with}
use Rattle.ic_node.specs.Meeting.{Meets, KeepsDisk, adds_in, IsTornBy, kept_disk, where_told}
use Rattle.ic_node.specs.Nodes as parts
use Rattle.ic_node.specs.Views as nodes
use Rattle.ic_node.specs.Views.{node_of, disk_of, com_of, Tells as ComponentTells}
use Rattle.ic_node.specs.declared.component.Component.{Component}
use Rattle.ic_node.specs.declared.done.Done.{Done as Told}
use Rattle.ic_node.specs.declared.node.Node.{Node as Kept}
use Rattle.ic_node.specs.declared.node.Node.TheVariants.{Per, Tra, Off, Ext}
use Rattle.ic_world.specs.Acting.{Acts, GREATEST}
use Rattle.ic_world.specs.Allowing.{is_kept, IsMadeFor, is_allowed}
use Rattle.ic_work.specs.Components.{Works, HasRoom}
use Rattle.ic_world.specs.Standing.{ArePlaced, HoldLogs}
use Rattle.ic_world.specs.Stepping.{Steps}
use Rattle.ic_world.specs.Tasks as tasks
use Rattle.ic_world.specs.Tasks.{task_done}
use Rattle.ic_work.specs.Tasks.{work_done}
use Rattle.ic_world.specs.Views.{components_of, world_of, state_of, print_of, received_of, played_of, Tells}
use Rattle.ic_work.specs.Working.{work_of, work_receives}
use Rattle.ic_work.specs.declared.work.Work.{Work}
use Rattle.ic_work.specs.declared.work.Work.TheVariants.{Calls, Crashes, Recovers}
use Rattle.ic_world.specs.declared.world.World.{World}
use Rattle.ic_world.proofs.Cores.{MeetsFile, passes_none, work-is_core}
use Rattle.ic_world.proofs.Lists.{get-within, get-set_same, get-set_other, get-map, same-com}
use Rattle.ic_world.proofs.Refusals.{receives-is}
use Rattle.ic_world.proofs.Sizes.{keeps-log}
use Rattle.ic_world.proofs.Made.{still-made}
use Rattle.ic_world.proofs.Tasks.{happens-task}

module _ {D : Type 0} (d : Ghosts D) where
  still-kept : (old new : Option D) → kept_disk d old new → is_some new ≡ is_some old
  still-kept None None k = refl
  still-kept (Some x) (Some y) k = refl
  still-kept None (Some y) k = absurd k
  still-kept (Some x) None k = absurd k

  none-kept : (old new : Option D) → old ≡ None → kept_disk d old new → parts.read_of d new ≡ parts.read_of d old
  none-kept None None e k = refl
  none-kept None (Some y) e k = absurd k
  none-kept (Some x) new e k = absurd (cc)

module _ {D : Type 0} {d : Ghosts D} where
  -- a component that is kept has a disk, and tells its bytes through it
  has-disk : (x : Component D d) → is_kept (Some (node_of x)) ≡ true → (disk : D) × (disk_of x ≡ Some disk)
  has-disk x k = by x.kept x.node k
    where
      by : (rs : List Record) (n : Kept D d) → is_kept (Some (parts.node_with rs n)) ≡ true → (disk : D) × (parts.disk_in n ≡ Some disk)
      by rs (Per p) e = (_, refl)
      by rs (Tra t) e = (_, refl)
      by rs (Off disk) e = (disk, refl)
      by rs Ext e = absurd (cc)

  no-disk : (x : Component D d) → node_of x ≡ External → disk_of x ≡ None
  no-disk x e = by x.kept x.node e
    where
      by : (rs : List Record) (n : Kept D d) → parts.node_with rs n ≡ External → parts.disk_in n ≡ None
      by rs (Per p) e = absurd (cc)
      by rs (Tra t) e = absurd (cc)
      by rs (Off disk) e = absurd (cc)
      by rs Ext e = refl

  pub kept-or-not : (x : Component D d) → is_kept (Some (node_of x)) ≡ is_some (disk_of x)
  kept-or-not x = by x.kept x.node
    where
      by : (rs : List Record) (n : Kept D d) → is_kept (Some (parts.node_with rs n)) ≡ is_some (parts.disk_in n)
      by rs (Per p) = refl
      by rs (Tra t) = refl
      by rs (Off disk) = refl
      by rs Ext = refl

  tells-disk : (x : Component D d) (disk : D) → disk_of x ≡ Some disk → ComponentTells x → d.tells disk
  tells-disk x disk e t = let P : Option D → Type 0 = λ o. parts.told_of d o in subst P e t

  meets-file : (x : Component D d) (P : Type 0) → is_kept (Some (node_of x)) ≡ true → ComponentTells x → where_told d (disk_of x) P → P
  meets-file x P k t w =
      let h = has-disk x k in
      let W : Option D → Type 0 = λ o. where_told d o P in
      let got : where_told d (Some h.0) P = subst W h.1 w in
      got (tells-disk x h.0 h.1 t)

  pub component-logs : (print : List ℕ) (xs : List (Component D d)) (c : ComId) (x : Component D d) → HoldLogs print xs → slice_get xs c.0 ≡ Some x → ComponentTells x → KeepsLog print c (nodes.file_of x) (Some (node_of x))
  component-logs print xs c x logs at t = keeps-log print c (nodes.file_of x) (node_of x) (λ kept.
      let h = has-disk x kept in
      let F : Option D → Type 0 = λ o. IsLog print c.0 (parts.read_of d o) (forced_of (Some (node_of x))) in
      subst F (sym h.1) (logs c.0 x h.0 at h.1 (tells-disk x h.0 h.1 t)))

  -- the logs of all components
  pub world-logs : (w : World D d) → HoldLogs (print_of w) (components_of w) → Tells w → KeepsLogs (print_of w) (state_of w)
  world-logs w logs tells b = by (slice_get (components_of w) b.0) refl
    where
      by : (o : Option (Component D d)) → slice_get (components_of w) b.0 ≡ o → KeepsLog (print_of w) b (file_of (state_of w) b) (node_at (world_of w) b)
      by None is =
          let N : Option Node → Type 0 = λ n. KeepsLog (print_of w) b (file_of (state_of w) b) n in
          subst N (sym (get-map (λ x. node_of x) (components_of w) b.0 ∙ ap (option_map (λ x. node_of x)) is)) tt
      by (Some x) is =
          let N : Option Node → Type 0 = λ n. KeepsLog (print_of w) b (file_of (state_of w) b) n in
          let F : List ℕ → Type 0 = λ f. KeepsLog (print_of w) b f (Some (node_of x)) in
          subst N (sym (get-map (λ y. node_of y) (components_of w) b.0 ∙ ap (option_map (λ y. node_of y)) is))
          (subst F (sym (ap (λ o. unwrap_or o []) (get-map (λ y. nodes.file_of y) (components_of w) b.0 ∙ ap (option_map (λ y. nodes.file_of y)) is)))
          (component-logs (print_of w) (components_of w) b x logs is (tells b.0 x is)))

-- what a disk decided, as it is tied to the file
as-file : (program : Program) (c : ComId) (x : DiskOutcome) (stop : Option Stop) (added : List Record) (answer : Answer) (before now : Node) (old new : List ℕ) → Meets program c x stop added answer before now old new → MeetsFile program c x stop added answer before now old new
as-file program c x stop added answer before now old new m = record {
  found = m.found;
  size = m.size;
  free = m.free;
  torn = λ s. by stop (m.torn s);
  same = m.same;
}
  where
    by : (o : Option Stop) → IsTornBy x o (loads_first program c (Some before)) added old new → (s : Stop) × (o ≡ Some s) × IsTornAt x s (loads_first program c (Some before)) (x.size - 1) added old new
    by None t = absurd t
    by (Some s) t = (s, refl, t)

pub played-none : (ns : List Node) → played_by_all ns ns ≡ 0
played-none [] = refl
played-none (n ∷ ns) = ap (λ z. z + played_by_all ns ns) (by n) ∙ ap (λ z. 0 + z) (played-none ns)
  where
    by : (m : Node) → played_by m m ≡ 0
    by (Runs p) = omega arith
    by (Serves t) = refl
    by (Down rs) = refl
    by External = refl

pub played-set : (ns : List Node) (i : ℕ) (m n : Node) → slice_get ns i ≡ Some m → played_by_all ns (slice_set ns i n) ≡ played_by m n
played-set [] i m n e = absurd (cc)
played-set (y ∷ ys) zero m n e = let same : y ≡ m = cc in ap (λ z. played_by y n + z) (played-none ys) ∙ add-none (played_by y n) ∙ ap (λ z. played_by z n) same
  where
    add-none : (k : ℕ) → k + 0 ≡ k
    add-none k = omega arith
played-set (y ∷ ys) (suc i) m n e = ap (λ z. z + played_by_all ys (slice_set ys i n)) (by y) ∙ add-first (played_by_all ys (slice_set ys i n)) ∙ played-set ys i m n e
  where
    by : (k : Node) → played_by k k ≡ 0
    by (Runs p) = omega arith
    by (Serves t) = refl
    by (Down rs) = refl
    by External = refl

    add-first : (k : ℕ) → 0 + k ≡ k
    add-first k = omega arith

module _ {D : Type 0} {d : Ghosts D} (program : Program) (old mid : World D d) (e : Event) (c : ComId) (work : Work) (task : tasks.task_of (world_of old) e.what ≡ tasks.Asks (world_of mid) c (work_of work)) (same : components_of mid ≡ components_of old) (placed : ArePlaced (components_of old)) (before now : Component D d) (done : Told) (at : slice_get (components_of mid) c.0 ≡ Some before) (works : Works program before e.stop work now done) (kept : KeepsDisk before now) where
  pub at-old : slice_get (components_of old) c.0 ≡ Some before
  at-old = ap (λ xs. slice_get xs c.0) (sym same) ∙ at

  pub which : com_of before ≡ c
  which = same-com (com_of before) c (placed c.0 before at-old).0

  pub node-old : node_at (world_of old) c ≡ Some (node_of before)
  node-old = get-map (λ x. node_of x) (components_of old) c.0 ∙ ap (option_map (λ x. node_of x)) at-old

  pub node-mid : node_at (world_of mid) c ≡ Some (node_of before)
  node-mid = get-map (λ x. node_of x) (components_of mid) c.0 ∙ ap (option_map (λ x. node_of x)) at

  pub file-old : file_of (state_of old) c ≡ nodes.file_of before
  file-old = ap (λ o. unwrap_or o []) (get-map (λ x. nodes.file_of x) (components_of old) c.0 ∙ ap (option_map (λ x. nodes.file_of x)) at-old)

  pub work-is : work_done program c e.stop works.outcome (node_of before) (work_of work) ≡ Some (done_with (node_of now) done)
  work-is = let P : ComId → Type 0 = λ z. work_done program z e.stop works.outcome (node_of before) (work_of work) ≡ Some (done_with (node_of now) done) in subst P which works.step

  -- the event is the work of the component, and what is behind it
  pub work-happens : definition.happens program (world_of old) e works.outcome ≡ Some (behind (world_of mid) e c (done_with (node_of now) done))
  work-happens =
      happens-task program (world_of old) e works.outcome
      ∙ ap (task_done program e works.outcome) task
      ∙ ap (λ o. option_map (behind (world_of mid) e c) (option_and_then (λ n. work_done program c e.stop works.outcome n (work_of work)) o)) node-mid
      ∙ ap (option_map (behind (world_of mid) e c)) work-is

  act-room : ComponentTells before → passes_none program (state_of old) c (work_of work)
  act-room t = by work works.room
    where
      by : (k : Work) → HasRoom program before k → passes_none program (state_of old) c (work_of k)
      by (Calls number call) room =
          ap (λ o. elim o [ None ↦ false | Some n ↦ elim (size_in (file_of (state_of old) c)) [ None ↦ false | Some s ↦ node_is_full program c (call_of call) s n ] ]) node-old
          ∙ ap (λ f. elim (size_in f) [ None ↦ false | Some s ↦ node_is_full program c (call_of call) s (node_of before) ]) file-old
          ∙ sizes (size_in (nodes.file_of before)) refl
        where
          sizes : (o : Option ℕ) → size_in (nodes.file_of before) ≡ o → elim o [ None ↦ false | Some s ↦ node_is_full program c (call_of call) s (node_of before) ] ≡ false
          sizes None is = refl
          sizes (Some s) is = ap (λ z. node_is_full program z (call_of call) s (node_of before)) (sym which) ∙ room t s is
      by Crashes room = tt
      by Recovers room = tt

  act-meets : ComponentTells before → is_kept (Some (node_of before)) ≡ true → MeetsFile program c works.outcome e.stop (adds_in (node_of before) (work_done program c None works.outcome (node_of before) (work_of work))) done.answer (node_of before) (node_of now) (file_of (state_of old) c) (nodes.file_of now)
  act-meets t k =
      let P : ComId → Type 0 = λ z. MeetsFile program z works.outcome e.stop (adds_in (node_of before) (work_done program z None works.outcome (node_of before) (work_of work))) done.answer (node_of before) (node_of now) (nodes.file_of before) (nodes.file_of now) in
      let F : List ℕ → Type 0 = λ f. MeetsFile program c works.outcome e.stop (adds_in (node_of before) (work_done program c None works.outcome (node_of before) (work_of work))) done.answer (node_of before) (node_of now) f (nodes.file_of now) in
      let met = meets-file before (Meets program (com_of before) works.outcome e.stop (adds_in (node_of before) (work_done program (com_of before) None works.outcome (node_of before) (work_of work))) done.answer (node_of before) (node_of now) (nodes.file_of before) (nodes.file_of now)) k t works.meets in
      subst F (sym file-old) (subst P which (as-file program (com_of before) works.outcome e.stop (adds_in (node_of before) (work_done program (com_of before) None works.outcome (node_of before) (work_of work))) done.answer (node_of before) (node_of now) (nodes.file_of before) (nodes.file_of now) met))

  pub work-core : is_reached e.stop 0 ≡ false → IsMadeFor program (world_of old) → is_allowed program e.what ≡ true → HoldLogs (print_of old) (components_of old) → Tells old → CoreStep program (print_of old) (state_of old) e (definition.trace_of (world_of mid) e c (done_with (node_of now) done)) (record { world = definition.world_with (world_of mid) c (done_with (node_of now) done); files = slice_set (state_of old).files c.0 (nodes.file_of now) })
  work-core unreached made allowed logs tells =
      let tb = tells c.0 before at-old in
      let many : length (state_of old).files ≡ length (world_of old).nodes = length-map (components_of old) (λ x. nodes.file_of x) ∙ sym (length-map (components_of old) (λ x. node_of x)) in
      let outer : node_of before ≡ External → nodes.file_of now ≡ file_of (state_of old) c = λ is. none-kept d (disk_of before) (disk_of now) (no-disk before is) kept ∙ sym file-old in
      let L : ComId → List ℕ → Node → Type 0 = λ z f n. KeepsLog (print_of old) z f (Some n) in
      let here : L (com_of before) (nodes.file_of before) (node_of before) = subst (λ z. L z (nodes.file_of before) (node_of before)) (sym which) (component-logs (print_of old) (components_of old) c before logs at-old tb) in
      let log : L c (nodes.file_of now) (node_of now) = subst (λ z. L z (nodes.file_of now) (node_of now)) (works.goes_on.same ∙ which) (works.goes_on.logs tb (print_of old) here) in
      work-is_core program (print_of old) (state_of old) e (world_of mid) c (work_of work) task (node_of before) node-old works.outcome (done_with (node_of now) done) work-is (nodes.file_of now) many unreached made allowed (act-room tb) (act-meets tb) outer (world-logs old logs tells) log

module _ {D : Type 0} {d : Ghosts D} (program : Program) (old mid new : World D d) (e : Event) (c : ComId) (work : Work) (t : Trace) (task : tasks.task_of (world_of old) e.what ≡ tasks.Asks (world_of mid) c (work_of work)) (same : components_of mid ≡ components_of old) (received : received_of mid ≡ received_of old) (played : played_of mid ≡ played_of old) (placed : ArePlaced (components_of old)) (a : Acts program mid e c work new t) where
  was : node_at (world_of old) c ≡ Some (node_of a.before)
  was = node-old program old mid e c work task same placed a.before a.now a.done a.at a.works a.kept

  act-happens : definition.happens program (world_of old) e a.works.outcome ≡ Some (record { world = world_of new; trace = t })
  act-happens = work-happens program old mid e c work task same placed a.before a.now a.done a.at a.works a.kept ∙ ap (λ z. Some z) a.told

  nodes-new : (world_of new).nodes ≡ slice_set (world_of old).nodes c.0 (node_of a.now)
  nodes-new = ap (map (λ x. node_of x)) (a.set ∙ ap (λ xs. slice_set xs c.0 a.now) same) ∙ map-set (λ x. node_of x) (components_of old) c.0 a.now

  files-new : (state_of new).files ≡ slice_set (state_of old).files c.0 (nodes.file_of a.now)
  files-new = ap (map (λ x. nodes.file_of x)) (a.set ∙ ap (λ xs. slice_set xs c.0 a.now) same) ∙ map-set (λ x. nodes.file_of x) (components_of old) c.0 a.now

  act-kept : IsMadeFor program (world_of old) → (b : ComId) → is_kept (node_at (world_of new) b) ≡ has_disk program b
  act-kept made b = ap (λ ns. is_kept (slice_get ns b.0)) nodes-new ∙ by (cases_eq b.0 c.0)
    where
      by : (b.0 ≡ c.0) ⊎ (b.0 ≡ c.0 → ⊥) → is_kept (slice_get (slice_set (world_of old).nodes c.0 (node_of a.now)) b.0) ≡ has_disk program b
      by (inl s) =
          ap (λ i. is_kept (slice_get (slice_set (world_of old).nodes c.0 (node_of a.now)) i)) s
          ∙ ap is_kept (get-set_same (world_of old).nodes c.0 (node_of a.now) (get-within (world_of old).nodes c.0 (node_of a.before) was))
          ∙ kept-or-not a.now
          ∙ still-kept d (disk_of a.before) (disk_of a.now) a.kept
          ∙ sym (kept-or-not a.before)
          ∙ ap is_kept (sym was)
          ∙ made.kept c
          ∙ ap (has_disk program) (sym (same-com b c s))
      by (inr o) = ap is_kept (get-set_other (world_of old).nodes c.0 b.0 (node_of a.now) o) ∙ made.kept b

  act-made : IsMadeFor program (world_of old) → IsMadeFor program (world_of new)
  act-made made = still-made program (world_of old) e a.works.outcome (record { world = world_of new; trace = t }) made act-happens (act-kept made)

  act-core : is_reached e.stop 0 ≡ false → IsMadeFor program (world_of old) → is_allowed program e.what ≡ true → HoldLogs (print_of old) (components_of old) → Tells old → CoreStep program (print_of old) (state_of old) e t (state_of new)
  act-core unreached made allowed logs tells =
      let core = work-core program old mid e c work task same placed a.before a.now a.done a.at a.works a.kept unreached made allowed logs tells in
      let T : Trace → Type 0 = λ z. CoreStep program (print_of old) (state_of old) e z (record { world = definition.world_with (world_of mid) c (done_with (node_of a.now) a.done); files = slice_set (state_of old).files c.0 (nodes.file_of a.now) }) in
      let W : definition.World → Type 0 = λ z. CoreStep program (print_of old) (state_of old) e t (record { world = z; files = slice_set (state_of old).files c.0 (nodes.file_of a.now) }) in
      let F : List (List ℕ) → Type 0 = λ z. CoreStep program (print_of old) (state_of old) e t (record { world = world_of new; files = z }) in
      subst F (sym files-new) (subst W (ap (λ z. z.world) a.told) (subst T (ap (λ z. z.trace) a.told) core))

  pub act-steps : is_reached e.stop 0 ≡ false → IsMadeFor program (world_of old) → is_allowed program e.what ≡ true → HoldLogs (print_of old) (components_of old) → Steps program old e new t
  act-steps unreached made allowed logs = record {
    outcome = a.works.outcome;
    happens = act-happens;
    core = act-core unreached made allowed logs;
    received = a.received ∙ ap (λ z. z + cond (work_receives program c (work_of work) (node_of a.before)) 1 0) received ∙ ap (λ z. received_of old + cond z 1 0) (sym (receives-is program (print_of old) (state_of old) e.what e.stop (world_of mid) c (work_of work) task (node_of a.before) was));
    played = a.played ∙ ap (λ z. min (z + played_by (node_of a.before) (node_of a.now)) GREATEST) played ∙ ap (λ z. min (played_of old + z) GREATEST) (sym (ap (played_by_all (world_of old).nodes) nodes-new ∙ played-set (world_of old).nodes c.0 (node_of a.before) (node_of a.now) was));
    made = act-made made;
    going = a.going;
  }
