-- What an event leaves of the disks, and what a crash within it leaves.
use Rattle.std.proofs.Common.{◌≡◌, ◌∙◌, sym, ap, subst, refl, ℕ, Bool, false, ◌⊎◌, inl, inr, List, [], ◌∷◌, length, drop, arith, Option, Some, None, option_map}
use Rattle.std.specs.Prelude.{nat_lt, slice_get, unwrap_or}
use Rattle.std.proofs.lemmas.Bool.{both_ways, cases_eq, eq-eqb}
use Rattle.ic_base.specs.declared.limits.TheConstants.{SLOTS}
use Rattle.ic_base.specs.declared.messages.ComId.{ComId}
use Rattle.ic_base.specs.declared.messages.Packet.{Packet}
use Rattle.ic_base.specs.declared.events.Answer.{Answer}
use Rattle.ic_base.specs.declared.events.Event.{Event}
use Rattle.ic_base.specs.declared.events.What.{What}
use Rattle.ic_base.specs.declared.events.What.TheVariants.{Input, Deliver, Lose, Packet as Numbered, Force, Checkpoint, Resend, Emit, Crash, Recover}
use Rattle.ic_base.specs.declared.record.Record.{Record}
use Rattle.ic_base.specs.declared.scenario.Program.{Program}
use Rattle.def_log.specs.Directory.{slots_in}
use Rattle.def_log.specs.Sizes.{size_in}
use Rattle.def_run.specs.CoreSteps.{forced_of, would_force}
use Rattle.def_run.specs.SystemStates.{file_of, is_com}
use Rattle.def_step.specs.World as definition
use Rattle.def_step.specs.World.{Node, Runs, Serves, Down, External, DiskOutcome, Done, node_at, does, does_or_stops, cut_off, crashes, answer_stopped}
use Rattle.ic_disk.specs.TornDisks.{Torn}
use Rattle.ic_disk.specs.declared.disk.Disk.{Ghosts}
use Rattle.ic_node.specs.Calling.{call_of as node_call}
use Rattle.ic_node.specs.DeviceCalls as device
use Rattle.ic_node.specs.Meeting.{KeepsDisk, CrashAdds, kept_disk, adds_in}
use Rattle.ic_node.specs.Recovering.{held_by}
use Rattle.ic_disk.specs.Torns.{torn}
use Rattle.ic_node.specs.Views as nodes
use Rattle.ic_node.specs.Views.{node_of, disk_of, com_of, is_over}
use Rattle.ic_node.specs.declared.component.Component.{Component}
use Rattle.ic_node.proofs.Resting.{rests}
use Rattle.ic_world.specs.Acting.{KeepsOthers, CrashAddsAt, MakesCallsAt}
use Rattle.ic_work.specs.Components.{would_add}
use Rattle.ic_world.specs.Standing.{ArePlaced}
use Rattle.ic_world.specs.Stepping.{KeepsDisks, MakesCalls, CrashLeavesLogs, adds_at, read_by, asked_by}
use Rattle.ic_work.specs.Tasks as tasks
use Rattle.ic_world.specs.Tasks.{Task, Asks, Answers, task_of, delivered, oldest_delivered, lost, oldest_lost, node_calls, task_calls, event_calls}
use Rattle.ic_work.specs.Tasks.{work_done, work_calls}
use Rattle.ic_world.specs.Views.{components_of, world_of, state_of, print_of}
use Rattle.ic_work.specs.Working.{work_of}
use Rattle.ic_work.specs.declared.work.Work.{Work}
use Rattle.ic_work.specs.declared.work.Work.TheVariants.{Calls, Crashes, Recovers}
use Rattle.ic_world.specs.declared.world.World.{World}
use Rattle.ic_world.proofs.Cores.{forced-by_work}
use Rattle.ic_world.proofs.Lists.{get-map, same-com}
use Rattle.ic_world.proofs.Tasks.{call-task, called_in}

some-is : {A : Type 0} (x y : A) → Some x ≡ Some y → x ≡ y
some-is x y e = cc

-- who is asked, by the task
abbrev pub asked_in : Task → Option ComId
asked_in (Asks w c work) = Some c
asked_in (Answers w a) = None

call-asks : (t : Task) → ((w : definition.World) (c : ComId) → t ≡ Asks w c tasks.Crashes → ⊥) → ((w : definition.World) (c : ComId) → t ≡ Asks w c tasks.Recovers → ⊥) → option_map (λ x. x.who) (called_in t) ≡ asked_in t
call-asks (Asks w c (tasks.Calls n call)) a b = refl
call-asks (Asks w c tasks.Crashes) a b = absurd (a w c refl)
call-asks (Asks w c tasks.Recovers) a b = absurd (b w c refl)
call-asks (Answers w x) a b = refl

delivered-asks : (w : definition.World) (i : ℕ) (o : Option Packet) → option_map (λ x. x.who) (called_in (delivered w i o)) ≡ asked_in (delivered w i o)
delivered-asks w i None = refl
delivered-asks w i (Some p) = refl

oldest-asks : (w : definition.World) (o : Option ℕ) → option_map (λ x. x.who) (called_in (oldest_delivered w o)) ≡ asked_in (oldest_delivered w o)
oldest-asks w None = refl
oldest-asks w (Some i) = delivered-asks w i (definition.packet_at w i)

lost-asks : (w : definition.World) (o : Option ℕ) → None ≡ asked_in (oldest_lost w o)
lost-asks w None = refl
lost-asks w (Some i) = by (definition.packet_at w i)
  where
    by : (q : Option Packet) → None ≡ asked_in (lost w i q)
    by None = refl
    by (Some q) = refl

pub asked-task : (w : definition.World) (what : What) → asked_by w what ≡ asked_in (task_of w what)
asked-task w (Input c handler args) = refl
asked-task w (Deliver from to) = ap (option_map (λ x. x.who)) (call-task w (Deliver from to)) ∙ oldest-asks w (definition.oldest_of w from to)
asked-task w (Lose from to) = lost-asks w (definition.oldest_of w from to)
asked-task w (Numbered i) = ap (option_map (λ x. x.who)) (call-task w (Numbered i)) ∙ delivered-asks w i (definition.packet_at w i)
asked-task w (Force c) = refl
asked-task w (Checkpoint c) = refl
asked-task w (Resend c) = refl
asked-task w (Emit c) = refl
asked-task w (Crash c) = refl
asked-task w (Recover c) = refl

-- what the work adds is what the event would force ------------------------------------------

drop-all : (rs : List Record) → drop (length rs) rs ≡ []
drop-all [] = refl
drop-all (r ∷ rs) = drop-all rs

module _ {D : Type 0} {d : Ghosts D} (program : Program) (x : Component D d) where
  would-is : (work : Work) → adds_in (node_of x) (work_done program (com_of x) None (held_by x) (node_of x) (work_of work)) ≡ would_add program x work
  would-is (Calls n call) = by (does program (com_of x) (node_of x) n (node_call call))
    where
      by : (o : Option Done) → adds_in (node_of x) (option_map (cut_off None (held_by x) (node_of x) (answer_stopped n (held_by x).is_open (node_call call))) o) ≡ adds_in (node_of x) o
      by None = refl
      by (Some d0) = refl
  would-is Crashes = by (node_of x)
    where
      by : (n : Node) → drop (length (forced_of (Some n))) (forced_of (Some (crashes n).node)) ≡ []
      by (Runs p) = drop-all p.log.forced
      by (Serves t) = drop-all t.records
      by (Down rs) = drop-all rs
      by External = refl
  would-is Recovers = refl

pub adds-is : {D : Type 0} {d : Ghosts D} (program : Program) (old mid : World D d) (what : What) (c : ComId) (work : Work) (x : Component D d) → task_of (world_of old) what ≡ Asks (world_of mid) c (work_of work) → slice_get (components_of old) c.0 ≡ Some x → com_of x ≡ c → adds_at program (state_of old) what c ≡ would_add program x work
adds-is {D} {d} program old mid what c work x task at which =
    let node : node_at (world_of old) c ≡ Some (node_of x) = get-map (λ y. node_of y) (components_of old) c.0 ∙ ap (option_map (λ y. node_of y)) at in
    let file : file_of (state_of old) c ≡ nodes.file_of x = ap (λ o. unwrap_or o []) (get-map (λ y. nodes.file_of y) (components_of old) c.0 ∙ ap (option_map (λ y. nodes.file_of y)) at) in
    let O : List Record → List ℕ → DiskOutcome = λ rs f. record { found = rs; size = unwrap_or (size_in f) 0; free = nat_lt (length (slots_in f)) SLOTS; left = []; is_open = false } in
    let read : read_by (state_of old) c ≡ held_by x = ap (λ o. O (forced_of o) (file_of (state_of old) c)) node ∙ ap (O (forced_of (Some (node_of x)))) file in
    ap (λ o. would_force program (world_of old) what o c) read
    ∙ forced-by_work program (state_of old) what (world_of mid) c (work_of work) (node_of x) (held_by x) task node
    ∙ ap (λ z. adds_in (node_of x) (work_done program z None (held_by x) (node_of x) (work_of work))) (sym which)
    ∙ would-is program x work

-- the disks -----------------------------------------------------------------------------------

kept-itself : {D : Type 0} (d : Ghosts D) (o : Option D) → kept_disk d o o
kept-itself d None = tt
kept-itself d (Some disk) = record { tells = (λ t. t, λ t. t); keeps = (λ t. t, λ t. t); later = omega arith }

module _ {D : Type 0} {d : Ghosts D} where
  pub disks-asked : (old mid new : World D d) (what : What) (c : ComId) (work : Work) → task_of (world_of old) what ≡ Asks (world_of mid) c (work_of work) → components_of mid ≡ components_of old → print_of mid ≡ print_of old → KeepsOthers mid c new → KeepsDisks old what new
  disks-asked old mid new what c work task same print k = record {
    print = k.print ∙ print;
    count = k.count ∙ ap length same;
    kept = λ i x y a b. kept i x y a b (cases_eq i c.0);
    others = λ b e. ap (option_map (λ x. disk_of x)) (k.others b.0 (λ s. both_ways (is_com b (asked_by (world_of old) what)) e (ap (is_com b) (asked-task (world_of old) what ∙ ap asked_in task) ∙ eq-eqb b.0 c.0 s)) ∙ ap (λ xs. slice_get xs b.0) same);
  }
    where
      kept : (i : ℕ) (x y : Component D d) → slice_get (components_of old) i ≡ Some x → slice_get (components_of new) i ≡ Some y → (i ≡ c.0) ⊎ (i ≡ c.0 → ⊥) → KeepsDisk x y
      kept i x y a b (inl e) = k.kept x y (ap (λ xs. slice_get xs c.0) same ∙ ap (λ j. slice_get (components_of old) j) (sym e) ∙ a) (ap (λ j. slice_get (components_of new) j) (sym e) ∙ b)
      kept i x y a b (inr o) =
          let is : x ≡ y = some-is x y (sym a ∙ sym (ap (λ xs. slice_get xs i) same) ∙ sym (k.others i o) ∙ b) in
          let P : Component D d → Type 0 = λ z. KeepsDisk x z in
          subst P is (kept-itself d (disk_of x))

  pub disks-stay : (old new : World D d) (what : What) → components_of new ≡ components_of old → print_of new ≡ print_of old → KeepsDisks old what new
  disks-stay old new what same print = record {
    print = print;
    count = ap length same;
    kept = λ i x y a b. let is : x ≡ y = some-is x y (sym a ∙ sym (ap (λ xs. slice_get xs i) same) ∙ b) in let P : Component D d → Type 0 = λ z. KeepsDisk x z in subst P is (kept-itself d (disk_of x));
    others = λ b e. ap (λ xs. option_map (λ x. disk_of x) (slice_get xs b.0)) same;
  }

-- the device calls ----------------------------------------------------------------------------

module _ {D : Type 0} {d : Ghosts D} (program : Program) (old : World D d) (e : Event) (c : ComId) where
  -- those of an event are those of the work of the component that it asks
  pub calls-asked : (w : definition.World) (new : World D d) (work : Work) (ok : Bool) → task_of (world_of old) e.what ≡ Asks w c (work_of work) → w.nodes ≡ (world_of old).nodes → ArePlaced (components_of old) → MakesCallsAt program old c work e.stop ok new → MakesCalls program old e ok new
  calls-asked w new work ok task same placed made a x y asks at now =
      let is : a ≡ c = some-is a c (sym asks ∙ asked-task (world_of old) e.what ∙ ap asked_in task) in
      let there : slice_get (components_of old) c.0 ≡ Some x = ap (λ (z : ComId). slice_get (components_of old) z.0) (sym is) ∙ at in
      let node : node_at w c ≡ Some (node_of x) = ap (λ (ns : List Node). slice_get ns c.0) same ∙ get-map (λ y. node_of y) (components_of old) c.0 ∙ ap (option_map (λ y. node_of y)) there in
      let which : com_of x ≡ c = same-com (com_of x) c (placed c.0 x there).0 in
      let calls : event_calls program (world_of old) e.what ≡ work_calls program (com_of x) (node_of x) (work_of work) =
      ap (task_calls program) task ∙ ap (λ (o : Option Node). node_calls program c (work_of work) o) node ∙ ap (λ (z : ComId). node_calls program z (work_of work) (Some (node_of x))) (sym which) in
      let P : (Bool → ℕ) → Type 0 = λ f. device.MakesCalls f e.stop ok x y in
      subst P (sym calls) (made x y there (ap (λ (z : ComId). slice_get (components_of new) z.0) (sym is) ∙ now))

-- where it asks none
pub calls-none : {D : Type 0} {d : Ghosts D} (program : Program) (old new : World D d) (w : definition.World) (e : Event) (answer : Answer) (ok : Bool) → task_of (world_of old) e.what ≡ Answers w answer → MakesCalls program old e ok new
calls-none program old new w e answer ok task a x y asks at now = let clash : Some a ≡ None = sym asks ∙ asked-task (world_of old) e.what ∙ ap asked_in task in absurd (cc)

-- a crash -------------------------------------------------------------------------------------

module _ {D : Type 0} (b : Ghosts D) (only_now : (disk : D) (image : List ℕ) → b.keeps disk → b.left_since disk (b.moment disk) image → b.may_leave disk image) (tells : (disk : D) → b.keeps disk → b.tells disk) where
  pub component-rests : (x : Component (Torn D) (torn b)) (added : List Record) → is_over x ≡ false → CrashAdds added x x
  component-rests x added going = rests b only_now tells x.node x.kept added (x.durable going) (x.whole going) (x.on_disk going)

  pub crash-asked : (program : Program) (old mid new : World (Torn D) (torn b)) (what : What) (c : ComId) (work : Work) → task_of (world_of old) what ≡ Asks (world_of mid) c (work_of work) → components_of mid ≡ components_of old → ArePlaced (components_of old) → KeepsOthers mid c new → CrashAddsAt program mid c work new → CrashLeavesLogs program old what new
  crash-asked program old mid new what c work task same placed k adds a x y at now = by (cases_eq a.0 c.0)
    where
      by : (a.0 ≡ c.0) ⊎ (a.0 ≡ c.0 → ⊥) → CrashAdds (adds_at program (state_of old) what a) x y
      by (inl e) =
          let is : a ≡ c = same-com a c e in
          let there : slice_get (components_of old) c.0 ≡ Some x = ap (λ z. slice_get (components_of old) z.0) (sym is) ∙ at in
          let A : ComId → Type 0 = λ z. CrashAdds (adds_at program (state_of old) what z) x y in
          let L : List Record → Type 0 = λ rs. CrashAdds rs x y in
          subst A (sym is) (subst L (sym (adds-is program old mid what c work x task there (same-com (com_of x) c (placed c.0 x there).0))) (adds x y (ap (λ xs. slice_get xs c.0) same ∙ there) (ap (λ z. slice_get (components_of new) z.0) (sym is) ∙ now)))
      by (inr o) =
          let is : x ≡ y = some-is x y (sym at ∙ sym (ap (λ xs. slice_get xs a.0) same) ∙ sym (k.others a.0 o) ∙ now) in
          let P : Component (Torn D) (torn b) → Type 0 = λ z. CrashAdds (adds_at program (state_of old) what a) x z in
          subst P is (component-rests x (adds_at program (state_of old) what a) (placed a.0 x at).1)

  pub crash-none : (program : Program) (old new : World (Torn D) (torn b)) (what : What) → components_of new ≡ components_of old → ArePlaced (components_of old) → CrashLeavesLogs program old what new
  crash-none program old new what same placed a x y at now =
      let is : x ≡ y = some-is x y (sym at ∙ sym (ap (λ xs. slice_get xs a.0) same) ∙ now) in
      let P : Component (Torn D) (torn b) → Type 0 = λ z. CrashAdds (adds_at program (state_of old) what a) x z in
      subst P is (component-rests x (adds_at program (state_of old) what a) (placed a.0 x at).1)
