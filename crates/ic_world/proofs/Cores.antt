-- A component's work is a core step of the world.
use Rattle.std.proofs.Common.{◌≡◌, ◌∙◌, sym, ap, subst, refl, ℕ, ◌<◌, ◌-◌, Bool, true, false, cond, ◌⊎◌, inl, inr, List, [], length, drop, arith, Option, Some, None, option_map, Ok}
use Rattle.std.specs.Prelude.{nat_lt, slice_get, slice_set, option_and_then, unwrap_or}
use Rattle.std.proofs.lemmas.Bool.{both_ways, eqb-true, cases_eq, eq-eqb}
use Rattle.ic_base.specs.declared.limits.TheConstants.{SLOTS}
use Rattle.ic_base.specs.declared.messages.ComId.{ComId}
use Rattle.ic_base.specs.declared.messages.Packet.{Packet}
use Rattle.ic_base.specs.declared.events.Answer.{Answer}
use Rattle.ic_base.specs.declared.events.Answer.TheVariants as answers
use Rattle.ic_base.specs.declared.events.Event.{Event}
use Rattle.ic_base.specs.declared.events.Fate.{Fate}
use Rattle.ic_base.specs.declared.events.Fate.TheVariants as fates
use Rattle.ic_base.specs.declared.events.Stop.{Stop}
use Rattle.ic_base.specs.declared.events.What.{What}
use Rattle.ic_base.specs.declared.events.What.TheVariants.{Packet as Numbered}
use Rattle.ic_base.specs.declared.record.Record.{Record}
use Rattle.ic_base.specs.declared.scenario.Program.{Program}
use Rattle.def_log.specs.Log.{log_of}
use Rattle.def_log.specs.Directory.{slots_in}
use Rattle.def_log.specs.Sizes.{size_in}
use Rattle.def_run.specs.CoreSteps.{CoreStep, MeetsDisk, IsTornAt, IsTornBy, forced_of, is_stopped, loads_first, would_force, is_full_at, is_call_full}
use Rattle.def_run.specs.SystemStates.{SystemState, file_of, KeepsLog, KeepsLogs, is_of, is_com, has_disk, without_stop}
use Rattle.def_step.specs.Packets.{receiver_of}
use Rattle.def_step.specs.Pcom.{Gives, Gets, Forces, Checkpoints, Resends, Emits, StepResult, pcom_step}
use Rattle.def_step.specs.Settle.{asked_of}
use Rattle.def_step.specs.Tcom.{Served, tcom_step}
use Rattle.def_step.specs.World.{World, Node, Runs, Serves, Down, External, DiskOutcome, Done, After, just, done_as, answer_of, answer_down, answer_stopped, fate_of, tcom_fate, served_as, device_calls, is_reached, cut_off, does_or_stops, node_at, world_with, trace_of, behind, happens}
use Rattle.ic_node.specs.Meeting.{adds_in}
use Rattle.ic_world.specs.Allowing.{is_kept, IsMadeFor, is_allowed}
use Rattle.ic_world.specs.Tasks.{Task, Asks, task_of, task_done}
use Rattle.ic_work.specs.Tasks.{Work, Calls, Crashes, Recovers, work_done}
use Rattle.ic_world.proofs.Lists.{get-within, get-set_same, get-set_other, same-com}
use Rattle.ic_world.proofs.Tasks.{happens-task, call-task, called_in, called_by, task-same, task-names, world_in, Names, NamesIn, IsSameButWaiting}

-- what the disk decided, tied to what it reads
pub record MeetsFile (program : Program) (c : ComId) (x : DiskOutcome) (stop : Option Stop) (added : List Record) (answer : Answer) (before now : Node) (old new : List ℕ) : Type 0 where
  pub found : log_of old ≡ Ok x.found
  pub size : size_in old ≡ Some x.size
  pub free : x.free ≡ nat_lt (length (slots_in old)) SLOTS
  pub torn : is_stopped answer ≡ true → (s : Stop) × (stop ≡ Some s) × IsTornAt x s (loads_first program c (Some before)) (x.size - 1) added old new
  pub same : is_stopped answer ≡ false → forced_of (Some now) ≡ forced_of (Some before) → new ≡ old

-- a call on a component passes no limit
abbrev pub passes_none : Program → SystemState → ComId → Work → Type 0
passes_none program p c (Calls number call) = is_call_full program p (record { who = c; call = call }) ≡ false
passes_none program p c work = Unit {0}

-- the answer to a packet names it; but an Xcom gets none
abbrev pub TellsPacket : Work → Node → Answer → Type 0
TellsPacket (Calls i (Gets p)) node a = ((is_kept (Some node) ≡ true) × (fate : Fate) × (a ≡ answers.Packet i p fate)) ⊎ ((node ≡ External) × (asked_of (Numbered i) a ≡ None))
TellsPacket work node a = Unit {0}

packet-cut : (i : ℕ) (p : Packet) (node : Node) (left : List Record) (b : Bool) (d0 d : Done) → is_kept (Some node) ≡ true → (fate : Fate) → d0.answer ≡ answers.Packet i p fate → cond b (just (Down left) (answers.Packet i p fates.Stopped)) d0 ≡ d → TellsPacket (Calls i (Gets p)) node d.answer
packet-cut i p node left true d0 d k fate a e = inl (k, fates.Stopped, ap (λ z. z.answer) (sym e))
packet-cut i p node left false d0 d k fate a e = inl (k, fate, ap (λ z. z.answer) (sym e) ∙ a)

some-is : {A : Type 0} (x y : A) → Some x ≡ Some y → x ≡ y
some-is x y e = cc

none-some : {A : Type 0} (x : A) → None ≡ Some x → ⊥
none-some x e = cc

packet-told : (program : Program) (c : ComId) (stop : Option Stop) (x : DiskOutcome) (node : Node) (i : ℕ) (p : Packet) (d : Done) → is_reached stop 0 ≡ false → does_or_stops program c node stop x i (Gets p) ≡ Some d → TellsPacket (Calls i (Gets p)) node d.answer
packet-told program c stop x (Runs q) i p d unreached e = by (pcom_step program c q (Gets p)) e
  where
    by : (o : Option StepResult) → option_map (cut_off stop x (Runs q) (answer_stopped i x.is_open (Gets p))) (option_map (λ t. done_as (answer_of q i (Gets p) t) t) o) ≡ Some d → TellsPacket (Calls i (Gets p)) (Runs q) d.answer
    by None f = absurd (none-some d f)
    by (Some t) f =
        let d0 : Done = done_as (answer_of q i (Gets p) t) t in
        packet-cut i p (Runs q) x.left (is_reached stop (device_calls x.free (Runs q) d0.node)) d0 d refl (fate_of t.word t.puts) refl (some-is (cut_off stop x (Runs q) (answer_stopped i x.is_open (Gets p)) d0) d f)
packet-told program c stop x (Serves t) i p d unreached e =
    let s : Served = tcom_step program c t p in
    let d0 : Done = served_as program c i p s in
    packet-cut i p (Serves t) x.left (is_reached stop (device_calls x.free (Serves t) d0.node)) d0 d refl (tcom_fate program c p s.puts) refl (some-is (cut_off stop x (Serves t) (answer_stopped i x.is_open (Gets p)) d0) d e)
packet-told program c stop x (Down records) i p d unreached e =
    let d0 : Done = just (Down records) (answer_down i (Gets p)) in
    packet-cut i p (Down records) x.left (is_reached stop (device_calls x.free (Down records) d0.node)) d0 d refl fates.Down refl (some-is (cut_off stop x (Down records) (answer_stopped i x.is_open (Gets p)) d0) d e)
packet-told program c stop x External i p d unreached e =
    let d0 : Done = just External answers.Idle in
    let is : d0 ≡ d = some-is d0 d (ap (λ b. Some (cond b (just (Down x.left) (answers.Packet i p fates.Stopped)) d0)) (sym unreached) ∙ e) in
    inr (refl, ap (λ z. asked_of (Numbered i) z.answer) (sym is))

pub work-tells : (program : Program) (c : ComId) (stop : Option Stop) (x : DiskOutcome) (node : Node) (work : Work) (d : Done) → is_reached stop 0 ≡ false → work_done program c stop x node work ≡ Some d → TellsPacket work node d.answer
work-tells program c stop x node (Calls i (Gives handler args)) d unreached e = tt
work-tells program c stop x node (Calls i (Gets p)) d unreached e = packet-told program c stop x node i p d unreached e
work-tells program c stop x node (Calls i Forces) d unreached e = tt
work-tells program c stop x node (Calls i Checkpoints) d unreached e = tt
work-tells program c stop x node (Calls i Resends) d unreached e = tt
work-tells program c stop x node (Calls i Emits) d unreached e = tt
work-tells program c stop x node Crashes d unreached e = tt
work-tells program c stop x node Recovers d unreached e = tt

-- the records that an event would force at its component, by the work of that component
pub forced-by_work : (program : Program) (p : SystemState) (what : What) (w : World) (c : ComId) (work : Work) (node : Node) (x : DiskOutcome) → task_of p.world what ≡ Asks w c work → node_at p.world c ≡ Some node → would_force program p.world what x c ≡ adds_in node (work_done program c None x node work)
forced-by_work program p what w c work node x task at =
    ap (λ o. forces (node_at p.world c) o) (happens-task program p.world (without_stop what) x ∙ ap (task_done program (without_stop what) x) task ∙ ap (λ o. option_map (behind w (without_stop what) c) (option_and_then (λ n. work_done program c None x n work) o)) now)
    ∙ ap (λ o. forces o (option_map (behind w (without_stop what) c) (work_done program c None x node work))) at
    ∙ by (work_done program c None x node work)
  where
    forces : Option Node → Option After → List Record
    forces was o = elim o [ None ↦ [] | Some a ↦ drop (length (forced_of was)) (forced_of (node_at a.world c)) ]

    same : IsSameButWaiting p.world w
    same = let P : Task → Type 0 = λ t. IsSameButWaiting p.world (world_in t) in subst P task (task-same p.world what)

    now : node_at w c ≡ Some node
    now = ap (λ ns. slice_get ns c.0) same.nodes ∙ at

    by : (o : Option Done) → forces (Some node) (option_map (behind w (without_stop what) c) o) ≡ adds_in node o
    by None = refl
    by (Some d0) = ap (λ n. drop (length (forced_of (Some node))) (forced_of n)) (get-set_same w.nodes c.0 d0.node (get-within w.nodes c.0 node now))

kept-is : (node : Node) → is_kept (Some node) ≡ true → node ≡ External → ⊥
kept-is node k e = both_ways (is_kept (Some node)) (ap (λ n. is_kept (Some n)) e) k

module _ (program : Program) (print : List ℕ) (p : SystemState) (e : Event) (w : World) (c : ComId) (work : Work) (task : task_of p.world e.what ≡ Asks w c work) (node : Node) (at : node_at p.world c ≡ Some node) (x : DiskOutcome) (d : Done) (done : work_done program c e.stop x node work ≡ Some d) (file : List ℕ) (many : length p.files ≡ length p.world.nodes) where
  abbrev pub behind_work : SystemState
  behind_work = record { world = world_with w c d; files = slice_set p.files c.0 file }

  same-world : IsSameButWaiting p.world w
  same-world = let P : Task → Type 0 = λ t. IsSameButWaiting p.world (world_in t) in subst P task (task-same p.world e.what)

  at-now : node_at w c ≡ Some node
  at-now = ap (λ ns. slice_get ns c.0) same-world.nodes ∙ at

  within : c.0 < length w.nodes
  within = get-within w.nodes c.0 node at-now

  node-now : (d0 : Done) → node_at (world_with w c d0) c ≡ Some d0.node
  node-now d0 = get-set_same w.nodes c.0 d0.node within

  file-now : file_of behind_work c ≡ file
  file-now = ap (λ o. unwrap_or o []) (get-set_same p.files c.0 file (omega (arith, get-within p.world.nodes c.0 node at)))

  file-other : (b : ComId) → (b.0 ≡ c.0 → ⊥) → file_of behind_work b ≡ file_of p b
  file-other b o = ap (λ f. unwrap_or f []) (get-set_other p.files c.0 b.0 file o)

  node-other : (b : ComId) → (b.0 ≡ c.0 → ⊥) → node_at behind_work.world b ≡ node_at p.world b
  node-other b o = get-set_other w.nodes c.0 b.0 d.node o ∙ ap (λ ns. slice_get ns b.0) same-world.nodes

  work-happens : happens program p.world e x ≡ Some (record { world = world_with w c d; trace = trace_of w e c d })
  work-happens =
      happens-task program p.world e x
      ∙ ap (task_done program e x) task
      ∙ ap (λ o. option_map (behind w e c) (option_and_then (λ n. work_done program c e.stop x n work) o)) at-now
      ∙ ap (option_map (behind w e c)) done

  force-is : would_force program p.world e.what x c ≡ adds_in node (work_done program c None x node work)
  force-is = forced-by_work program p e.what w c work node x task at

  fits-is : passes_none program p c work → is_full_at program p e.what ≡ false
  fits-is none = ap (λ o. elim o [ None ↦ false | Some y ↦ is_call_full program p y ]) (call-task p.world e.what ∙ ap called_in task) ∙ by work none
    where
      by : (k : Work) → passes_none program p c k → elim (called_by c k) [ None ↦ false | Some y ↦ is_call_full program p y ] ≡ false
      by (Calls number call) n = n
      by Crashes n = refl
      by Recovers n = refl

  names : Names p.world e.what c work
  names = let P : Task → Type 0 = λ t. NamesIn p.world e.what t in subst P task (task-names p.world e.what)

  -- whose event it is
  asks-it : is_reached e.stop 0 ≡ false → IsMadeFor program p.world → is_allowed program e.what ≡ true → (b : ComId) → is_of e (trace_of w e c d) b ≡ true → (b.0 ≡ c.0) × (is_kept (Some node) ≡ true)
  asks-it unreached made allowed b of = by names
    where
      by : Names p.world e.what c work → (b.0 ≡ c.0) × (is_kept (Some node) ≡ true)
      by (inl n) =
          let to : ComId = n.0 in
          let same : b.0 ≡ to.0 = eqb-true b.0 to.0 (ap (is_com b) (sym (n.1 d.answer)) ∙ of) in
          let has : has_disk program to ≡ true = ap (λ o. elim o [ None ↦ true | Some z ↦ has_disk program z ]) (sym (n.1 answers.Idle)) ∙ allowed in
          (same ∙ n.2, ap is_kept (sym (ap (λ z. node_at p.world z) (same-com to c n.2) ∙ at)) ∙ made.kept to ∙ has)
      by (inr n) = told (let P : Work → Type 0 = λ k. TellsPacket k node d.answer in subst P n.3 (work-tells program c e.stop x node work d unreached done))
        where
          told : TellsPacket (Calls n.0 (Gets n.1)) node d.answer → (b.0 ≡ c.0) × (is_kept (Some node) ≡ true)
          told (inl t) =
              let asked : asked_of e.what d.answer ≡ Some (receiver_of n.1) = ap (λ v. asked_of v d.answer) n.2 ∙ ap (asked_of (Numbered n.0)) t.2 in
              (eqb-true b.0 (receiver_of n.1).0 (ap (is_com b) (sym asked) ∙ of) ∙ ap (λ z. z.0) (sym n.4), t.0)
          told (inr t) =
              let asked : asked_of e.what d.answer ≡ None = ap (λ v. asked_of v d.answer) n.2 ∙ t.1 in
              absurd (both_ways (is_com b (asked_of e.what d.answer)) (ap (is_com b) asked) of)

  not-asked : is_reached e.stop 0 ≡ false → (b : ComId) → is_of e (trace_of w e c d) b ≡ false → b.0 ≡ c.0 → node ≡ External
  not-asked unreached b of same = by names
    where
      by : Names p.world e.what c work → node ≡ External
      by (inl n) = absurd (both_ways (is_com b (asked_of e.what d.answer)) of (ap (is_com b) (n.1 d.answer) ∙ eq-eqb b.0 n.0.0 (same ∙ sym n.2)))
      by (inr n) = told (let P : Work → Type 0 = λ k. TellsPacket k node d.answer in subst P n.3 (work-tells program c e.stop x node work d unreached done))
        where
          told : TellsPacket (Calls n.0 (Gets n.1)) node d.answer → node ≡ External
          told (inl t) =
              let asked : asked_of e.what d.answer ≡ Some (receiver_of n.1) = ap (λ v. asked_of v d.answer) n.2 ∙ ap (asked_of (Numbered n.0)) t.2 in
              absurd (both_ways (is_com b (asked_of e.what d.answer)) of (ap (is_com b) asked ∙ eq-eqb b.0 (receiver_of n.1).0 (same ∙ ap (λ z. z.0) n.4)))
          told (inr t) = t.0

  meets-disk : MeetsFile program c x e.stop (adds_in node (work_done program c None x node work)) d.answer node d.node (file_of p c) file → (b : ComId) → b ≡ c → MeetsDisk program x p e (trace_of w e c d) b behind_work
  meets-disk m b is =
      let P : ComId → Type 0 = λ z. MeetsDisk program x p e (trace_of w e c d) z behind_work in
      subst P (sym is) (record {
        found = m.found;
        size = m.size;
        free = m.free;
        torn = λ s. let t = m.torn s in
            let Q : Option Stop → Type 0 = λ o. IsTornBy program x p e c behind_work o in
            let A : Option Node → Type 0 = λ o. IsTornAt x t.0 (loads_first program c o) (x.size - 1) (would_force program p.world e.what x c) (file_of p c) (file_of behind_work c) in
            let B : List Record → Type 0 = λ rs. IsTornAt x t.0 (loads_first program c (Some node)) (x.size - 1) rs (file_of p c) (file_of behind_work c) in
            let C : List ℕ → Type 0 = λ f. IsTornAt x t.0 (loads_first program c (Some node)) (x.size - 1) (adds_in node (work_done program c None x node work)) (file_of p c) f in
            subst Q (sym t.1) (subst A (sym at) (subst B (sym force-is) (subst C (sym file-now) t.2)));
        same = λ s f. file-now ∙ m.same s (sym (ap forced_of (node-now d)) ∙ f ∙ ap forced_of at);
      })

  logs-behind : KeepsLogs print p → KeepsLog print c file (Some d.node) → KeepsLogs print behind_work
  logs-behind logs log b = by (cases_eq b.0 c.0)
    where
      by : (b.0 ≡ c.0) ⊎ (b.0 ≡ c.0 → ⊥) → KeepsLog print b (file_of behind_work b) (node_at behind_work.world b)
      by (inl s) =
          let P : ComId → Type 0 = λ z. KeepsLog print z (file_of behind_work z) (node_at behind_work.world z) in
          let A : List ℕ → Type 0 = λ f. KeepsLog print c f (node_at behind_work.world c) in
          let B : Option Node → Type 0 = λ o. KeepsLog print c file o in
          subst P (sym (same-com b c s)) (subst A (sym file-now) (subst B (sym (node-now d)) log))
      by (inr o) =
          let A : List ℕ → Type 0 = λ f. KeepsLog print b f (node_at behind_work.world b) in
          let B : Option Node → Type 0 = λ n. KeepsLog print b (file_of p b) n in
          subst A (sym (file-other b o)) (subst B (sym (node-other b o)) (logs b))

  pub work-is_core : is_reached e.stop 0 ≡ false → IsMadeFor program p.world → is_allowed program e.what ≡ true → passes_none program p c work
      → (is_kept (Some node) ≡ true → MeetsFile program c x e.stop (adds_in node (work_done program c None x node work)) d.answer node d.node (file_of p c) file)
      → (node ≡ External → file ≡ file_of p c) → KeepsLogs print p → KeepsLog print c file (Some d.node) → CoreStep program print p e (trace_of w e c d) behind_work
  work-is_core unreached made allowed none meets outer logs log = record {
    outcome = x;
    happens = work-happens;
    fits = fits-is none;
    disk = λ b of. let a = asks-it unreached made allowed b of in meets-disk (meets a.1) b (same-com b c a.0);
    others = λ b of. other b of (cases_eq b.0 c.0);
    logs = logs-behind logs log;
  }
    where
      other : (b : ComId) → is_of e (trace_of w e c d) b ≡ false → (b.0 ≡ c.0) ⊎ (b.0 ≡ c.0 → ⊥) → file_of behind_work b ≡ file_of p b
      other b of (inl s) = ap (λ z. file_of behind_work z) (same-com b c s) ∙ file-now ∙ outer (not-asked unreached b of s) ∙ ap (λ z. file_of p z) (sym (same-com b c s))
      other b of (inr o) = file-other b o
