-- An event that asks nothing of any component is a core step of the world.
use Rattle.std.proofs.Common.{◌≡◌, ◌∙◌, sym, ap, subst, refl, ℕ, ◌+◌, ◌≤◌, min, cond, true, false, List, [], map, arith, Option, Some, None, Ok, length}
use Rattle.std.specs.Prelude.{nat_lt, slice_get, unwrap_or}
use Rattle.std.proofs.lemmas.Bool.{both_ways, eqb-true}
use Rattle.ic_base.specs.declared.limits.TheConstants.{SLOTS}
use Rattle.ic_base.specs.declared.messages.ComId.{ComId}
use Rattle.ic_base.specs.declared.messages.Packet.{Packet}
use Rattle.ic_base.specs.declared.events.Answer.{Answer}
use Rattle.ic_base.specs.declared.events.Answer.TheVariants as answers
use Rattle.ic_base.specs.declared.events.Event.{Event}
use Rattle.ic_base.specs.declared.events.What.{What}
use Rattle.ic_base.specs.declared.events.What.TheVariants.{Input, Deliver, Lose, Packet as Numbered, Force, Checkpoint, Resend, Emit, Crash, Recover}
use Rattle.ic_base.specs.declared.scenario.Program.{Program}
use Rattle.def_log.specs.Directory.{slots_in}
use Rattle.def_log.specs.Sizes.{size_in}
use Rattle.def_run.specs.CoreSteps.{CoreStep, MeetsDisk, forced_of, is_stopped, is_call_full}
use Rattle.def_run.specs.SystemStates.{SystemState, file_of, KeepsLog, KeepsLogs, is_com, has_disk}
use Rattle.def_run.specs.Reports.{played_by_all}
use Rattle.def_step.specs.Settle.{asked_of}
use Rattle.def_step.specs.World.{World, Node, DiskOutcome, node_at, packet_at, oldest_of, unchanged, happens}
use Rattle.ic_disk.specs.declared.disk.Disk.{Ghosts}
use Rattle.ic_node.specs.Views as nodes
use Rattle.ic_node.specs.Views.{node_of}
use Rattle.ic_world.specs.Acting.{GREATEST}
use Rattle.ic_world.specs.Allowing.{is_kept, IsMadeFor, is_allowed}
use Rattle.ic_world.specs.Standing.{HoldLogs}
use Rattle.ic_world.specs.Stepping.{Steps}
use Rattle.ic_world.specs.Tasks.{Task, Asks, Answers, task_of, task_done, delivered, oldest_delivered, lost, oldest_lost}
use Rattle.ic_world.specs.Views.{components_of, world_of, state_of, print_of, received_of, played_of, is_over, Tells}
use Rattle.ic_world.specs.declared.world.World.{World as Kept}
use Rattle.ic_world.proofs.Lists.{same-com}
use Rattle.ic_world.proofs.Made.{still-made}
use Rattle.ic_world.proofs.Refusals.{receives-none}
use Rattle.ic_world.proofs.Sizes.{own-log}
use Rattle.ic_work.proofs.Sizes.{sized}
use Rattle.ic_world.proofs.Tasks.{happens-task, call-task, called_in, task-same, world_in, IsSameButWaiting}
use Rattle.ic_world.proofs.WorkSteps.{world-logs, played-none}

-- what a disk that is never asked decides
abbrev pub nothing_read : DiskOutcome
nothing_read = record { found = []; size = 0; free = false; left = []; is_open = false }

-- the answer is of no stop, and the event names the component whatever it is answered, or the answer names none
abbrev pub AnswersAs : What → Task → Type 0
AnswersAs what (Asks w c work) = Unit {0}
AnswersAs what (Answers w a) = (is_stopped a ≡ false) × (asked_of what a ≡ asked_of what answers.Idle)

pub task-answers : (w : World) (what : What) → AnswersAs what (task_of w what)
task-answers w (Input c handler args) = tt
task-answers w (Deliver from to) = by (oldest_of w from to)
  where
    packets : (i : ℕ) (o : Option Packet) → AnswersAs (Deliver from to) (delivered w i o)
    packets i None = (refl, refl)
    packets i (Some p) = tt

    by : (o : Option ℕ) → AnswersAs (Deliver from to) (oldest_delivered w o)
    by None = (refl, refl)
    by (Some i) = packets i (packet_at w i)
task-answers w (Lose from to) = by (oldest_of w from to)
  where
    packets : (i : ℕ) (o : Option Packet) → AnswersAs (Lose from to) (lost w i o)
    packets i None = (refl, refl)
    packets i (Some p) = (refl, refl)

    by : (o : Option ℕ) → AnswersAs (Lose from to) (oldest_lost w o)
    by None = (refl, refl)
    by (Some i) = packets i (packet_at w i)
task-answers w (Numbered i) = by (packet_at w i)
  where
    by : (o : Option Packet) → AnswersAs (Numbered i) (delivered w i o)
    by None = (refl, refl)
    by (Some p) = tt
task-answers w (Force c) = tt
task-answers w (Checkpoint c) = tt
task-answers w (Resend c) = tt
task-answers w (Emit c) = tt
task-answers w (Crash c) = tt
task-answers w (Recover c) = tt

module _ (program : Program) (p : SystemState) (e : Event) (w : World) (a : Answer) (task : task_of p.world e.what ≡ Answers w a) where
  pub answer-happens : (x : DiskOutcome) → happens program p.world e x ≡ Some (unchanged w e a)
  answer-happens x = happens-task program p.world e x ∙ ap (task_done program e x) task

  same-world : IsSameButWaiting p.world w
  same-world = let P : Task → Type 0 = λ t. IsSameButWaiting p.world (world_in t) in subst P task (task-same p.world e.what)

  answered : (is_stopped a ≡ false) × (asked_of e.what a ≡ asked_of e.what answers.Idle)
  answered = let P : Task → Type 0 = λ t. AnswersAs e.what t in subst P task (task-answers p.world e.what)

  abbrev read_at : Option ComId → DiskOutcome
  read_at None = nothing_read
  read_at (Some c) = record { found = forced_of (node_at p.world c); size = unwrap_or (size_in (file_of p c)) 0; free = nat_lt (length (slots_in (file_of p c))) SLOTS; left = []; is_open = false }

  some-node : (o : Option Node) → is_kept o ≡ true → (node : Node) × ((o ≡ Some node) × (is_kept (Some node) ≡ true))
  some-node None k = absurd (cc)
  some-node (Some node) k = (node, (refl, k))

  module _ (print : List ℕ) (made : IsMadeFor program p.world) (allowed : is_allowed program e.what ≡ true) (logs : KeepsLogs print p) where
    abbrev pub state_answered : SystemState
    state_answered = record { world = w; files = p.files }

    disk-answered : (b to : ComId) → asked_of e.what a ≡ Some to → b.0 ≡ to.0 → MeetsDisk program (read_at (Some to)) p e (unchanged w e a).trace b state_answered
    disk-answered b to asked same =
        let has : has_disk program to ≡ true = ap (λ o. elim o [ None ↦ true | Some z ↦ has_disk program z ]) (sym asked ∙ answered.1) ∙ allowed in
        let some = some-node (node_at p.world to) (made.kept to ∙ has) in
        let K : Option Node → Type 0 = λ o. KeepsLog print to (file_of p to) o in
        let log = own-log print to (file_of p to) some.0 some.1.1 (subst K some.1.0 (logs to)) in
        let P : ComId → Type 0 = λ z. MeetsDisk program (read_at (Some to)) p e (unchanged w e a).trace z state_answered in
        subst P (sym (same-com b to same)) (record {
          found = log.holds ∙ ap (λ o. Ok (forced_of o)) (sym some.1.0);
          size = sized (file_of p to) (forced_of (Some some.0)) log.holds;
          free = refl;
          torn = λ s. absurd (both_ways (is_stopped a) answered.0 s);
          same = λ s f. refl;
        })

    pub answer-is_core : CoreStep program print p e (unchanged w e a).trace state_answered
    answer-is_core = by (asked_of e.what a) refl
      where
        by : (o : Option ComId) → asked_of e.what a ≡ o → CoreStep program print p e (unchanged w e a).trace state_answered
        by o asked = record {
          outcome = read_at o;
          happens = answer-happens (read_at o);
          fits = ap (λ z. elim z [ None ↦ false | Some y ↦ is_call_full program p y ]) (call-task p.world e.what ∙ ap called_in task);
          disk = λ b of. told o asked b (ap (is_com b) (sym asked) ∙ of);
          others = λ b of. refl;
          logs = λ b. let K : Option Node → Type 0 = λ n. KeepsLog print b (file_of p b) n in subst K (ap (λ ns. slice_get ns b.0) (sym same-world.nodes)) (logs b);
        }
          where
            told : (q : Option ComId) → asked_of e.what a ≡ q → (b : ComId) → is_com b q ≡ true → MeetsDisk program (read_at q) p e (unchanged w e a).trace b state_answered
            told None f b of = absurd (cc)
            told (Some to) f b of = disk-answered b to f (eqb-true b.0 to.0 of)

-- so the world steps ------------------------------------------------------------------------------

module _ {D : Type 0} {d : Ghosts D} (program : Program) (old new : Kept D d) (e : Event) (a : Answer) (task : task_of (world_of old) e.what ≡ Answers (world_of new) a) (same : components_of new ≡ components_of old) (print : print_of new ≡ print_of old) (made : IsMadeFor program (world_of old)) where
  still-kept : (b : ComId) → is_kept (node_at (world_of new) b) ≡ has_disk program b
  still-kept b = ap (λ xs. is_kept (slice_get (map (λ x. node_of x) xs) b.0)) same ∙ made.kept b

  core-behind : is_allowed program e.what ≡ true → HoldLogs (print_of old) (components_of old) → Tells old → CoreStep program (print_of old) (state_of old) e (unchanged (world_of new) e a).trace (state_of new)
  core-behind allowed logs tells =
      let F : List (List ℕ) → Type 0 = λ fs. CoreStep program (print_of old) (state_of old) e (unchanged (world_of new) e a).trace (record { world = world_of new; files = fs }) in
      subst F (sym (ap (map (λ x. nodes.file_of x)) same)) (answer-is_core program (state_of old) e (world_of new) a task (print_of old) made allowed (world-logs old logs tells))

  pub answer-steps : is_allowed program e.what ≡ true → HoldLogs (print_of old) (components_of old) → received_of new ≡ received_of old → played_of new ≡ played_of old → played_of old ≤ GREATEST → is_over new ≡ false → Steps program old e new (unchanged (world_of new) e a).trace
  answer-steps allowed logs received played few going = record {
    outcome = nothing_read;
    happens = answer-happens program (state_of old) e (world_of new) a task nothing_read;
    core = core-behind allowed logs;
    received = received ∙ no_more (received_of old) ∙ ap (λ z. received_of old + cond z 1 0) (sym (receives-none program (state_of old) e.what (world_of new) a task));
    played = played ∙ sym (least (played_of old) few) ∙ ap (λ z. min (played_of old + z) GREATEST) (sym (ap (played_by_all (world_of old).nodes) (ap (map (λ x. node_of x)) same) ∙ played-none (world_of old).nodes));
    made = still-made program (world_of old) e nothing_read (unchanged (world_of new) e a) made (answer-happens program (state_of old) e (world_of new) a task nothing_read) still-kept;
    going = going;
  }
    where
      no_more : (n : ℕ) → n ≡ n + 0
      no_more n = omega arith

      least : (n : ℕ) → n ≤ GREATEST → min (n + 0) GREATEST ≡ n
      least n l = omega arith
