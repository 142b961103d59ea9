-- The step of the definition is the task of its event; and what the task says of the event.
use Rattle.std.proofs.Common.{◌≡◌, ◌∙◌, sym, ap, refl, ℕ, ◌==◌, Bool, true, false, cond, ◌⊎◌, inl, inr, List, [], ◌∷◌, Option, Some, None, option_map}
use Rattle.std.specs.Prelude.{find, option_and_then}
use Rattle.std.proofs.lemmas.Bool.{and_parts, eqb-true}
use Rattle.std.proofs.lemmas.Option.{same_Some}
use Rattle.ic_base.specs.declared.messages.ComId.{ComId}
use Rattle.ic_base.specs.declared.messages.Packet.{Packet}
use Rattle.ic_base.specs.declared.events.Answer.{Answer}
use Rattle.ic_base.specs.declared.events.Event.{Event}
use Rattle.ic_base.specs.declared.events.What.{What}
use Rattle.ic_base.specs.declared.events.What.TheVariants.{Input, Deliver, Lose, Packet as Numbered, Force, Checkpoint, Resend, Emit, Crash, Recover}
use Rattle.ic_base.specs.declared.scenario.Program.{Program}
use Rattle.def_step.specs.Calls.{Called, called, call_of, delivery_of}
use Rattle.def_step.specs.Packets.{sender_of, receiver_of}
use Rattle.def_step.specs.Pcom.{Gets}
use Rattle.def_step.specs.Settle.{asked_of}
use Rattle.def_step.specs.World.{World, Node, DiskOutcome, Done, After, node_at, packet_at, oldest_of, goes, crashes, behind, unchanged, delivers, delivers_oldest, loses, loses_oldest, happens, happens_as}
use Rattle.ic_world.specs.Tasks.{Task, Asks, Answers, task_of, task_done, delivered, oldest_delivered, lost, oldest_lost}
use Rattle.ic_work.specs.Tasks.{Work, Calls, Crashes, work_done}

-- the step is that of the task
pub happens-task : (program : Program) (w : World) (e : Event) (x : DiskOutcome) → happens program w e x ≡ task_done program e x (task_of w e.what)
happens-task program w e x = by e.what
  where
    packets : (i : ℕ) (o : Option Packet) → delivers program w e x i o ≡ task_done program e x (delivered w i o)
    packets i None = refl
    packets i (Some p) = refl

    oldest : (o : Option ℕ) → delivers_oldest program w e x o ≡ task_done program e x (oldest_delivered w o)
    oldest None = refl
    oldest (Some i) = packets i (packet_at w i)

    losses : (i : ℕ) (o : Option Packet) → Some (loses w e i o) ≡ task_done program e x (lost w i o)
    losses i None = refl
    losses i (Some p) = refl

    oldest_loss : (o : Option ℕ) → Some (loses_oldest w e o) ≡ task_done program e x (oldest_lost w o)
    oldest_loss None = refl
    oldest_loss (Some i) = losses i (packet_at w i)

    crash : (c : ComId) (o : Option Node) → option_map (λ node. behind w e c (crashes node)) o ≡ option_map (behind w e c) (option_and_then (λ node. work_done program c e.stop x node Crashes) o)
    crash c None = refl
    crash c (Some node) = refl

    by : (what : What) → happens_as program w e x what ≡ task_done program e x (task_of w what)
    by (Input c handler args) = refl
    by (Deliver from to) = oldest (oldest_of w from to)
    by (Lose from to) = oldest_loss (oldest_of w from to)
    by (Numbered i) = packets i (packet_at w i)
    by (Force c) = refl
    by (Checkpoint c) = refl
    by (Resend c) = refl
    by (Emit c) = refl
    by (Crash c) = crash c (node_at w c)
    by (Recover c) = refl

-- the trace is that of the event
pub event-told : (program : Program) (w : World) (e : Event) (x : DiskOutcome) (a : After) → happens program w e x ≡ Some a → a.trace.event ≡ e
event-told program w e x a happened = by (task_of w e.what) (sym (happens-task program w e x) ∙ happened)
  where
    did : (v : World) (c : ComId) (o : Option Done) → option_map (behind v e c) o ≡ Some a → a.trace.event ≡ e
    did v c None f = absurd (cc)
    did v c (Some d) f = ap (λ (z : After). z.trace.event) (sym (same_Some (behind v e c d) a f))

    by : (t : Task) → task_done program e x t ≡ Some a → a.trace.event ≡ e
    by (Asks v c work) f = did v c (option_and_then (λ node. work_done program c e.stop x node work) (node_at v c)) f
    by (Answers v answer) f = ap (λ (z : After). z.trace.event) (sym (same_Some (unchanged v e answer) a f))

-- the call of a task
abbrev pub called_by : ComId → Work → Option Called
called_by c (Calls number call) = Some (called c call)
called_by c work = None

abbrev pub called_in : Task → Option Called
called_in (Asks w c work) = called_by c work
called_in (Answers w answer) = None

pub call-task : (w : World) (what : What) → call_of w what ≡ called_in (task_of w what)
call-task w (Input c handler args) = refl
call-task w (Deliver from to) = by (oldest_of w from to)
  where
    packets : (i : ℕ) (o : Option Packet) → option_map delivery_of o ≡ called_in (delivered w i o)
    packets i None = refl
    packets i (Some p) = refl

    by : (o : Option ℕ) → option_map delivery_of (option_and_then (packet_at w) o) ≡ called_in (oldest_delivered w o)
    by None = refl
    by (Some i) = packets i (packet_at w i)
call-task w (Lose from to) = by (oldest_of w from to)
  where
    packets : (i : ℕ) (o : Option Packet) → None ≡ called_in (lost w i o)
    packets i None = refl
    packets i (Some p) = refl

    by : (o : Option ℕ) → None ≡ called_in (oldest_lost w o)
    by None = refl
    by (Some i) = packets i (packet_at w i)
call-task w (Numbered i) = by (packet_at w i)
  where
    by : (o : Option Packet) → option_map delivery_of o ≡ called_in (delivered w i o)
    by None = refl
    by (Some p) = refl
call-task w (Force c) = refl
call-task w (Checkpoint c) = refl
call-task w (Resend c) = refl
call-task w (Emit c) = refl
call-task w (Crash c) = refl
call-task w (Recover c) = refl

-- a task changes nothing of the world but what waits
pub record IsSameButWaiting (w now : World) : Type 0 where
  pub nodes : now.nodes ≡ w.nodes
  pub packets : now.packets ≡ w.packets
  pub showings : now.showings ≡ w.showings

abbrev pub world_in : Task → World
world_in (Asks w c work) = w
world_in (Answers w answer) = w

same : (w : World) → IsSameButWaiting w w
same w = record { nodes = refl; packets = refl; showings = refl }

pub task-same : (w : World) (what : What) → IsSameButWaiting w (world_in (task_of w what))
task-same w (Input c handler args) = same w
task-same w (Deliver from to) = by (oldest_of w from to)
  where
    packets : (i : ℕ) (o : Option Packet) → IsSameButWaiting w (world_in (delivered w i o))
    packets i None = same w
    packets i (Some p) = record { nodes = refl; packets = refl; showings = refl }

    by : (o : Option ℕ) → IsSameButWaiting w (world_in (oldest_delivered w o))
    by None = same w
    by (Some i) = packets i (packet_at w i)
task-same w (Lose from to) = by (oldest_of w from to)
  where
    packets : (i : ℕ) (o : Option Packet) → IsSameButWaiting w (world_in (lost w i o))
    packets i None = same w
    packets i (Some p) = record { nodes = refl; packets = refl; showings = refl }

    by : (o : Option ℕ) → IsSameButWaiting w (world_in (oldest_lost w o))
    by None = same w
    by (Some i) = packets i (packet_at w i)
task-same w (Numbered i) = by (packet_at w i)
  where
    by : (o : Option Packet) → IsSameButWaiting w (world_in (delivered w i o))
    by None = same w
    by (Some p) = record { nodes = refl; packets = refl; showings = refl }
task-same w (Force c) = same w
task-same w (Checkpoint c) = same w
task-same w (Resend c) = same w
task-same w (Emit c) = same w
task-same w (Crash c) = same w
task-same w (Recover c) = same w

-- who is asked ----------------------------------------------------------------------------

-- the event names the component, whatever it is answered; or it names a packet, which goes to the component
abbrev pub Names : World → What → ComId → Work → Type 0
Names w what c work =
    ((to : ComId) × ((a : Answer) → asked_of what a ≡ Some to) × (to.0 ≡ c.0))
    ⊎ ((i : ℕ) × (p : Packet) × (what ≡ Numbered i) × (work ≡ Calls i (Gets p)) × (c ≡ receiver_of p) × (packet_at w i ≡ Some p))

abbrev pub NamesIn : World → What → Task → Type 0
NamesIn before what (Asks w c work) = Names before what c work
NamesIn before what (Answers w answer) = Unit {0}

found-passes : (test : ℕ → Bool) (is : List ℕ) (i : ℕ) → find test is ≡ Some i → test i ≡ true
found-passes test [] i e = absurd (cc)
found-passes test (j ∷ js) i e = by (test j) refl e (found-passes test js i)
  where
    by : (b : Bool) → test j ≡ b → cond b (Some j) (find test js) ≡ Some i → (find test js ≡ Some i → test i ≡ true) → test i ≡ true
    by true t f rest = let same : j ≡ i = cc in ap test (sym same) ∙ t
    by false t f rest = rest f

pub task-names : (w : World) (what : What) → NamesIn w what (task_of w what)
task-names w (Input c handler args) = inl (c, (λ a. refl), refl)
task-names w (Deliver from to) = by (oldest_of w from to) refl
  where
    packets : (i : ℕ) (o : Option Packet) → goes from to o ≡ true → NamesIn w (Deliver from to) (delivered w i o)
    packets i None g = tt
    packets i (Some p) g = inl (to, (λ a. refl), eqb-true to.0 (receiver_of p).0 (and_parts (from.0 == (sender_of p).0) (to.0 == (receiver_of p).0) g).1)

    by : (o : Option ℕ) → oldest_of w from to ≡ o → NamesIn w (Deliver from to) (oldest_delivered w o)
    by None e = tt
    by (Some i) e = packets i (packet_at w i) (found-passes (λ j. goes from to (packet_at w j)) w.waiting i e)
task-names w (Lose from to) = by (oldest_of w from to)
  where
    packets : (i : ℕ) (o : Option Packet) → NamesIn w (Lose from to) (lost w i o)
    packets i None = tt
    packets i (Some p) = tt

    by : (o : Option ℕ) → NamesIn w (Lose from to) (oldest_lost w o)
    by None = tt
    by (Some i) = packets i (packet_at w i)
task-names w (Numbered i) = by (packet_at w i) refl
  where
    by : (o : Option Packet) → packet_at w i ≡ o → NamesIn w (Numbered i) (delivered w i o)
    by None e = tt
    by (Some p) e = inr (i, p, refl, refl, refl, e)
task-names w (Force c) = inl (c, (λ a. refl), refl)
task-names w (Checkpoint c) = inl (c, (λ a. refl), refl)
task-names w (Resend c) = inl (c, (λ a. refl), refl)
task-names w (Emit c) = inl (c, (λ a. refl), refl)
task-names w (Crash c) = inl (c, (λ a. refl), refl)
task-names w (Recover c) = inl (c, (λ a. refl), refl)
