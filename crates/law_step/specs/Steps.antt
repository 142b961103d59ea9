-- Every event keeps a world explained, its stop reached or not.
use Rattle.std.specs.Prelude.{Contains, ◌≡◌, ◌⊎◌, ⊤, ℕ, ◌<◌, true, false, fold, List, [], ◌∷◌, drop, length, Option, Some, MatchOption}
use Rattle.ic_base.specs.declared.messages.ComId.{ComId}
use Rattle.ic_base.specs.declared.messages.Output.{Output}
use Rattle.ic_base.specs.declared.events.Event.{Event}
use Rattle.ic_base.specs.declared.events.What.{What}
use Rattle.ic_base.specs.declared.events.What.TheVariants.{Recover}
use Rattle.ic_base.specs.declared.scenario.Program.{Program}
use Rattle.ic_base.specs.declared.record.Record.{Record}
use Rattle.ic_base.specs.Programs.{is_a_pcom}
use Rattle.def_step.specs.Calls.{call_of, node_is_full}
use Rattle.def_step.specs.Pcom.{Pcom}
use Rattle.def_step.specs.World.{World, Node, Runs, Down, DiskOutcome, After, node_at, happens}
use Rattle.def_run.specs.SystemStates.{is_of, without_stop}
use Rattle.def_run.specs.CoreSteps.{is_stopped}
use Rattle.def_facts.specs.Flat.{HasFlatParts}
use Rattle.def_facts.specs.Logs.{Logs, log_at, IsPrefixOf}
use Rattle.def_facts.specs.Playable.{IsPlayable}
use Rattle.def_facts.specs.World.{Past, IsExplained, IsExplainedBy, forced_logs, shown_by}
use Rattle.law_pcom.specs.Recovering.{ImagesRead}
use Rattle.law_syntax.specs.Events.{IsEvent}

-- the events ----------------------------------------------------------------------------------------------

-- the step of the event's call passes no limit of a number, nor that of a log of this size
abbrev pub PassesNoLimit : Program → World → What → Type 0
PassesNoLimit program w what = MatchOption (call_of w what) ⊤ (λ x. MatchOption (node_at w x.who) ⊤ (λ node. (size : ℕ) × (node_is_full program x.who x.call size node ≡ false)))

-- what the disks decide -----------------------------------------------------------------------------------

-- the log that stands before a step, or the one behind it
abbrev pub LeavesOne : Program → World → Event → DiskOutcome → ComId → Type 0
LeavesOne program w e x c = (x.left ≡ log_at (forced_logs w) c) ⊎ ((a : After) × (happens program w (without_stop e.what) x ≡ Some a) × (x.left ≡ log_at (forced_logs a.world) c))

-- as the byte of the gate tells it: the log that stands before a step, or at 1 the one behind it
abbrev pub LeavesByGate : Program → World → Event → DiskOutcome → ComId → Type 0
LeavesByGate program w e x c =
    ((x.is_open ≡ false) × (x.left ≡ log_at (forced_logs w) c)) ⊎ ((x.is_open ≡ true) × ((a : After) × (happens program w (without_stop e.what) x ≡ Some a) × (x.left ≡ log_at (forced_logs a.world) c)))

-- a load reads the log that stands on the disk of the event's component, and a reached stop leaves that log or the one behind the step
pub record DiskFits (program : Program) (w : World) (e : Event) (x : DiskOutcome) (a : After) (c : ComId) : Type 0 where
  pub found : (log : List Record) → node_at w c ≡ Some (Down log) → x.found ≡ log
  pub left : is_stopped a.trace.answer ≡ true → LeavesOne program w e x c

-- in each past that explains the world, the images in the log of a Pcom that is to come up are read back as the states that they hold
abbrev pub ReadsImages : Program → Logs → World → What → Type 0
ReadsImages program found w (Recover c) = (log : List Record) (here : ComId → ℕ) (past : Past) → node_at w c ≡ Some (Down log) → is_a_pcom program c ≡ true → IsExplainedBy program found here w past → ImagesRead program c (past.received c) log
ReadsImages program found w _ = ⊤

-- the greatest output of a life -----------------------------------------------------------------------------

-- what c showed between two worlds
abbrev pub newly_shown : ComId → World → World → List Output
newly_shown c w v = shown_by c (drop (length w.showings) v.showings)

-- a life goes on where the component is up before and behind the event
abbrev pub life_of : ℕ → List Output → Option Node → Option Node → ℕ
life_of n new (Some (Runs p)) (Some (Runs q)) = fold (λ m o. o.m) n new
life_of n new _ _ = 0

abbrev pub here_behind : (ComId → ℕ) → World → World → ComId → ℕ
here_behind here w v c = life_of (here c) (newly_shown c w v) (node_at w c) (node_at v c)

-- the law -----------------------------------------------------------------------------------------------------

abbrev pub EventsKeepExplained : Type 0
EventsKeepExplained = (program : Program) (found : Logs) (here : ComId → ℕ) (w : World) (e : Event) (x : DiskOutcome) (a : After) → IsPlayable program → HasFlatParts program → IsEvent program e → PassesNoLimit program w e.what →
    ((c : ComId) → is_of e a.trace c ≡ true → DiskFits program w e x a c) → ReadsImages program found w e.what → happens program w e x ≡ Some a → IsExplained program found here w → IsExplained program found (here_behind here w a.world) a.world

-- And the past in which it then is goes on from the one in which it was: what each component had received it has first.
abbrev pub EventsGoOn : Type 0
EventsGoOn = (program : Program) (found : Logs) (here : ComId → ℕ) (w : World) (e : Event) (x : DiskOutcome) (a : After) (past : Past) → IsPlayable program → HasFlatParts program → IsEvent program e → PassesNoLimit program w e.what →
    ((c : ComId) → is_of e a.trace c ≡ true → DiskFits program w e x a c) → ReadsImages program found w e.what → happens program w e x ≡ Some a → IsExplainedBy program found here w past →
    (later : Past) × IsExplainedBy program found (here_behind here w a.world) a.world later × ((c : ComId) → IsPrefixOf (past.received c) (later.received c))

-- An output that an event shows: its component ran before the event and runs behind it, nothing else of it is shown, and its number
-- is above all that were shown in its life.
pub record GoesOn (here : ComId → ℕ) (w v : World) (c : ComId) (o : Output) : Type 0 where
  pub above : here c < o.m
  pub alone : newly_shown c w v ≡ o ∷ []
  pub ran : (p : Pcom) × (node_at w c ≡ Some (Runs p))
  pub runs : (q : Pcom) × (node_at v c ≡ Some (Runs q))

-- what an event shows has a number above all that were shown in the present life of its component
abbrev pub ShowingsGoOn : Type 0
ShowingsGoOn = (program : Program) (found : Logs) (here : ComId → ℕ) (w : World) (e : Event) (x : DiskOutcome) (a : After) → IsExplained program found here w → happens program w e x ≡ Some a →
    (c : ComId) (o : Output) → Contains (newly_shown c w a.world) o → GoesOn here w a.world c o
