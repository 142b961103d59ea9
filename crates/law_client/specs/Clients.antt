-- Along a run with numbered clients no request stands twice in a log.
use Rattle.std.specs.Prelude.{◌≡◌, ◌⊎◌, ℕ, ℤ, true, false, Bool, List, [], ◌∷◌, ◌++◌, length, filter_map, Contains, Option}
use Rattle.ic_base.specs.declared.messages.ComId.{ComId}
use Rattle.ic_base.specs.declared.messages.Output.{Output}
use Rattle.ic_base.specs.declared.scenario.Program.{Program}
use Rattle.def_step.specs.Settle.{PolicyIntervals}
use Rattle.def_run.specs.CrashFree.{StandsCrashFree, EndsCrashFree, input_in}
use Rattle.def_run.specs.Executions.{Agenda, Executes, whole_agenda}
use Rattle.def_run.specs.Openings.{IsStarted}
use Rattle.ic_base.specs.declared.events.Stop.{Stop}
use Rattle.def_rounds.specs.Rounds.{Round, Told, AreRounds, IsUnderWay, transitions_of, side_after, state_after}
use Rattle.def_run.specs.SystemStates.{SystemState, Transition, last_state, traces_of}
use Rattle.def_facts.specs.Logs.{Logs, log_at}
use Rattle.def_facts.specs.World.{forced_logs}
use Rattle.def_facts.specs.Explained.{InEachCut}
use Rattle.def_client.specs.Rebuilding.{outputs_at}
use Rattle.law_syntax.specs.Events.{IsEvent}
use Rattle.def_client.specs.declared.asked.Asked.{Asked}
use Rattle.def_client.specs.declared.asked.Asked.TheVariants.{Again}
use Rattle.def_client.specs.Fronts.{Request, Front}
use Rattle.def_client.specs.Clients.{Item, Plain, input_for, Asks, clients}
use Rattle.def_client.specs.Promises.{IsClients, RunsClients, ServesClients, EachOnce, EachOnceIn, IsFirstReply}
use Rattle.def_plain.specs.Plain.{PlainWorld}
use Rattle.def_step.specs.World.{World}
use Rattle.law_client.specs.Rounds.{Stands}
use Rattle.law_run.specs.ProgramBytes.{IsFit}
use Rattle.ic_base.specs.Programs.{is_a_pcom}

-- the event of an item may come
abbrev pub ItemMayCome : Program → Item → Type 0
ItemMayCome program (Asks r stop) = IsEvent program (input_for r stop)
ItemMayCome program (Plain e) = IsEvent program e

-- over logs that have no input
abbrev pub RequestsStandOnce : Type 0
RequestsStandOnce = (program : Program) (fingerprint : List ℕ) (x : PolicyIntervals) (items : List Item) (halts : Bool) (p : SystemState) (rs : List (Round Front Asked)) (vs : List Transition) (found : Logs) →
    IsFit program → ((i : Item) → Contains items i → ItemMayCome program i) → Stands program fingerprint found p → ((c : ComId) → is_a_pcom program c ≡ true → filter_map input_in (log_at (forced_logs p.world) c) ≡ []) →
    RunsClients program fingerprint x items halts p rs vs → EachOnce program (forced_logs (last_state (state_after p rs) vs).world)

-- behind rounds these transitions came of an item, whose event and what follows came so far, or of what settles
abbrev pub ComeBehind : Program → List ℕ → PolicyIntervals → Front → SystemState → List Transition → Type 0
ComeBehind program fingerprint x front p vs =
    ((i : Item) × IsClients i × ItemMayCome program i × IsUnderWay clients program fingerprint x front p i vs) ⊎ ((halts : Bool) × (b : Agenda) × Executes program fingerprint x (whole_agenda [] halts) p vs b)

-- nor does one on the way of a run that begins anew over blank disks
abbrev pub RequestsStandOnceOnWay : Type 0
RequestsStandOnceOnWay = (program : Program) (fingerprint : List ℕ) (x : PolicyIntervals) (items : List Item) (p : SystemState) (rs : List (Round Front Asked)) (vs : List Transition) (files : List (List ℕ)) →
    IsFit program → ((i : Item) → Contains items i → ItemMayCome program i) → length fingerprint ≡ 32 → IsStarted program fingerprint files p → ((i : Item) → Contains items i → IsClients i) → AreRounds clients program fingerprint x [] p items rs →
    ComeBehind program fingerprint x (side_after clients [] rs) (state_after p rs) vs → EachOnce program (forced_logs (last_state (state_after p rs) vs).world)

-- at the end of a run that did all, nor does one in the merged history
abbrev pub OnceInHistory : Type 0
OnceInHistory = (program : Program) (found : Logs) (w : World) (v : PlainWorld) → EndsCrashFree program found w v → EachOnce program (forced_logs w) → EachOnceIn program (forced_logs w)

-- what is answered again is the output that was shown first to the request behind its taking
abbrev pub RepliesAreFirst : Type 0
RepliesAreFirst = (program : Program) (fingerprint : List ℕ) (x : PolicyIntervals) (p : SystemState) (is js : List Item) (r : Request) (stop : Option Stop) (before after : List (Round Front Asked)) (m : ℕ) (args : List ℤ) (behind : Front) →
    AreRounds clients program fingerprint x [] p (is ++ Asks r stop ∷ js) (before ++ Told (Again m args) behind ∷ after) → length before ≡ length is → IsFirstReply r (m, args) (traces_of (transitions_of before))

-- and it is an output of the crash-free world of each cut of the logs that the run leaves
abbrev pub RepliesArePlain : Type 0
RepliesArePlain = (program : Program) (fingerprint : List ℕ) (x : PolicyIntervals) (items : List Item) (halts : Bool) (p : SystemState) (rs : List (Round Front Asked)) (vs : List Transition) (found : Logs) →
    IsFit program → ((i : Item) → Contains items i → ItemMayCome program i) → Stands program fingerprint found p → RunsClients program fingerprint x items halts p rs vs → (before after : List (Round Front Asked)) → rs ≡ before ++ after →
    InEachCut program (last_state (state_after p rs) vs).world (λ logs v. (r : Request) (reply : ℕ × List ℤ) → IsFirstReply r reply (traces_of (transitions_of before)) → (o : Output) × (o.m ≡ reply.0) × (o.args ≡ reply.1) × Contains (outputs_at v r.who) o)

-- A run that begins anew over blank disks stands as the crash-free world of its records has it where it ends, halted or not, and no request
-- stands twice in a log.
abbrev pub ClientRunsStand : Type 0
ClientRunsStand = (program : Program) (fingerprint : List ℕ) (x : PolicyIntervals) (items : List Item) (halts : Bool) (p : SystemState) (rs : List (Round Front Asked)) (vs : List Transition) (files : List (List ℕ)) →
    IsFit program → ((i : Item) → Contains items i → ItemMayCome program i) → length fingerprint ≡ 32 → IsStarted program fingerprint files p → RunsClients program fingerprint x items halts p rs vs →
    ((v : PlainWorld) × StandsCrashFree program [] (last_state (state_after p rs) vs).world v) × EachOnce program (forced_logs (last_state (state_after p rs) vs).world)

-- A run that begins anew over blank disks and doesn't halt ends with the values, outputs, messages and commits of the crash-free world of its
-- logs, and serves its clients.
abbrev pub ClientRunsServe : Type 0
ClientRunsServe = (program : Program) (fingerprint : List ℕ) (x : PolicyIntervals) (items : List Item) (p : SystemState) (rs : List (Round Front Asked)) (vs : List Transition) (files : List (List ℕ)) →
    IsFit program → ((i : Item) → Contains items i → ItemMayCome program i) → length fingerprint ≡ 32 → IsStarted program fingerprint files p → RunsClients program fingerprint x items false p rs vs →
    (v : PlainWorld) × EndsCrashFree program [] (last_state (state_after p rs) vs).world v × ServesClients program items p rs (last_state (state_after p rs) vs).world v
