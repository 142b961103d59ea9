-- The replies of a front are outputs of the crash-free world of the logs.
use Rattle.std.specs.Prelude.{◌≡◌, ◌<◌, ◌≤◌, ◌++◌, ◌∷◌, ℕ, ℤ, true, false, fold, List, Option, Some, None, Contains, IsSomeAnd, Ok}
use Rattle.std.specs.List.{AllByRecursion}
use Rattle.ic_base.specs.declared.messages.ComId.{ComId}
use Rattle.ic_base.specs.declared.messages.Output.{Output}
use Rattle.ic_base.specs.declared.record.Record.{Record}
use Rattle.ic_base.specs.declared.record.Record.TheVariants.{Input}
use Rattle.ic_base.specs.declared.scenario.Program.{Program}
use Rattle.ic_base.specs.Programs.{is_a_pcom}
use Rattle.def_client.specs.Fronts.{Request, Taken, Front, ask, taken_under, same_numbers, saw}
use Rattle.def_client.specs.Rebuilding.{HasAll, front_of, outputs_at}
use Rattle.def_client.specs.declared.asked.Asked.TheVariants.{Again}
use Rattle.def_facts.specs.Logs.{Logs, log_at, last_shown}
use Rattle.def_facts.specs.Sound.{state_in}
use Rattle.def_facts.specs.World.{IsExplained, forced_logs, whole_logs}
use Rattle.def_plain.specs.History.{history_of}
use Rattle.def_plain.specs.Plain.{PlainWorld, plain_run_of}
use Rattle.def_run.specs.Executions.{Agenda, Executes, whole_agenda}
use Rattle.def_run.specs.SystemStates.{SystemState, Transition, last_state, traces_of}
use Rattle.def_state.specs.Hist.{Hist, outputs_of}
use Rattle.def_step.specs.Settle.{PolicyIntervals, next_event}
use Rattle.def_step.specs.World.{World}
use Rattle.ic_base.specs.declared.events.Event.{Event}
use Rattle.def_rounds.specs.Rounds.{state_after, Round, AreRounds, side_after}
use Rattle.def_serve.specs.Lines.{Line, Note, serving}
use Rattle.law_client.specs.Rounds.{Stands, MayHappen}
use Rattle.law_run.specs.ProgramBytes.{IsFit}
use Rattle.law_syntax.specs.Events.{IsEvent}

-- The reply to a request of c that was taken is an output of the crash-free world v, with the numbers of the request; and the records of c
-- put it out, however often its component came up since.
pub record IsReplyOf (program : Program) (logs : Logs) (v : PlainWorld) (c : ComId) (t : Taken) (reply : ℕ × List ℤ) : Type 0 where
  pub output : Output
  pub number : output.m ≡ reply.0
  pub values : output.args ≡ reply.1
  pub own : same_numbers output.args t.request.args ≡ true
  pub put_out : IsSomeAnd (state_in program logs v c) (λ (h : Hist). Contains (outputs_of h) output)
  pub stands : Contains (outputs_at v c) output

-- each reply that a front has is such an output of the crash-free world of these logs
abbrev pub TellsOutputs : Program → Logs → Front → Type 0
TellsOutputs program logs front = (v : PlainWorld) (c : ComId) (args : List ℤ) (t : Taken) (reply : ℕ × List ℤ) → plain_run_of program (history_of program logs) ≡ Ok v → is_a_pcom program c ≡ true →
    taken_under front c args ≡ Some t → t.reply ≡ Some reply → IsReplyOf program logs v c t reply

-- A request of c that was taken, where its input stands in the log of c.
pub record IsTaken (logs : Logs) (c : ComId) (t : Taken) : Type 0 where
  pub before : List Record
  pub stamp : ℕ
  pub behind : List Record
  pub are : log_at logs c ≡ before ++ Input stamp t.request.handler t.request.args ∷ behind

-- The reply to it is the first output of the crash-free world v with the numbers of the request: each one with a lower number was shown before the
-- request was taken, as the log has it.
pub record IsFirstOutput (logs : Logs) (v : PlainWorld) (c : ComId) (t : Taken) (reply : ℕ × List ℤ) : Type 0 where
  pub output : Output
  pub number : output.m ≡ reply.0
  pub values : output.args ≡ reply.1
  pub own : same_numbers output.args t.request.args ≡ true
  pub stands : Contains (outputs_at v c) output
  pub taken : IsTaken logs c t
  pub first : (o : Output) → Contains (outputs_at v c) o → same_numbers o.args t.request.args ≡ true → o.m < output.m → o.m ≤ last_shown taken.before

-- it has no reply: no output with its numbers was shown since it was taken
pub record IsWaiting (logs : Logs) (v : PlainWorld) (c : ComId) (t : Taken) : Type 0 where
  pub taken : IsTaken logs c t
  pub none : (o : Output) → Contains (outputs_at v c) o → same_numbers o.args t.request.args ≡ true → o.m ≤ last_shown (log_at logs c) → o.m ≤ last_shown taken.before

abbrev pub IsToldOf : Logs → PlainWorld → ComId → Taken → Option (ℕ × List ℤ) → Type 0
IsToldOf logs v c t None = IsWaiting logs v c t
IsToldOf logs v c t (Some reply) = IsFirstOutput logs v c t reply

-- so it is of each request that a front has
abbrev pub TellsFirst : Program → Logs → Front → Type 0
TellsFirst program logs front = (v : PlainWorld) (c : ComId) (args : List ℤ) (t : Taken) → plain_run_of program (history_of program logs) ≡ Ok v → is_a_pcom program c ≡ true → taken_under front c args ≡ Some t → IsToldOf logs v c t t.reply

-- what such a front answers again to a request is its first output
abbrev pub AgainTellsFirst : Type 0
AgainTellsFirst = (program : Program) (logs : Logs) (front : Front) (r : Request) (m : ℕ) (args : List ℤ) (v : PlainWorld) → TellsFirst program logs front → is_a_pcom program r.who ≡ true → ask front r ≡ Again m args → plain_run_of program (history_of program logs) ≡ Ok v →
    IsFirstOutput logs v r.who (record { request = r; reply = Some (m, args) }) (m, args)

-- a front knows logs: it has just their requests, and tells the first output of each in their crash-free world
pub record KnowsLogs (program : Program) (front : Front) (logs : Logs) : Type 0 where
  pub requests : HasAll program front logs
  pub replies : TellsOutputs program logs front
  pub firsts : TellsFirst program logs front

-- where a front is built again from the logs of a world
abbrev pub RebuiltFrontsTellFirst : Type 0
RebuiltFrontsTellFirst = (program : Program) (found : Logs) (here : ComId → ℕ) (w : World) (v : PlainWorld) → IsExplained program found here w → plain_run_of program (history_of program (forced_logs w)) ≡ Ok v → TellsFirst program (forced_logs w) (front_of v (forced_logs w))

-- and behind events that have no stop, where a front saw what was done of them, from a world of which all is forced to another one
abbrev pub SeeingFrontsTellFirst : Type 0
SeeingFrontsTellFirst = (program : Program) (fingerprint : List ℕ) (x : PolicyIntervals) (events : List Event) (b : Agenda) (p : SystemState) (vs : List Transition) (found : Logs) (front : Front) → IsFit program → ((e : Event) → Contains events e → IsEvent program e) → AllByRecursion (λ e. e.stop ≡ None) events →
    Stands program fingerprint found p → Executes program fingerprint x (whole_agenda events false) p vs b → forced_logs p.world ≡ whole_logs p.world → forced_logs (last_state p vs).world ≡ whole_logs (last_state p vs).world → TellsOutputs program (forced_logs p.world) front → TellsFirst program (forced_logs p.world) front →
    TellsFirst program (forced_logs (last_state p vs).world) (fold saw front (traces_of vs))

-- and tells outputs
abbrev pub RebuiltFrontsTellOutputs : Type 0
RebuiltFrontsTellOutputs = (program : Program) (found : Logs) (here : ComId → ℕ) (w : World) (v : PlainWorld) → IsExplained program found here w → plain_run_of program (history_of program (forced_logs w)) ≡ Ok v → TellsOutputs program (forced_logs w) (front_of v (forced_logs w))

-- and behind events that have no stop, where a front saw what was done of them
abbrev pub SeeingFrontsTellOutputs : Type 0
SeeingFrontsTellOutputs = (program : Program) (fingerprint : List ℕ) (x : PolicyIntervals) (events : List Event) (b : Agenda) (p : SystemState) (vs : List Transition) (found : Logs) (front : Front) → IsFit program → ((e : Event) → Contains events e → IsEvent program e) → AllByRecursion (λ e. e.stop ≡ None) events →
    Stands program fingerprint found p → Executes program fingerprint x (whole_agenda events false) p vs b → TellsOutputs program (forced_logs p.world) front → TellsOutputs program (forced_logs (last_state p vs).world) (fold saw front (traces_of vs))

-- so while lines are served
abbrev pub ServedFrontsTellOutputs : Type 0
ServedFrontsTellOutputs = (program : Program) (fingerprint : List ℕ) (x : PolicyIntervals) (found : Logs) (front : Front) (p : SystemState) (lines : List Line) (rs : List (Round Front Note)) → IsFit program → MayHappen serving program lines → Stands program fingerprint found p →
    TellsOutputs program (forced_logs p.world) front → AreRounds serving program fingerprint x front p lines rs → TellsOutputs program (forced_logs (state_after p rs).world) (side_after serving front rs)

-- from a settled world on, while lines are served
abbrev pub ServedFrontsTellFirst : Type 0
ServedFrontsTellFirst = (program : Program) (fingerprint : List ℕ) (x : PolicyIntervals) (found : Logs) (front : Front) (p : SystemState) (lines : List Line) (rs : List (Round Front Note)) → IsFit program → MayHappen serving program lines → Stands program fingerprint found p → next_event p.world ≡ None →
    TellsOutputs program (forced_logs p.world) front → TellsFirst program (forced_logs p.world) front → AreRounds serving program fingerprint x front p lines rs → TellsFirst program (forced_logs (state_after p rs).world) (side_after serving front rs)
