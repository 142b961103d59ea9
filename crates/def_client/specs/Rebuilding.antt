-- The front that logs tell of: what a front that saw the whole life of these logs keeps, built again from them and from the outputs of
-- their crash-free world.
use Rattle.std.specs.Prelude.{◌≡◌, ℕ, ◌+◌, true, cond, List, [], ◌∷◌, ◌++◌, fold, filter, filter_map, Option, Some, None}
use Rattle.ic_base.specs.declared.messages.ComId.{ComId}
use Rattle.ic_base.specs.declared.messages.Output.{Output}
use Rattle.ic_base.specs.declared.record.Record.{Record}
use Rattle.ic_base.specs.declared.record.Record.TheVariants.{Input, Shown}
use Rattle.def_facts.specs.Logs.{Logs, log_at}
use Rattle.def_plain.specs.Plain.{PlainWorld, pcom_at, counted}
use Rattle.def_plain.specs.declared.world.PlainPcom.{PlainPcom}
use Rattle.def_state.specs.Hist.{number_outputs}
use Rattle.ic_base.specs.declared.scenario.Program.{Program}
use Rattle.def_run.specs.CrashFree.{input_in}
use Rattle.def_client.specs.Fronts.{Request, Taken, Front, Given, is_numbered, ask, takes, shows}
use Rattle.ic_base.specs.Programs.{same_com, is_a_pcom}

-- the outputs of a Pcom in the crash-free world, numbered from 1
abbrev pub outputs_of : Option PlainPcom → List Output
outputs_of None = []
outputs_of (Some p) = number_outputs 1 p.outs

abbrev pub outputs_at : PlainWorld → ComId → List Output
outputs_at v c = outputs_of (pcom_at v c)

abbrev pub shows_if : ComId → Option Output → Front → Front
shows_if c None front = front
shows_if c (Some o) front = shows c o front

-- what a record of c tells: an input, or that the output of a number was shown
abbrev pub saw_record : ComId → List Output → Front → Record → Front
saw_record c outs front (Input stamp handler args) = takes (record { who = c; handler = handler; args = args }) front
saw_record c outs front (Shown m) = shows_if c (counted outs m) front
saw_record c outs front _ = front

abbrev pub front_of_log : ComId → List Output → List Record → Front
front_of_log c outs log = fold (saw_record c outs) [] log

abbrev pub front_from : PlainWorld → ℕ → Logs → Front
front_from v i [] = []
front_from v i (log ∷ logs) = let c : ComId = record { 0 = i } in front_of_log c (outputs_at v c) log ++ front_from v (i + 1) logs

-- of all logs
abbrev pub front_of : PlainWorld → Logs → Front
front_of v logs = front_from v 0 logs

-- they answer each request in the same way
abbrev pub AnswerAlike : Front → Front → Type 0
AnswerAlike front other = (r : Request) → ask front r ≡ ask other r

-- the requests of c that a front has, in order, as inputs
abbrev pub own : ComId → Taken → Option Given
own c t = cond (same_com c t.request.who) (Some (t.request.handler, t.request.args)) None

abbrev pub requests_of : ComId → Front → List Given
requests_of c front = filter_map (own c) front

-- the inputs that have a client's number and a request's
abbrev pub numbered : List Given → List Given
numbered inputs = filter (λ (x : Given). is_numbered x.1) inputs

-- the front has just the requests that the logs have
abbrev pub HasAll : Program → Front → Logs → Type 0
HasAll program front logs = (c : ComId) → is_a_pcom program c ≡ true → requests_of c front ≡ numbered (filter_map input_in (log_at logs c))
