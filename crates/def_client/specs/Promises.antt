-- What clients rely on.
use Rattle.std.specs.List.{list_any}
use Rattle.std.specs.Prelude.{◌≡◌, ⊤, ℕ, ℤ, Bool, true, false, ◌&&◌, List, [], ◌∷◌, ◌++◌, filter_map, length, Option, Some, None, Contains, IsTrue}
use Rattle.ic_base.specs.declared.messages.ComId.{ComId}
use Rattle.ic_base.specs.declared.messages.Output.{Output}
use Rattle.ic_base.specs.declared.events.Stop.{Stop}
use Rattle.ic_base.specs.declared.events.Trace.{Trace}
use Rattle.ic_base.specs.declared.events.What.{What}
use Rattle.ic_base.specs.declared.events.What.TheVariants as whats
use Rattle.ic_base.specs.declared.scenario.Program.{Program}
use Rattle.def_facts.specs.Logs.{Logs, log_at}
use Rattle.def_facts.specs.World.{forced_logs}
use Rattle.def_plain.specs.History.{history_of}
use Rattle.def_plain.specs.Plain.{PlainWorld}
use Rattle.def_step.specs.World.{World}
use Rattle.def_step.specs.Settle.{PolicyIntervals}
use Rattle.def_run.specs.CrashFree.{input_in, input_of, received_by}
use Rattle.def_run.specs.Executions.{IsComplete, whole_agenda, is_input}
use Rattle.def_rounds.specs.Rounds.{Round, Told, transitions_of, state_after, AreRounds}
use Rattle.def_run.specs.SystemStates.{SystemState, Transition, traces_of}
use Rattle.def_client.specs.declared.asked.Asked.{Asked}
use Rattle.def_client.specs.declared.asked.Asked.TheVariants.{Again}
use Rattle.def_client.specs.Fronts.{Request, Given, Front, same_numbers, is_numbered}
use Rattle.def_client.specs.Clients.{Item, Plain, clients, Asks}
use Rattle.def_client.specs.Rebuilding.{outputs_at}
use Rattle.ic_base.specs.Programs.{same_com, is_a_pcom}

-- no two of these inputs have the same first two values: no later one has those of an earlier one
abbrev pub AreApart : List Given → Type 0
AreApart [] = ⊤
AreApart (x ∷ xs) = (list_any (λ y. same_numbers y.1 x.1) xs ≡ false) × AreApart xs

-- in each log no request stands twice
abbrev pub EachOnce : Program → Logs → Type 0
EachOnce program logs = (c : ComId) → IsTrue (is_a_pcom program c) → AreApart (filter_map input_in (log_at logs c))

-- nor in the merged history
abbrev pub EachOnceIn : Program → Logs → Type 0
EachOnceIn program logs = (c : ComId) → IsTrue (is_a_pcom program c) → AreApart (filter_map (input_of c) (history_of program logs))

-- the trace takes this request
abbrev pub takes_request : Request → Trace → Bool
takes_request r t = elim (received_by r.who t) [ None ↦ false | Some x ↦ same_numbers r.args x.1 ]

-- it shows an output of the Pcom with the numbers of this request
abbrev pub shown_with : Request → What → Option (Output × Bool) → Option (ℕ × List ℤ)
shown_with r (whats.Emit c) (Some x) = elim (same_com c r.who && same_numbers x.0.args r.args) [ true ↦ Some (x.0.m, x.0.args) | false ↦ None ]
shown_with r _ _ = None

abbrev pub shows_for : Request → Trace → Option (ℕ × List ℤ)
shows_for r t = shown_with r t.event.what t.shown

-- behind the taking of the request this is the first output that was shown with its numbers
pub record IsFirstReply (r : Request) (reply : ℕ × List ℤ) (ts : List Trace) : Type 0 where
  pub before : List Trace
  pub taking : Trace
  pub between : List Trace
  pub showing : Trace
  pub behind : List Trace
  pub are : ts ≡ before ++ taking ∷ (between ++ showing ∷ behind)
  pub takes : takes_request r taking ≡ true
  pub first : filter_map (shows_for r) (taking ∷ between) ≡ []
  pub shows : shows_for r showing ≡ Some reply

-- an item of a client's schedule: a request, or an event that is no input
abbrev pub IsClients : Item → Type 0
IsClients (Asks r stop) = IsTrue (is_numbered r.args)
IsClients (Plain e) = is_input e.what ≡ false

-- A run with clients: its items were worked off in these rounds, over no request that was taken before; and unless it halts the world
-- was settled behind them.
pub record RunsClients (program : Program) (fingerprint : List ℕ) (x : PolicyIntervals) (items : List Item) (halts : Bool) (p : SystemState) (rs : List (Round Front Asked)) (vs : List Transition) : Type 0 where
  pub allowed : (i : Item) → Contains items i → IsClients i
  -- each is answered by what was taken and shown before it, and a new request alone is an event
  pub rounds : AreRounds clients program fingerprint x [] p items rs
  pub settles : IsComplete program fingerprint x (whole_agenda [] halts) (state_after p rs) vs

-- What a run with clients promises beside what each run does; w is the world at its end, v the crash-free world of its records.
pub record ServesClients (program : Program) (items : List Item) (p : SystemState) (rs : List (Round Front Asked)) (w : World) (v : PlainWorld) : Type 0 where
  pub once : EachOnce program (forced_logs w)
  pub once_in_history : EachOnceIn program (forced_logs w)
  -- what is answered again was shown first to this request, and is an output of the crash-free world
  pub again : (is js : List Item) (r : Request) (stop : Option Stop) (before after : List (Round Front Asked)) (m : ℕ) (args : List ℤ) (front : Front) →
      items ≡ is ++ Asks r stop ∷ js → rs ≡ before ++ Told (Again m args) front ∷ after → length before ≡ length is →
      IsFirstReply r (m, args) (traces_of (transitions_of before)) × ((o : Output) × (o.m ≡ m) × (o.args ≡ args) × Contains (outputs_at v r.who) o)
