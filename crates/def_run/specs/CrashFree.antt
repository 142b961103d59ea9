-- What users rely on: how a run ends, against the crash-free world of the logs that it leaves. `found` are the logs with which it began,
-- empty ones where it began anew.
use Rattle.std.specs.Prelude.{◌≡◌, ⊤, ℕ, ℤ, ◌==◌, Bool, true, false, ◌&&◌, cond, List, ◌++◌, drop, length, count_by, filter_map, Option, Some, None, option_to_list, IsSomeAnd, MatchOption}
use Rattle.ic_base.specs.declared.messages.ComId.{ComId}
use Rattle.ic_base.specs.declared.messages.Entry.{Entry}
use Rattle.ic_base.specs.declared.messages.Act.{Act}
use Rattle.ic_base.specs.declared.messages.Act.TheVariants as acts
use Rattle.ic_base.specs.declared.events.Answer.{Answer}
use Rattle.ic_base.specs.declared.events.Answer.TheVariants as answers
use Rattle.ic_base.specs.declared.events.Trace.{Trace}
use Rattle.ic_base.specs.declared.events.What.TheVariants as whats
use Rattle.ic_base.specs.declared.record.Record.{Record}
use Rattle.ic_base.specs.declared.record.Record.TheVariants.{Input, Outcome}
use Rattle.ic_base.specs.declared.scenario.Program.{Program}
use Rattle.ic_base.specs.Programs.{same_com, is_a_pcom}
use Rattle.def_plain.specs.Plain.{PlainWorld, pcom_at, ledger_at, message_of}
use Rattle.def_plain.specs.History.{history_of}
use Rattle.def_state.specs.Hist.{number_outputs}
use Rattle.def_step.specs.Pcom.{is_replaying}
use Rattle.def_step.specs.World.{World, Node, Runs, Serves, Down, External, node_at}
use Rattle.def_facts.specs.Logs.{Logs, log_at, IsPrefixOf, last_shown}
use Rattle.def_facts.specs.Sound.{IsSound, state_in}
use Rattle.def_facts.specs.World.{forced_logs, whole_logs, firsts}
use Rattle.def_run.specs.SystemStates.{Transition, traces_of}

-- inputs ------------------------------------------------------------------------------------------

-- the handler and the values of an input that a log has
abbrev pub input_in : Record → Option (ℕ × List ℤ)
input_in (Input stamp handler args) = Some (handler, args)
input_in _ = None

abbrev pub is_received : Answer → Bool
is_received answers.Taken = true
is_received answers.Kept = true
is_received _ = false

-- the handler and the values of an input of c that was taken or kept
abbrev pub received_by : ComId → Trace → Option (ℕ × List ℤ)
received_by c t = elim t.event.what [ whats.Input d handler args ↦ cond (same_com c d && is_received t.answer) (Some (handler, args)) None | _ ↦ None ]

-- each log gained the inputs of the run that were taken or kept, in order, each once, and no other
abbrev pub GainsInputs : Program → Logs → List Transition → World → Type 0
GainsInputs program found vs w = (c : ComId) → is_a_pcom program c ≡ true → filter_map input_in (log_at (forced_logs w) c) ≡ filter_map input_in (log_at found c) ++ filter_map (received_by c) (traces_of vs)

-- entries of a history ----------------------------------------------------------------------------

abbrev pub is_take : ComId → ℕ → Act → Bool
is_take s k (acts.Take d n) = same_com s d && (k == n)
is_take s k act = false

-- the entry takes the k-th message of s to c
abbrev pub takes_number : ComId → ComId → ℕ → Entry → Bool
takes_number c s k e = same_com c e.com && is_take s k e.act

-- it commits the n-th transaction of c
abbrev pub commits_number : ComId → ℕ → Act → Bool
commits_number c n (acts.Commit d m) = same_com c d && (n == m)
commits_number c n act = false

-- a commit of the n-th transaction, recorded by its Pcom
abbrev pub ends_committed : ℕ → Record → Bool
ends_committed n (Outcome stamp m None) = n == m
ends_committed n r = false

abbrev pub input_act : Act → Option (ℕ × List ℤ)
input_act (acts.Input handler args) = Some (handler, args)
input_act act = None

-- the handler and the values of an entry that is an input of c
abbrev pub input_of : ComId → Entry → Option (ℕ × List ℤ)
input_of c e = cond (same_com c e.com) (input_act e.act) None

-- values ------------------------------------------------------------------------------------------

-- the component is up, and the values that are printed of it are those of the crash-free world
abbrev pub HasValuesOf : PlainWorld → ComId → Node → Type 0
HasValuesOf v c (Runs p) = IsSomeAnd (pcom_at v c) (λ x. x.vars ≡ p.vol.vars)
HasValuesOf v c (Serves t) = ledger_at v c ≡ Some t.book.ledger
HasValuesOf v c (Down log) = ⊥
HasValuesOf v c External = ⊤

-- the values that are printed of it, if there are any, are those that its records give with the messages of the crash-free world
abbrev pub HasValuesOfRecords : Program → Logs → PlainWorld → ComId → Node → Type 0
HasValuesOfRecords program logs v c (Runs p) = is_replaying p ≡ false → IsSomeAnd (state_in program logs v c) (λ h. h.plain.vars ≡ p.vol.vars)
HasValuesOfRecords program logs v c (Serves t) = ledger_at v c ≡ Some t.book.ledger
HasValuesOfRecords program logs v c (Down log) = ⊤
HasValuesOfRecords program logs v c External = ⊤

-- ends ----------------------------------------------------------------------------------------------

-- A run, wherever it is, stands as the crash-free world v of all its records has it, forced or buffered; a Pcom with a commit that it
-- hasn't recorded stands just before that.
pub record StandsCrashFree (program : Program) (found : Logs) (w : World) (v : PlainWorld) : Type 0 where
  -- v is the world of their merged history, which is legal, and it explains each of the logs
  pub sound : IsSound program (whole_logs w) v
  pub extends : (c : ComId) → IsPrefixOf (log_at found c) (log_at (forced_logs w) c)
  pub forced : (c : ComId) → IsPrefixOf (log_at (forced_logs w) c) (log_at (whole_logs w) c)
  pub values : (c : ComId) → MatchOption (node_at w c) ⊤ (HasValuesOfRecords program (whole_logs w) v c)
  -- no other output was shown, and none before an earlier one
  pub outputs : (c : ComId) → is_a_pcom program c ≡ true → IsSomeAnd (pcom_at v c) (λ x. IsPrefixOf (firsts c w.showings) (drop (last_shown (log_at found c)) (number_outputs 1 x.outs)))

-- A run that did all that was to be done ends as the crash-free world v of its merged logs.
pub record EndsCrashFree (program : Program) (found : Logs) (w : World) (v : PlainWorld) : Type 0 where
  -- v is the world of their history, which is legal, and it explains each of them
  pub sound : IsSound program (forced_logs w) v
  -- all records are forced, behind those that were found
  pub whole : forced_logs w ≡ whole_logs w
  pub extends : (c : ComId) → IsPrefixOf (log_at found c) (log_at (forced_logs w) c)
  pub values : (c : ComId) → MatchOption (node_at w c) ⊤ (HasValuesOf v c)
  -- the first showings of each Pcom are its outputs, in order of number, behind those that were found as shown
  pub outputs : (c : ComId) → is_a_pcom program c ≡ true → IsSomeAnd (pcom_at v c) (λ x. firsts c w.showings ≡ drop (last_shown (log_at found c)) (number_outputs 1 x.outs))
  -- each message of v stands exactly once in the history, as taken, and no other does
  pub messages : (s c : ComId) (k : ℕ) → count_by (takes_number c s k) (history_of program (forced_logs w)) ≡ length (option_to_list (message_of v s c k))
  -- each commit that a log records stands exactly once in the history, and no other does
  pub commits : (c : ComId) (n : ℕ) → is_a_pcom program c ≡ true → count_by (λ e. commits_number c n e.act) (history_of program (forced_logs w)) ≡ count_by (ends_committed n) (log_at (forced_logs w) c)
  -- the history has the inputs of each log, in their order
  pub inputs : (c : ComId) → is_a_pcom program c ≡ true → filter_map (input_of c) (history_of program (forced_logs w)) ≡ filter_map input_in (log_at (forced_logs w) c)
