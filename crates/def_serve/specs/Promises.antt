-- What a served life promises to those who write its lines.
use Rattle.def_client.specs.declared.asked.Asked.TheVariants.{New}
use Rattle.std.specs.Prelude.{◌≡◌, ℤ, Bool, true, false, List, ◌∷◌, ◌++◌, filter_map, length, Some}
use Rattle.std.specs.List.{list_any}
use Rattle.ic_base.specs.declared.messages.ComId.{ComId}
use Rattle.ic_base.specs.declared.events.Answer.TheVariants as answers
use Rattle.ic_base.specs.declared.scenario.Program.{Program}
use Rattle.ic_base.specs.declared.record.Record.{Record}
use Rattle.def_facts.specs.Logs.{Logs, log_at, IsPrefixOf}
use Rattle.def_facts.specs.World.{forced_logs}
use Rattle.def_plain.specs.Plain.{PlainWorld}
use Rattle.ic_base.specs.Programs.{is_a_pcom}
use Rattle.def_step.specs.Settle.{IsSettled}
use Rattle.def_run.specs.CrashFree.{EndsCrashFree, input_in, received_by}
use Rattle.def_rounds.specs.Rounds.{state_after, Round, Ran, side_after}
use Rattle.def_run.specs.SystemStates.{Transition}
use Rattle.def_client.specs.Fronts.{Request, Given, Front, ask, same_numbers}
use Rattle.def_serve.specs.Lines.{Line, Asks, Gives, Note, serving}
use Rattle.def_serve.specs.Lives.{Stretch, begins_at}

-- an input with the numbers of these values stands in a log
abbrev pub has_numbers : List ℤ → List Record → Bool
has_numbers args log = list_any (λ (x : Given). same_numbers args x.1) (filter_map input_in log)

-- the input of a line was taken: its round begins with it, and it was neither missed nor lost
pub record IsTakenIn (r : Request) (vs : List Transition) : Type 0 where
  pub first : Transition
  pub rest : List Transition
  pub is : vs ≡ first ∷ rest
  pub taken : first.trace.answer ≡ answers.Taken
  pub input : received_by r.who first.trace ≡ Some (r.handler, r.args)

-- What holds in one stretch behind each of its lines. `front` is kept as its lines begin, `found` are the logs over which its world
-- opened.
pub record ServesStretch (program : Program) (found : Logs) (front : Front) (s : Stretch) : Type 0 where
  -- The world is settled, and stands as the crash-free world of its logs has it.
  pub settled : (before after : List (Round Front Note)) → s.rounds ≡ before ++ after → IsSettled (state_after (begins_at s) before).world
  pub ends : (before after : List (Round Front Note)) → s.rounds ≡ before ++ after → (v : PlainWorld) × EndsCrashFree program found (state_after (begins_at s) before).world v
  -- An input is never missed: that of a line without a number, and that of a new request.
  pub gives : (is js : List Line) (r : Request) (before after : List (Round Front Note)) (vs : List Transition) → s.lines ≡ is ++ Gives r ∷ js → s.rounds ≡ before ++ Ran vs ∷ after → length before ≡ length is → IsTakenIn r vs
  pub asks : (is js : List Line) (r : Request) (before after : List (Round Front Note)) (vs : List Transition) → s.lines ≡ is ++ Asks r ∷ js → s.rounds ≡ before ++ Ran vs ∷ after → length before ≡ length is → IsTakenIn r vs
  -- A request is an event exactly where no input with its numbers stands in the log of its Pcom; so it is taken once in the whole life of
  -- these logs, over restarts too.
  pub once : (before after : List (Round Front Note)) (r : Request) → s.rounds ≡ before ++ after → is_a_pcom program r.who ≡ true →
      (ask (side_after serving front before) r ≡ New → has_numbers r.args (log_at (forced_logs (state_after (begins_at s) before).world) r.who) ≡ false)
      × (has_numbers r.args (log_at (forced_logs (state_after (begins_at s) before).world) r.who) ≡ false → ask (side_after serving front before) r ≡ New)

-- What was told stands from then on.
pub record KeepsTold (s : Stretch) : Type 0 where
  -- what is forced behind a line stands in front of what is forced later
  pub stays : (before after more : List (Round Front Note)) (c : ComId) → s.rounds ≡ before ++ after ++ more → IsPrefixOf (log_at (forced_logs (state_after (begins_at s) before).world) c) (log_at (forced_logs (state_after (begins_at s) (before ++ after)).world) c)
