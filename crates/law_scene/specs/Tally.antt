-- A tally takes two inputs, with a crash and a recovery between them, over blank files: its texts, its states, and what is printed.
use Rattle.std.specs.Prelude.{◌≡◌, ℕ, ◌≤◌, ℤ, pos, true, false, List, [], ◌∷◌, ◌++◌, map, length, Some, None, Ok, codes}
use Rattle.std.specs.declared.alloc.Global.{Global}
use Rattle.std.proofs.Common.{lit<}
use Rattle.ic_base.specs.declared.limits.TheConstants.{PACKETS, RECEIPTS}
use Rattle.ic_base.specs.declared.events.Answer.{Answer}
use Rattle.ic_base.specs.declared.events.Answer.TheVariants as answers
use Rattle.ic_base.specs.declared.events.Event.{Event}
use Rattle.ic_base.specs.declared.events.What.{What}
use Rattle.ic_base.specs.declared.events.What.TheVariants as whats
use Rattle.ic_base.specs.declared.messages.Kind.TheVariants as kinds
use Rattle.ic_base.specs.declared.record.Record.{Record}
use Rattle.ic_base.specs.declared.record.Record.TheVariants.{Input}
use Rattle.ic_base.specs.declared.report.ReportLevel.TheVariants as levels
use Rattle.ic_base.specs.declared.scenario.Program.{Program}
use Rattle.def_log.specs.Frame.{at_rest}
use Rattle.def_log.specs.Spelling.{spelling}
use Rattle.def_play.specs.Scenes.{body, add}
use Rattle.def_plain.specs.Scenes.{com_at, summed}
use Rattle.def_state.specs.Vol.{first_vol}
use Rattle.def_step.specs.Pcom.{Pcom}
use Rattle.def_step.specs.Settle.{PolicyIntervals}
use Rattle.def_step.specs.World.{Node, Runs, Down}
use Rattle.def_facts.specs.World.{forced_logs}
use Rattle.def_run.specs.CrashFree.{GainsInputs, EndsCrashFree}
use Rattle.def_run.specs.Executions.{Agenda, Executes, next, received_in, whole_agenda}
use Rattle.def_run.specs.Openings.{IsStarted, start_refusal}
use Rattle.def_run.specs.Reports.{report_of}
use Rattle.def_run.specs.SystemStates.{SystemState, Transition, last_state, without_stop}
use Rattle.def_syntax.specs.Scenario.{IsScenario}
use Rattle.def_syntax.specs.Schedule.{schedule_of}

-- the texts -------------------------------------------------------------------------------------------

abbrev pub scenario : List ℕ
scenario = codes "pcom tally\n  var total 0\n  on add n\n    set total total + n\n  end\nend\n"

abbrev pub schedule : List ℕ
schedule = codes "input tally add 5\ncrash tally\nrecover tally\ninput tally add 7\n"

abbrev pub report : List ℕ
report =
    codes "1 input tally add 5: taken\n2 crash tally: done\n3 recover tally: up\n4 input tally add 7: taken\n"
    ++ codes "inputs taken 2 kept 0 lost 0 missed 0\noutputs first 0 again 0\npcom tally up total=12\nplayed 1\nhistory 2\nsettled\n"

-- what they stand for
abbrev pub program : Global → Program
program a =
    record {
      components = record {
        name = codes "tally";
        kind = kinds.Pcom;
        immediate = false;
        vars = (codes "total", pos 0) ∷ [];
        keys = [];
        handlers = record { name = codes "add"; params = 1; body = body a add (lit< tt) } ∷ [];
      } ∷ [];
    }

abbrev pub adds : ℤ → What
adds n = whats.Input (com_at 0) 0 (n ∷ [])

abbrev pub events : List Event
events = without_stop (adds (pos 5)) ∷ without_stop (whats.Crash (com_at 0)) ∷ without_stop (whats.Recover (com_at 0)) ∷ without_stop (adds (pos 7)) ∷ []

-- without a policy's text
abbrev pub intervals : PolicyIntervals
intervals = record { force_every = 0; checkpoint_every = 0 }

-- the states ------------------------------------------------------------------------------------------

abbrev pub one_input : List Record
one_input = Input 1 0 (pos 5 ∷ []) ∷ []

abbrev pub both_inputs : List Record
both_inputs = Input 1 0 (pos 5 ∷ []) ∷ Input 2 0 (pos 7 ∷ []) ∷ []

-- the tally with this total and clock, over a forced log
abbrev pub tally : Global → ℤ → ℕ → List Record → Pcom
tally a total clock log = record {
  log = record { forced = log; buffered = [] };
  vol = record (first_vol (program a) (com_at 0)) { vars = total ∷ []; clock = clock };
  rest = [];
}

-- its node alone; the file holds these records, each forced by itself
abbrev pub stands : List ℕ → Node → List Record → SystemState
stands f node log = record {
  world = record { nodes = node ∷ []; packets = []; waiting = []; showings = [] };
  files = at_rest f 0 [] (map spelling log) ∷ [];
}

abbrev pub begins : Global → List ℕ → SystemState
begins a f = stands f (Runs (tally a (pos 0) 0 [])) []

abbrev pub behind_one : Global → List ℕ → SystemState
behind_one a f = stands f (Runs (tally a (pos 5) 1 one_input)) one_input

abbrev pub downs : List ℕ → SystemState
downs f = stands f (Down one_input) one_input

abbrev pub behind_both : Global → List ℕ → SystemState
behind_both a f = stands f (Runs (tally a (pos 12) 2 both_inputs)) both_inputs

-- an event that only has an answer
abbrev pub answered : What → Answer → SystemState → Transition
answered what answer q = record {
  trace = record { event = without_stop what; answer = answer; puts = []; first_put = 1; shown = None; aborted = None };
  state = q;
}

abbrev pub run : Global → List ℕ → List Transition
run a f =
    answered (adds (pos 5)) answers.Taken (behind_one a f)
    ∷ answered (whats.Crash (com_at 0)) answers.Ended (downs f)
    ∷ answered (whats.Recover (com_at 0)) answers.Up (behind_one a f)
    ∷ answered (adds (pos 7)) answers.Taken (behind_both a f)
    ∷ []

abbrev pub ends : Global → List ℕ → SystemState
ends a f = last_state (begins a f) (run a f)

-- what is left to do behind it
abbrev pub nothing_left : Agenda
nothing_left = record { left = []; halts = false; settles_first = false; last = Some (com_at 0) }

-- what holds of it ------------------------------------------------------------------------------------

abbrev pub TextsAreRead : Type 0
TextsAreRead = (a : Global) → IsScenario scenario (program a) × (schedule_of (program a) schedule ≡ Ok (events, false))

-- with whatever fingerprint f: it may start and starts, it executes the four events, and nothing is next; the counts are below their limits
pub record IsWhole (a : Global) (f : List ℕ) : Type 0 where
  pub unrefused : start_refusal (program a) ([] ∷ []) ≡ None
  pub started : IsStarted (program a) f ([] ∷ []) (begins a f)
  pub executes : Executes (program a) f intervals (whole_agenda events false) (begins a f) (run a f) nothing_left
  pub nothing : next (ends a f).world intervals nothing_left ≡ None
  pub receipts : received_in (program a) (begins a f) (run a f) ≤ RECEIPTS
  pub packets : length (ends a f).world.packets ≤ PACKETS

abbrev pub RunsWhole : Type 0
RunsWhole = (a : Global) (f : List ℕ) → length f ≡ 32 → IsWhole a f

abbrev pub PrintsReport : Type 0
PrintsReport = (a : Global) (f : List ℕ) → report_of (program a) levels.Full true (begins a f) (run a f) ≡ report

-- it gained both inputs, and ends as the crash-free world, in which the total is 12
abbrev pub EndsAtTwelve : Type 0
EndsAtTwelve = (a : Global) (f : List ℕ) → length f ≡ 32 → GainsInputs (program a) (forced_logs (begins a f).world) (run a f) (ends a f).world × EndsCrashFree (program a) (forced_logs (begins a f).world) (ends a f).world summed
