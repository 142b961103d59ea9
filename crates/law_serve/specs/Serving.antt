-- What a stretch of lines promises.
use Rattle.std.specs.Prelude.{◌≡◌, ℕ, true, List, None, Contains}
use Rattle.ic_base.specs.declared.scenario.Program.{Program}
use Rattle.ic_base.specs.Programs.{is_a_pcom}
use Rattle.def_step.specs.Settle.{PolicyIntervals, next_event}
use Rattle.def_facts.specs.Logs.{Logs}
use Rattle.def_facts.specs.World.{forced_logs}
use Rattle.def_rounds.specs.Rounds.{AreRounds}
use Rattle.def_client.specs.Fronts.{Front}
use Rattle.def_client.specs.Rebuilding.{HasAll}
use Rattle.def_serve.specs.Lines.{Line, Asks, Gives, Checkpoints, Values, Refused, input_for, serving}
use Rattle.def_serve.specs.Lives.{Stretch, begins_at}
use Rattle.def_serve.specs.Promises.{ServesStretch, KeepsTold}
use Rattle.law_client.specs.Rounds.{Stands}
use Rattle.law_run.specs.ProgramBytes.{IsFit}
use Rattle.law_syntax.specs.Events.{IsEvent}

-- the line was read for this program: its input may come
abbrev pub LineMayCome : Program → Line → Type 0
LineMayCome program (Asks r) = (is_a_pcom program r.who ≡ true) × IsEvent program (input_for r)
LineMayCome program (Gives r) = (is_a_pcom program r.who ≡ true) × IsEvent program (input_for r)
LineMayCome program (Checkpoints c) = Unit {0}
LineMayCome program Values = Unit {0}
LineMayCome program (Refused number cause) = Unit {0}

-- where its lines begin the world is explained and nothing is left to do, and the front has just the requests of the logs
abbrev pub StretchesServe : Type 0
StretchesServe = (program : Program) (fingerprint : List ℕ) (x : PolicyIntervals) (found : Logs) (front : Front) (s : Stretch) → IsFit program → ((l : Line) → Contains s.lines l → LineMayCome program l) → Stands program fingerprint found (begins_at s) → next_event (begins_at s).world ≡ None →
    HasAll program front (forced_logs (begins_at s).world) → AreRounds serving program fingerprint x front (begins_at s) s.lines s.rounds → ServesStretch program found front s

-- what is forced behind a line stands in front of all that is forced later
abbrev pub ToldStands : Type 0
ToldStands = (program : Program) (fingerprint : List ℕ) (x : PolicyIntervals) (found : Logs) (front : Front) (s : Stretch) → IsFit program → ((l : Line) → Contains s.lines l → LineMayCome program l) → Stands program fingerprint found (begins_at s) → AreRounds serving program fingerprint x front (begins_at s) s.lines s.rounds → KeepsTold s
