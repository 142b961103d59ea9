-- What the disks may leave at a moment of a step.
use Rattle.std.specs.Prelude.{◌≡◌, ◌⊎◌, ℕ, true, List, length, Some}
use Rattle.ic_base.specs.declared.messages.ComId.{ComId}
use Rattle.ic_base.specs.declared.events.What.{What}
use Rattle.ic_base.specs.declared.scenario.Program.{Program}
use Rattle.ic_base.specs.declared.record.Record.{Record}
use Rattle.def_step.specs.World.{World, Down, DiskOutcome, After, node_at, happens}
use Rattle.def_run.specs.SystemStates.{is_of, without_stop}
use Rattle.def_facts.specs.Flat.{HasFlatParts}
use Rattle.def_facts.specs.Logs.{Logs, log_at}
use Rattle.def_facts.specs.Playable.{IsPlayable}
use Rattle.def_facts.specs.Sound.{AreSound}
use Rattle.def_facts.specs.World.{IsExplained, forced_logs}
use Rattle.law_step.specs.Steps.{PassesNoLimit, ReadsImages}
use Rattle.law_syntax.specs.Events.{IsEvent}

-- of each component the log that stands before a step, or the one behind it
pub record IsLeft (program : Program) (w v : World) (logs : Logs) : Type 0 where
  pub one_each : length logs ≡ length program.components
  pub each : (c : ComId) → (log_at logs c ≡ log_at (forced_logs w) c) ⊎ (log_at logs c ≡ log_at (forced_logs v) c)

-- Whatever the disks leave at a moment of a step, each the log before the step or the one behind it: these logs are sound together.
-- The step is that of the event without its stop, which may come at each moment.
abbrev pub MomentsAreSound : Type 0
MomentsAreSound = (program : Program) (found : Logs) (here : ComId → ℕ) (w : World) (what : What) (x : DiskOutcome) (a : After) → IsPlayable program → HasFlatParts program → IsEvent program (without_stop what) → PassesNoLimit program w what →
    ((c : ComId) (log : List Record) → is_of (without_stop what) a.trace c ≡ true → node_at w c ≡ Some (Down log) → x.found ≡ log) → ReadsImages program found w what → happens program w (without_stop what) x ≡ Some a → IsExplained program found here w →
    (logs : Logs) → IsLeft program w a.world logs → AreSound program logs
