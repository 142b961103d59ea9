-- Why the records of a log aren't played.
use Rattle.std.specs.Prelude.{◌≡◌, ℕ, ⊤, List, Option, Some, option_map}
use Rattle.ic_base.specs.declared.messages.ComId.{ComId}
use Rattle.ic_base.specs.declared.scenario.Program.{Program}
use Rattle.def_log.specs.Log.{Placed, records_in}
use Rattle.def_run.specs.Refusals.{place_of}
use Rattle.def_step.specs.Replay.{misfit_of}
use Rattle.ic_gate.specs.declared.refusals.LoadWhy.{LoadWhy}
use Rattle.ic_gate.specs.declared.refusals.LoadWhy.TheVariants.{Bad, Foreign, Failed, Stopped, Memory}

-- the place in the file of the record at which a recovery meets a misfit
abbrev pub misfit_place : Program → ComId → List Placed → Option ℕ
misfit_place program c rs = option_map (place_of rs) (misfit_of program c (records_in rs))

-- one of them is a misfit, which is told by its place; or memory is wanting
abbrev pub FailsToPlay : Program → ComId → List Placed → LoadWhy → Type 0
FailsToPlay program c rs (Bad place) = misfit_place program c rs ≡ Some place
FailsToPlay program c rs (Foreign kept) = ⊥
FailsToPlay program c rs Failed = ⊥
FailsToPlay program c rs Stopped = ⊥
FailsToPlay program c rs Memory = ⊤
