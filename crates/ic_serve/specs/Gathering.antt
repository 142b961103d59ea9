-- What is done of an agenda of a served run: its lines are gathered, and none is put.
use Rattle.std.specs.Prelude.{◌≡◌, ⊤, ℕ, suc, List, [], ◌∷◌, ◌++◌, fold}
use Rattle.std.specs.List.{concat}
use Rattle.def_client.specs.Fronts.{Front, saw}
use Rattle.def_run.specs.Executions.{Agenda}
use Rattle.def_run.specs.SystemStates.{traces_of}
use Rattle.def_step.specs.Settle.{PolicyIntervals}
use Rattle.ic_base.specs.declared.events.Trace.{Trace}
use Rattle.ic_base.specs.declared.report.ReportLevel.{ReportLevel}
use Rattle.ic_base.specs.declared.scenario.Program.{Program}
use Rattle.ic_client.specs.Seeing.{TakenAlike, IsSeen}
use Rattle.ic_disk.specs.TornDisks.{Torn}
use Rattle.ic_disk.specs.declared.disk.Disk as disk
use Rattle.ic_disk.specs.declared.sink.Sink as sink
use Rattle.ic_run.specs.Running.{Executed, WasCut}
use Rattle.ic_run.specs.Tallies.{Counts}
use Rattle.ic_run.specs.declared.running.Cut.{Cut}
use Rattle.ic_world.specs.declared.world.World.{World}
use Rattle.ic_serve.specs.Telling.{event_lines, telling}
use Rattle.ic_serve.specs.declared.service.Service.{Service}
use Rattle.ic_serve.specs.declared.telling.Form.{Form}

-- the lines of each event as a piece of its own, in a list that takes all of them
abbrev pub in_a_list : sink.Ghosts (List (List ℕ))
in_a_list = record { tells = λ ps. ⊤; taken = λ ps. concat ps; faults = λ ps. 0; pieces = λ ps. ps }

-- an event was counted, the front saw it, and its lines were appended in this form
pub record AddsEvent (program : Program) (level : ReportLevel) (form : Form) (t : Trace) (was now : Service) : Type 0 where
  pub piece : now.piece.items ≡ was.piece.items ++ event_lines program level form (suc was.tally.events) t
  pub seen : IsSeen was.front.taken now.front.taken t
  pub counts : (traces : List Trace) → Counts traces was.tally → Counts (traces ++ t ∷ []) now.tally
  pub played : now.played ≡ was.played
  pub lines : now.lines ≡ was.lines

module _ {D : Type 0} {d : disk.Ghosts D} (program : Program) (x : PolicyIntervals) (level : ReportLevel) where
  -- All that was to be done was done, the front saw each event, and their lines stand behind what was gathered before.
  pub record Gathered (form : Form) (a : Agenda) (was now : Service) (old new : World D d) : Type 0 where
    pub told : List (List ℕ)
    pub executed : Executed in_a_list program x (telling program level form (suc was.tally.events)) was.tally a old new [] told now.tally
    pub seen : (other : Front) → TakenAlike was.front.taken other → TakenAlike now.front.taken (fold saw other (traces_of executed.transitions))
    pub piece : now.piece.items ≡ was.piece.items ++ concat told
    pub played : now.played ≡ was.played
    pub lines : now.lines ≡ was.lines

module _ {D : Type 0} (b : disk.Ghosts D) {d : disk.Ghosts (Torn D)} (program : Program) (x : PolicyIntervals) (level : ReportLevel) where
  -- an event was refused, or its lines weren't gathered for want of memory
  pub record FailsToGather (form : Form) (a : Agenda) (was : Service) (old new : World (Torn D) d) (cut : Cut) : Type 0 where
    pub told : List (List ℕ)
    pub was_cut : WasCut b in_a_list program x (telling program level form (suc was.tally.events)) was.tally.events a old new [] told cut
