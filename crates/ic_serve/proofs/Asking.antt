-- What is done of a line, from a front that was asked before.
use Rattle.std.proofs.Common.{◌≡◌, ◌∙◌, sym, subst, ℕ, List}
use Rattle.def_client.specs.Fronts.{Front}
use Rattle.def_run.specs.Executions.{Agenda}
use Rattle.def_step.specs.Settle.{PolicyIntervals}
use Rattle.ic_base.specs.declared.report.ReportLevel.{ReportLevel}
use Rattle.ic_base.specs.declared.scenario.Program.{Program}
use Rattle.ic_client.specs.Fronts.{FrontState}
use Rattle.ic_client.specs.Seeing.{TakenAlike}
use Rattle.ic_disk.specs.TornDisks.{Torn}
use Rattle.ic_disk.specs.declared.disk.Disk as disk
use Rattle.ic_run.specs.declared.running.Cut.{Cut}
use Rattle.ic_world.specs.declared.world.World.{World}
use Rattle.ic_serve.specs.Gathering.{Gathered, FailsToGather}
use Rattle.ic_serve.specs.Services.{Adds}
use Rattle.ic_serve.specs.declared.service.Service.{Service}
use Rattle.ic_serve.specs.declared.telling.Form.{Form}

module _ (was : Service) (front : FrontState) (same : front.taken ≡ was.front.taken) where
  abbrev pub asked : Service
  asked = record was { front = front }

  module _ {D : Type 0} {d : disk.Ghosts D} (program : Program) (x : PolicyIntervals) (level : ReportLevel) where
    pub gathered-from : {form : Form} {a : Agenda} {now : Service} {old new : World D d} → Gathered program x level form a asked now old new → Gathered program x level form a was now old new
    gathered-from g = record {
      told = g.told;
      executed = g.executed;
      seen = λ other alike. let P : Front → Type 0 = λ t. TakenAlike t other in g.seen other (subst P (sym same) alike);
      piece = g.piece;
      played = g.played;
      lines = g.lines;
    }

  module _ {D : Type 0} (b : disk.Ghosts D) {d : disk.Ghosts (Torn D)} (program : Program) (x : PolicyIntervals) (level : ReportLevel) where
    pub cut-from : {form : Form} {a : Agenda} {old new : World (Torn D) d} {cut : Cut} → FailsToGather b program x level form a asked old new cut → FailsToGather b program x level form a was old new cut
    cut-from f = record { told = f.told; was_cut = f.was_cut }

  pub adds-from : {text : List ℕ} {now : Service} → Adds text asked now → Adds text was now
  adds-from a = record { piece = a.piece; front = a.front ∙ same; counts = a.counts; played = a.played; lines = a.lines }
