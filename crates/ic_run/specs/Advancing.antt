-- What the next event of a run comes to.
use Rattle.std.specs.Prelude.{◌≡◌, List, Option, Some, None}
use Rattle.ic_base.specs.declared.events.Event.{Event}
use Rattle.ic_base.specs.declared.events.Trace.{Trace}
use Rattle.ic_base.specs.declared.refusals.WorldRefused.{WorldRefused}
use Rattle.ic_base.specs.declared.scenario.Program.{Program}
use Rattle.def_run.specs.Executions.{next, agenda_behind}
use Rattle.def_step.specs.Settle.{PolicyIntervals}
use Rattle.ic_disk.specs.TornDisks.{Torn}
use Rattle.ic_disk.specs.declared.disk.Disk.{Ghosts}
use Rattle.ic_run.specs.Agendas.{agenda_of, IsReady, IsNearer}
use Rattle.ic_run.specs.declared.agenda.Agenda.{Agenda}
use Rattle.ic_world.specs.Stepping.{Steps, KeepsDisks, CrashLeavesLogs, FailsToStep}
use Rattle.ic_world.specs.Views.{world_of}
use Rattle.ic_world.specs.declared.world.World.{World}

module _ {D : Type 0} {d : Ghosts D} where
  -- The event that is next was done. The agenda behind it is left, with less to do.
  pub record AdvancesBy (program : Program) (x : PolicyIntervals) (a b : Agenda) (old new : World D d) (t : Trace) : Type 0 where
    pub left : List Event
    pub next : next (world_of old) x (agenda_of a) ≡ Some (record { event = t.event; left = left })
    pub steps : Steps program old t.event new t
    pub behind : agenda_of b ≡ agenda_behind (agenda_of a) left t
    pub ready : IsReady program new b
    pub nearer : IsNearer b new a old
    pub disks : KeepsDisks old t.event.what new
    pub crash : CrashLeavesLogs program old t.event.what new

  -- nothing is left to do, or the next event was done
  abbrev pub Advances : Program → PolicyIntervals → Agenda → Agenda → World D d → World D d → Option Trace → Type 0
  Advances program x a b old new None = (next (world_of old) x (agenda_of a) ≡ None) × (new ≡ old)
  Advances program x a b old new (Some t) = AdvancesBy program x a b old new t

module _ {D : Type 0} (b : Ghosts D) {d : Ghosts (Torn D)} where
  -- the event that is next isn't done
  pub record FailsToAdvance (program : Program) (x : PolicyIntervals) (a : Agenda) (old new : World (Torn D) d) (why : WorldRefused) : Type 0 where
    pub event : Event
    pub left : List Event
    pub next : next (world_of old) x (agenda_of a) ≡ Some (record { event = event; left = left })
    pub fails : FailsToStep b program old event new why
    pub disks : KeepsDisks old event.what new
    pub crash : CrashLeavesLogs program old event.what new
