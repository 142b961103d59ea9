-- What is still to be done of a run, as the definitions have it, and what may be done.
use Rattle.std.specs.Prelude.{◌≡◌, ◌⊎◌, ◌<◌, false, length, IfSome}
use Rattle.std.specs.List.{AllByRecursion}
use Rattle.ic_base.specs.declared.events.Event.{Event}
use Rattle.ic_base.specs.declared.scenario.Program.{Program}
use Rattle.def_run.specs.Executions as executions
use Rattle.def_step.specs.Settle.{left}
use Rattle.def_syntax.specs.Allowed.{IsAllowed}
use Rattle.ic_disk.specs.declared.disk.Disk.{Ghosts}
use Rattle.ic_plan.specs.declared.run_texts.RunTexts.{RunTexts}
use Rattle.ic_run.specs.declared.agenda.Agenda.{Agenda}
use Rattle.ic_run.specs.declared.agenda.Coming.{Coming}
use Rattle.ic_world.specs.Views.{components_of, world_of}
use Rattle.ic_world.specs.declared.world.World.{World}
use Rattle.law_run.specs.ProgramBytes.{IsFit}
use Rattle.law_settle.specs.Measure.{IsLower}
use Rattle.law_syntax.specs.Events.{IsEvent}

-- what is still to be done, as the definitions have it
abbrev pub agenda_of : Agenda → executions.Agenda
agenda_of a = record { left = a.left.now; halts = a.halts; settles_first = false; last = a.last }

-- what is next, as the definitions have it
abbrev pub next_of : Coming → executions.Next
next_of n = record { event = n.event; left = n.left.now }

-- an event that a schedule of the program may have
pub record MayCome (program : Program) (e : Event) : Type 0 where
  pub allowed : IsAllowed program e
  pub event : IsEvent program e

-- texts that may be run: the laws speak of the program, and each event of the schedule may come
pub record MayRun (r : RunTexts) : Type 0 where
  pub fit : IsFit r.program
  pub events : AllByRecursion (MayCome r.program) r.schedule.events

module _ {D : Type 0} {d : Ghosts D} where
  -- the events that are left may come, and the component of the event before is one of the world's
  pub record IsReady (program : Program) (w : World D d) (a : Agenda) : Type 0 where
    pub events : AllByRecursion (MayCome program) a.left.now
    pub last : IfSome a.last (λ c. c.0 < length (components_of w))

  -- Less is to be done: fewer events of the schedule are left; or as many, and less is left to settle, compared from its first member on
  abbrev pub IsNearer : Agenda → World D d → Agenda → World D d → Type 0
  IsNearer b new a old = (length b.left.now < length a.left.now) ⊎ ((length b.left.now ≡ length a.left.now) × IsLower (left (world_of new)) (left (world_of old)))
