-- What one settling event comes to.
use Rattle.std.specs.Prelude.{◌≡◌, Option, Some, None}
use Rattle.ic_base.specs.declared.events.Trace.{Trace}
use Rattle.ic_base.specs.declared.events.What.{What}
use Rattle.ic_base.specs.declared.messages.ComId.{ComId}
use Rattle.ic_base.specs.declared.scenario.Program.{Program}
use Rattle.def_run.specs.SystemStates.{without_stop}
use Rattle.def_step.specs.Settle.{PolicyIntervals, settling_event, left}
use Rattle.ic_disk.specs.declared.disk.Disk.{Ghosts}
use Rattle.ic_world.specs.Stepping.{Steps}
use Rattle.ic_world.specs.Views.{world_of}
use Rattle.ic_world.specs.declared.world.World.{World}
use Rattle.law_settle.specs.Measure.{IsLower}

module _ {D : Type 0} {d : Ghosts D} where
  -- The step of the event that settles, which lowers what is left, compared from its first member on
  pub record SettlesBy (program : Program) (x : PolicyIntervals) (last : Option ComId) (old new : World D d) (t : Trace) : Type 0 where
    pub what : What
    pub is : settling_event (world_of old) x last ≡ Some what
    pub steps : Steps program old (without_stop what) new t
    pub lowers : IsLower (left (world_of new)) (left (world_of old))

  -- nothing is left to do; or one event is done
  abbrev pub Settles : Program → PolicyIntervals → Option ComId → World D d → World D d → Option Trace → Type 0
  Settles program x last old new None = (settling_event (world_of old) x last ≡ None) × (new ≡ old)
  Settles program x last old new (Some t) = SettlesBy program x last old new t
