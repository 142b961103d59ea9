-- A takeover at a world with its disks.
use Rattle.std.specs.Prelude.{◌≡◌, ◌⊎◌, ℕ, Some, None}
use Rattle.ic_base.specs.declared.messages.ComId.{ComId}
use Rattle.ic_base.specs.declared.refusals.WorldRefused.{WorldRefused}
use Rattle.ic_base.specs.declared.scenario.Program.{Program}
use Rattle.def_failover.specs.Orders.{turn}
use Rattle.def_failover.specs.declared.note.Note.{Note}
use Rattle.def_failover.specs.declared.note.Note.TheVariants.{Done}
use Rattle.def_rounds.specs.Rounds.{Leaps}
use Rattle.def_standby.specs.Standbys.{Standby, contents_to}
use Rattle.def_standby.specs.declared.orders.Order.TheVariants.{TakeOver}
use Rattle.ic_disk.specs.TornDisks.{Torn}
use Rattle.ic_disk.specs.declared.disk.Disk.{Ghosts}
use Rattle.ic_failover.specs.Shipping.{IsAnswered}
use Rattle.ic_failover.specs.Sides.{Beside}
use Rattle.ic_run.specs.declared.running.Cut.{Cut}
use Rattle.ic_run.specs.declared.running.Cut.TheVariants as cuts
use Rattle.ic_world.specs.Acting.{KeepsOthers}
use Rattle.ic_world.specs.Stepping.{CrashLeavesFiles}
use Rattle.ic_world.specs.TakingOver.{TakesOn, CrashLeavesThem, LeavesSound, FailsToTakeOver}
use Rattle.ic_world.specs.Views.{world_of}
use Rattle.ic_world.specs.declared.world.World.{World}

module _ {D : Type 0} {d : Ghosts D} where
  -- The standby of a component that is down took it over, and played so many records of its log. A crash meanwhile leaves the records that
  -- are there, and behind it just what a read gives.
  pub record TookOver (program : Program) (c : ComId) (old new : World D d) (a : Beside) (played : ℕ) (b : Beside) : Type 0 where
    pub standby : Standby
    pub stood : a.side ≡ Some standby
    pub told : Note
    pub turn_is : turn program c (world_of old) a.side TakeOver ≡ Leaps told None
    pub takes : TakesOn program old c (contents_to c (world_of old).packets) standby.state standby.have new played
    pub others : KeepsOthers old c new
    pub crash : CrashLeavesThem old new
    pub durable : CrashLeavesFiles new
    pub sound : LeavesSound program old new
    pub gone : b.side ≡ None
    pub shipped : b.shipped ≡ a.shipped

  -- what a takeover comes to: it is answered with no step, or the standby took over
  abbrev pub Takes : Program → ComId → World D d → Beside → Note → World D d → Beside → Type 0
  Takes program c old a note new b = ((new ≡ old) × IsAnswered program c (world_of old) TakeOver a note b) ⊎ ((played : ℕ) × (note ≡ Done played) × TookOver program c old new a played b)

module _ {D : Type 0} (b : Ghosts D) {d : Ghosts (Torn D)} where
  -- it doesn't take over, and the world ends
  pub record WasRefused (program : Program) (c : ComId) (old new : World (Torn D) d) (a : Beside) (cut : Cut) : Type 0 where
    pub standby : Standby
    pub stood : a.side ≡ Some standby
    pub told : Note
    pub turn_is : turn program c (world_of old) a.side TakeOver ≡ Leaps told None
    pub why : WorldRefused
    pub is : cut ≡ cuts.Refused why
    pub fails : FailsToTakeOver b program old c (contents_to c (world_of old).packets) standby.state standby.have new why
    pub others : KeepsOthers old c new
    pub crash : CrashLeavesThem old new
    pub sound : LeavesSound program old new

  -- or memory is wanting for the messages that were put out
  abbrev pub FailsToTake : Program → ComId → World (Torn D) d → World (Torn D) d → Beside → Cut → Type 0
  FailsToTake program c old new a cut = WasRefused program c old new a cut ⊎ ((cut ≡ cuts.Memory) × (new ≡ old))
