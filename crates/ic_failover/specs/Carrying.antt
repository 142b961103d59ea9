-- Orders that are carried out over a world, one after another: what becomes of each, what is printed of it, what a crash leaves on the way,
-- and why a run goes no further.
use Rattle.std.specs.Prelude.{◌≡◌, ◌≤◌, ◌⊎◌, ℕ, suc, true, false, List, [], ◌∷◌, ◌++◌, length}
use Rattle.ic_base.specs.declared.events.Event.{Event}
use Rattle.ic_base.specs.declared.events.Trace.{Trace}
use Rattle.ic_base.specs.declared.report.ReportLevel.{ReportLevel}
use Rattle.ic_base.specs.Programs.{is_a_pcom}
use Rattle.ic_base.specs.declared.limits.TheConstants.{COMPONENTS}
use Rattle.def_failover.specs.Telling.{note_lines}
use Rattle.def_failover.specs.declared.note.Note.{Note}
use Rattle.def_run.specs.Executions.{whole_agenda}
use Rattle.def_standby.specs.declared.orders.Order.{Order}
use Rattle.def_standby.specs.declared.orders.Order.TheVariants.{Ship, TakeOver, Run}
use Rattle.def_step.specs.Settle.{PolicyIntervals}
use Rattle.ic_disk.specs.TornDisks.{Torn}
use Rattle.ic_disk.specs.declared.disk.Disk as disk
use Rattle.ic_disk.specs.declared.sink.Sink as sink
use Rattle.ic_failover.specs.Shipping.{IsAnswered, FailsToShip}
use Rattle.ic_failover.specs.Sides.{Beside, beside_of}
use Rattle.ic_failover.specs.declared.side.Side.{Side}
use Rattle.ic_failover.specs.Taking.{Takes, FailsToTake}
use Rattle.ic_failover.specs.declared.texts.FailoverTexts.{FailoverTexts}
use Rattle.ic_report.specs.Outputs.{if_any, Puts}
use Rattle.ic_run.specs.Running.{Telling, pieces_of, Executed, WasCut, FailsToTell}
use Rattle.ic_run.specs.Tallies.{Counts}
use Rattle.ic_run.specs.declared.running.Cut.{Cut}
use Rattle.ic_run.specs.declared.tally.Tally.{Tally}
use Rattle.ic_settle.specs.Policies.{intervals_of}
use Rattle.ic_world.specs.Allowing.{IsMadeFor}
use Rattle.ic_world.specs.Views.{world_of, is_over}
use Rattle.ic_world.specs.declared.world.World.{World}

abbrev pub note_pieces : ReportLevel → ℕ → Order → Note → List (List ℕ)
note_pieces level number o note = if_any (note_lines level number o note)

abbrev pub intervals_for : FailoverTexts → PolicyIntervals
intervals_for r = intervals_of r.policy

-- the events of a run with a standby are told as those of any run
abbrev pub telling_for : FailoverTexts → Telling
telling_for r = pieces_of r.program r.policy.report

module _ {D : Type 0} {d : disk.Ghosts D} where
  -- a world of a program with a Pcom to stand by for, of as many components as there may be, that goes on
  pub record GoesOn (r : FailoverTexts) (w : World D d) : Type 0 where
    pub few : length r.program.components ≤ COMPONENTS
    pub going : is_over w ≡ false
    pub made : IsMadeFor r.program (world_of w)
    pub pcom : is_a_pcom r.program r.who ≡ true

  -- a shipment or a takeover leads from one world to another; of it this is told
  abbrev pub Acts : FailoverTexts → Order → World D d → Beside → Note → World D d → Beside → Type 0
  Acts r (Run e) old a note new b = ⊥
  Acts r Ship old a note new b = (new ≡ old) × IsAnswered r.program r.who (world_of old) Ship a note b
  Acts r TakeOver old a note new b = Takes r.program r.who old a note new b

-- a moment between two orders
pub record Stage {D : Type 0} (d : disk.Ghosts D) (K : Type 0) : Type 0 where
  pub world : World D d
  pub beside : Beside
  pub tally : Tally
  pub out : K

-- what the code keeps at a moment
abbrev pub stage_of : {D : Type 0} {d : disk.Ghosts D} {K : Type 0} → World D d → Side → Tally → K → Stage d K
stage_of w side tally out = record { world = w; beside = beside_of side; tally = tally; out = out }

module _ {D : Type 0} {d : disk.Ghosts D} {K : Type 0} where
  module _ (k : sink.Ghosts K) (r : FailoverTexts) where
    -- it takes a number of its own, and its line was printed
    pub record IsTold (o : Order) (note : Note) (a b : Stage d K) : Type 0 where
      pub acts : Acts r o a.world a.beside note b.world b.beside
      pub counts : (told : List Trace) → Counts told a.tally → Counts told b.tally
      pub numbered : b.tally.events ≡ suc a.tally.events
      pub printed : Puts k (note_pieces r.policy.report (suc a.tally.events) o note) a.out b.out

    -- an event was done with all that the policy asks for behind it, as a run does it: each outlasts a crash before its lines are put
    pub record Happened (e : Event) (a b : Stage d K) : Type 0 where
      pub executed : Executed k r.program (intervals_for r) (telling_for r) a.tally (whole_agenda (e ∷ []) true) a.world b.world a.out b.out b.tally
      pub same : b.beside ≡ a.beside

    abbrev pub Carries : Order → Stage d K → Stage d K → Type 0
    Carries (Run e) a b = Happened e a b
    Carries Ship a b = (note : Note) × IsTold Ship note a b
    Carries TakeOver a b = (note : Note) × IsTold TakeOver note a b

    -- orders were carried out, each once and in order
    abbrev pub CarriesAll : List Order → Stage d K → Stage d K → Type 0
    CarriesAll [] a b = a ≡ b
    CarriesAll (o ∷ os) a b = (m : Stage d K) × Carries o a m × CarriesAll os m b

    -- all orders were, and unless the run halts what settles was done; so many records were shipped
    pub record WentThrough (a : Stage d K) (new : World D d) (after : K) (shipped : ℕ) (tally : Tally) : Type 0 where
      pub mid : Stage d K
      pub carried : CarriesAll r.orders.orders a mid
      pub settled : Executed k r.program (intervals_for r) (telling_for r) mid.tally (whole_agenda [] r.orders.halts) mid.world new mid.out after tally
      pub all_shipped : shipped ≡ mid.beside.shipped

module _ {D : Type 0} (b : disk.Ghosts D) {d : disk.Ghosts (Torn D)} {K : Type 0} (k : sink.Ghosts K) (r : FailoverTexts) where
  -- a shipment or a takeover was done, and its line wasn't printed
  pub record IsUntold (o : Order) (a : Stage d K) (new : World (Torn D) d) (after : K) (cut : Cut) : Type 0 where
    pub note : Note
    pub beside : Beside
    pub acts : Acts r o a.world a.beside note new beside
    pub fails : FailsToTell k (note_pieces r.policy.report (suc a.tally.events) o note) a.out after cut

  -- why an order isn't carried out
  abbrev pub FailsToCarry : Order → Stage d K → World (Torn D) d → K → Cut → Type 0
  FailsToCarry (Run e) a new after cut = WasCut b k r.program (intervals_for r) (telling_for r) a.tally.events (whole_agenda (e ∷ []) true) a.world new a.out after cut
  FailsToCarry Ship a new after cut = IsUntold Ship a new after cut ⊎ ((after ≡ a.out) × (new ≡ a.world) × FailsToShip r.program r.who (world_of a.world) a.beside.side cut)
  FailsToCarry TakeOver a new after cut = IsUntold TakeOver a new after cut ⊎ ((after ≡ a.out) × FailsToTake b r.program r.who a.world new a.beside cut)

  -- behind some orders a first one isn't carried out
  pub record FailsToCarryAll (a : Stage d K) (new : World (Torn D) d) (after : K) (cut : Cut) : Type 0 where
    pub first : List Order
    pub order : Order
    pub rest : List Order
    pub are : r.orders.orders ≡ first ++ order ∷ rest
    pub mid : Stage d K
    pub carried : CarriesAll k r first a mid
    pub fails : FailsToCarry order mid new after cut

  -- behind all of them what settles wasn't all done, or not all told
  pub record FailsToSettle (a : Stage d K) (new : World (Torn D) d) (after : K) (cut : Cut) : Type 0 where
    pub mid : Stage d K
    pub carried : CarriesAll k r r.orders.orders a mid
    pub cut_off : WasCut b k r.program (intervals_for r) (telling_for r) mid.tally.events (whole_agenda [] r.orders.halts) mid.world new mid.out after cut
