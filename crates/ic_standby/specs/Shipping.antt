-- What a shipment comes to, and why it is refused.
use Rattle.std.specs.Prelude.{◌≡◌, ℕ, ◌<◌, ⊤, List, length, Some, None}
use Rattle.ic_base.specs.declared.messages.ComId.{ComId}
use Rattle.ic_base.specs.declared.record.Record.{Record}
use Rattle.ic_base.specs.declared.scenario.Program.{Program}
use Rattle.def_state.specs.Hist.{Contents}
use Rattle.def_standby.specs.Standbys.{Standby, play_all, stops_at, shipping, shipped_to}
use Rattle.def_standby.specs.declared.shipped.Shipped.{Shipped}
use Rattle.def_standby.specs.declared.shipped.Shipped.TheVariants.{Applied, Early, Again, Missing}
use Rattle.ic_replay.specs.declared.refusals.ReplayRefused.{ReplayRefused}
use Rattle.ic_replay.specs.declared.refusals.ReplayRefused.TheVariants.{Misfit, Memory}

-- the records were played, or the standby is as it was
abbrev pub LeavesStandby : Program → ComId → Contents → Standby → List Record → Shipped → Standby → Type 0
LeavesStandby program c contents old records Applied new = shipped_to program c contents old records ≡ Some new
LeavesStandby program c contents old records (Early have) new = new ≡ old
LeavesStandby program c contents old records (Again have) new = new ≡ old
LeavesStandby program c contents old records (Missing from k) new = new ≡ old

-- records, of which so many stand before the first, are shipped
pub record Ships (program : Program) (c : ComId) (contents : Contents) (old : Standby) (first : ℕ) (records : List Record) (answer : Shipped) (new : Standby) : Type 0 where
  pub answers : answer ≡ shipping contents old first records
  pub leaves : LeavesStandby program c contents old records answer new

-- why they aren't: one of them is a misfit, the first at this place among them
abbrev pub FailsToShip : Program → ComId → Contents → Standby → ℕ → List Record → ReplayRefused → Type 0
FailsToShip program c contents s first records (Misfit i) =
    (shipping contents s first records ≡ Applied) × (play_all program c contents s.state records ≡ None) × (stops_at program c contents s.state records ≡ Some i) × (i < length records)
FailsToShip program c contents s first records Memory = ⊤
