-- What was decided of a call at a component that is up, and prepared for its records.
use Rattle.std.specs.Prelude.{◌≡◌, ◌<◌, [], length, IfSome, IsTrue}
use Rattle.ic_base.specs.declared.scenario.Program.{Program}
use Rattle.def_state.specs.Vol.{Vol}
use Rattle.def_step.specs.Pcom.{Call, decide, absorb_choice}
use Rattle.ic_disk.specs.declared.disk.Disk.{Ghosts}
use Rattle.ic_pcom.specs.Effects.{effects_of}
use Rattle.ic_pcom.specs.declared.effects.Effects.{Effects}
use Rattle.ic_gate.specs.RecordLogs.{records_of}
use Rattle.ic_replay.specs.Applying.{TakesNew}
use Rattle.ic_replay.specs.Preparing.{has_place}
use Rattle.ic_replay.specs.declared.prepared.Prepared.{Prepared}
use Rattle.ic_pcom.specs.Carrying.{absorbed, last_in, led}
use Rattle.ic_pcom.specs.Views.{component_of, com_of}
use Rattle.ic_pcom.specs.declared.pcom.Pcom.{Pcom}
use Rattle.ic_pcom.specs.declared.plan.Plan.{Plan}
use Rattle.ic_pcom.specs.declared.plan.Plan.TheVariants.{Adds, AddsNone}

module _ {D : Type 0} {d : Ghosts D} where
  -- it is what the definition decides, and its records, added one by one, lead to the state that was prepared
  pub record IsDecided (program : Program) (p : Pcom D d) (call : Call) (e : Effects) (prepared : Prepared) : Type 0 where
    pub decides : decide program (com_of p) (component_of p) call ≡ effects_of e
    pub leads : absorb_choice program (com_of p) (effects_of e) (component_of p) ≡ absorbed (component_of p) e.adds (led (com_of p) prepared (records_of p.log) (component_of p).vol e.adds)

  -- the plan is what the definition decides
  abbrev pub IsPlanned : Program → Pcom D d → Call → Plan → Type 0
  IsPlanned program p call (Adds e prepared) = IsDecided program p call e prepared
  IsPlanned program p call (AddsNone e) = decide program (com_of p) (component_of p) call ≡ effects_of e

-- the step adds records, of which the last one may be applied in this state
pub record IsReady (v : Vol) (e : Effects) : Type 0 where
  pub some : 0 < length e.adds
  pub new : IfSome (last_in e.adds) (TakesNew v)
  pub place : IfSome (last_in e.adds) (λ r. IsTrue (has_place v r))

-- the plan may be followed in this state
abbrev pub MayFollow : Vol → Plan → Type 0
MayFollow v (Adds e prepared) = IsReady v e
MayFollow v (AddsNone e) = e.adds ≡ []
