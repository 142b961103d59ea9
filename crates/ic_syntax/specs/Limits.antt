-- What a program has no more of than the limits of scenarios allow.
use Rattle.std.specs.Prelude.{◌≤◌, length, All}
use Rattle.ic_base.specs.declared.limits.TheConstants.{COMPONENTS, HANDLERS, KEYS, VALUES, VARIABLES}
use Rattle.ic_base.specs.declared.scenario.Component.{Component}
use Rattle.ic_base.specs.declared.scenario.Handler.{Handler}
use Rattle.ic_base.specs.declared.scenario.Program.{Program}

pub record IsSmall (c : Component) : Type 0 where
  pub vars : length c.vars ≤ VARIABLES
  pub keys : length c.keys ≤ KEYS
  pub handlers : length c.handlers ≤ HANDLERS
  pub params : All (λ (h : Handler). h.params ≤ VALUES) c.handlers

pub record IsWithin (p : Program) : Type 0 where
  pub components : length p.components ≤ COMPONENTS
  pub each : All IsSmall p.components
