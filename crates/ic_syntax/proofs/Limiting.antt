-- The program of a scenario is within the limits.
use Rattle.std.proofs.lemmas.List.Elements.{All-weaker}
use Rattle.std.proofs.Common.{List, ℕ}
use Rattle.ic_base.specs.declared.scenario.Component.{Component}
use Rattle.ic_base.specs.declared.scenario.Program.{Program}
use Rattle.def_syntax.specs.Scenario.{IsScenario}
use Rattle.def_syntax.specs.Bounds.{IsLimited}
use Rattle.def_syntax.proofs.Limits.{keeps_limits}
use Rattle.ic_syntax.specs.Limits.{IsSmall, IsWithin}

small : (c : Component) → IsLimited c → IsSmall c
small c l = record { vars = l.vars; keys = l.keys; handlers = l.handlers; params = l.params }

pub is_within : (text : List ℕ) (p : Program) → IsScenario text p → IsWithin p
is_within text p e = let l = keeps_limits text p e in record { components = l.components; each = All-weaker IsLimited IsSmall small p.components l.each }
