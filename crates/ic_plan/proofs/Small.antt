-- The program of a scenario is one of which a schedule may speak.
use Rattle.std.proofs.lemmas.List.Elements.{All-weaker}
use Rattle.std.proofs.Common.{◌≤◌, length, All}
use Rattle.ic_base.specs.declared.scenario.Component.{Component}
use Rattle.ic_base.specs.declared.scenario.Handler.{Handler}
use Rattle.ic_base.specs.declared.scenario.Program.{Program}
use Rattle.def_syntax.specs.Allowed as plan
use Rattle.ic_syntax.specs.Limits.{IsSmall, IsWithin}

pub is_small : (p : Program) → IsWithin p → plan.IsSmall p
is_small p w = record {
  components = w.components;
  handlers = All-weaker IsSmall (λ (c : Component). length c.handlers ≤ 64) (λ c s. s.handlers) p.components w.each;
  params = All-weaker IsSmall (λ (c : Component). All (λ (h : Handler). h.params ≤ 8) c.handlers) (λ c s. s.params) p.components w.each;
}
