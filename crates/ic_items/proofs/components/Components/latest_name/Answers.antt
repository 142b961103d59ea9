use Rattle.std.proofs.Common.{ap, sym}
use Rattle.def_syntax.specs.Scope.{Declared}
use Rattle.ic_items.proofs.Latest.{table_last, table_empty}
use Rattle.ic_items.proofs.components.Components.latest_name.Goals as goal

pub returns-in-Some : goal.returns-in-Some
returns-in-Some c = sym (ap (λ (d : Declared). d.name) (table_last c.self.inside.table _ c.self.view_is _ c.in-Some.ensures))

pub returns-in-None : goal.returns-in-None
returns-in-None c = sym (ap (λ (d : Declared). d.name) (table_empty c.self.inside.table _ c.self.view_is c.in-None.ensures))
