use Rattle.std.proofs.Common.{ap}
use Rattle.ic_items.specs.Contents.{content_of}
use Rattle.ic_items.proofs.Latest.{table_last, table_empty}
use Rattle.ic_items.proofs.components.Components.latest.Goals as goal

pub returns-in-Some : goal.returns-in-Some
returns-in-Some c = ap content_of (table_last c.self.inside.table _ c.self.view_is _ c.in-Some.ensures)

pub returns-in-None : goal.returns-in-None
returns-in-None c = table_empty c.self.inside.table _ c.self.view_is c.in-None.ensures
