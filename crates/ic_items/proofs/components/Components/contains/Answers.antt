use Rattle.std.proofs.Common.{◌∙◌, ap, sym, map}
use Rattle.def_syntax.specs.Scope.{Declared, is_in}
use Rattle.ic_items.proofs.Latest.{names_in}
use Rattle.ic_items.proofs.components.Components.contains.Goals as goal

pub returns : goal.returns
returns c = c.contains.ensures ∙ ap (is_in c.args.name.now) (sym (names_in c.self.inside.table) ∙ ap (map (λ (d : Declared). d.name)) c.self.view_is)
