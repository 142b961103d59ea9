use Rattle.std.proofs.Common.{◌∙◌, ap, sym, map}
use Rattle.def_syntax.specs.Scope.{Declared, Scope, is_in}
use Rattle.ic_items.proofs.New.{is_in-reverse}
use Rattle.ic_items.proofs.scope.Scope.note_component.Goals as goal

pub add-requires-clause-new : goal.add-requires-clause-new
add-requires-clause-new c =
    sym (is_in-reverse c.args.name c.self.inside.components) ∙ ap (λ (s : Scope). is_in c.args.name (map (λ (d : Declared). d.name) s.components)) c.self.view_is ∙ c.requires.new
