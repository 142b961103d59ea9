use Rattle.std.proofs.Common.{◌∙◌, ap, sym, map}
use Rattle.def_syntax.specs.Scope.{Declared, Scope, is_in}
use Rattle.ic_items.proofs.New.{is_in-reverse}
use Rattle.ic_items.proofs.scope.Scope.is_component.Goals as goal

pub returns : goal.returns
returns c =
    c.contains.ensures ∙ sym (is_in-reverse c.args.name.now c.self.inside.components) ∙ ap (λ (s : Scope). is_in c.args.name.now (map (λ (d : Declared). d.name) s.components)) c.self.view_is
