use Rattle.std.proofs.Common.{◌∙◌, ap, sym, true, false}
use Rattle.def_syntax.specs.Names.{is_kind}
use Rattle.ic_items.proofs.Latest.{found_there, found_none}
use Rattle.ic_items.proofs.components.Components.find.Goals as goal

pub returns-in_default : goal.returns-in_default
returns-in_default c = found_none c.args.kind c.args.name.now c.self.inside.table _ c.self.view_is c.in_default.ensures.value

pub returns-then-is_kind : goal.returns-then-is_kind
returns-then-is_kind c =
    found_there c.args.kind c.args.name.now c.self.inside.table _ c.self.view_is c.in-Some.i c.in-Some.declared.now true c.in-Some.ensures.place c.in-Some.ensures.value
    (ap (is_kind c.args.kind) (sym c.kind.ensures) ∙ sym c.is_kind.ensures ∙ c.if-is_kind.true)

pub returns-else-is_kind : goal.returns-else-is_kind
returns-else-is_kind c =
    found_there c.args.kind c.args.name.now c.self.inside.table _ c.self.view_is c.in-Some.i c.in-Some.declared.now false c.in-Some.ensures.place c.in-Some.ensures.value
    (ap (is_kind c.args.kind) (sym c.kind.ensures) ∙ sym c.is_kind.ensures ∙ c.if-is_kind.false)
