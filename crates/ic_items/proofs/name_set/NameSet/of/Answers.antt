use Rattle.std.proofs.Common.{◌++◌, ◌∙◌, ap, sym}
use Rattle.def_syntax.specs.Scope.{has_twice}
use Rattle.ic_items.proofs.Twice.{each_new}
use Rattle.ic_items.proofs.name_set.NameSet.of.Goals as goal

pub add-requires : goal.add-requires
add-requires c =
    each_new c.loop-name.set c.next.new.self.rest.items c.in-Some.name
    (ap (λ ns. has_twice (c.loop-name.set ++ ns)) (sym c.in-Some.ensures.steps.0) ∙ ap has_twice c.loop-name.invariant ∙ c.requires)
