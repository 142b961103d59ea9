use Rattle.std.proofs.Common.{◌≡◌, take, map}
use Rattle.def_plain.specs.Plain.{first_of_kind}
use Rattle.ic_model.proofs.running.first_world.Given as goal

abbrev pub invariant-loop-component : goal.invariant-loop-component
invariant-loop-component l = l.world ≡ map (λ x. first_of_kind x.kind x) (take l.component-index l.program.components)
