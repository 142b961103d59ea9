use Rattle.std.proofs.Common.{◌≡◌, drop}
use Rattle.std.specs.Prelude.{flat_map}
use Rattle.def_syntax.specs.Text.{look_up}
use Rattle.def_syntax.specs.Scope.{Frame, locals_of}
use Rattle.ic_items.proofs.scope.Scope.local.Given as goal

abbrev pub invariant-loop-i : goal.invariant-loop-i
invariant-loop-i l = look_up l.name (flat_map (λ (f : Frame). f.locals) (drop l.i l.self.frames)) ≡ look_up l.name (locals_of l.self)
