use Rattle.std.proofs.Common.{◌≡◌, [], ◌++◌, ◌∷◌, length, take}
use Rattle.std.specs.Prelude.{FitsSigned}
use Rattle.std.specs.List.{AllByRecursion, flat_map}
use Rattle.std.specs.Int.{w64}
use Rattle.def_log.specs.Spelling.{value}
use Rattle.ic_wire.proofs.parts.put_args.Given as goal

abbrev pub invariant-loop-i : goal.invariant-loop-i
invariant-loop-i l = (l.out.items ≡ l.fn.out.items ++ (length l.values ∷ []) ++ flat_map value (take l.i l.values)) × AllByRecursion (FitsSigned w64) (take l.i l.values)
