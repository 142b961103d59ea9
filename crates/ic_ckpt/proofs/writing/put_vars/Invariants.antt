use Rattle.std.proofs.Common.{◌≡◌, ◌∷◌, ◌++◌, length, take}
use Rattle.std.specs.List.{flat_map}
use Rattle.def_log.specs.Spelling.{value}
use Rattle.ic_ckpt.proofs.writing.put_vars.Given as goal

abbrev pub invariant-loop-x : goal.invariant-loop-x
invariant-loop-x l = l.out.items ≡ l.fn.out.items ++ length l.vars ∷ flat_map value (take l.x-index l.vars)
