use Rattle.std.proofs.Common.{◌≡◌, ◌++◌, take, map}
use Rattle.ic_gate.specs.Encoding.{kind_of}
use Rattle.ic_gate.proofs.encoded.push_kinds.Given as goal

abbrev pub invariant-loop-stored : goal.invariant-loop-stored
invariant-loop-stored l = l.kinds ≡ l.initial.kinds ++ map kind_of (take l.stored-index l.records)
