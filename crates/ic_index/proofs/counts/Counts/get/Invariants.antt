use Rattle.std.proofs.Common.{◌≡◌, drop}
use Rattle.def_state.specs.Names.{number_of}
use Rattle.ic_index.proofs.counts.Counts.get.Given as goal

abbrev pub invariant-loop-c : goal.invariant-loop-c
invariant-loop-c l = number_of 0 (drop l.c-index l.self.seen) l.com ≡ number_of 0 l.self.seen l.com
