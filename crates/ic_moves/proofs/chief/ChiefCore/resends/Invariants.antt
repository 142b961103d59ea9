use Rattle.std.proofs.Common.{◌≡◌, take, flat_map}
use Rattle.def_two.specs.Chief.{sends_again, ruling_of}
use Rattle.ic_moves.specs.Chiefs.{docket_of, heard_of}
use Rattle.ic_moves.proofs.chief.ChiefCore.resends.Given as goal

abbrev pub invariant-loop-m : goal.invariant-loop-m
invariant-loop-m l = l.puts ≡ flat_map (λ m. sends_again (heard_of l.self) m (ruling_of (docket_of l.self) m.n)) (take l.m-index l.self.begun.items)
