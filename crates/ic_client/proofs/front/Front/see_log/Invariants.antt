use Rattle.std.proofs.Common.{◌≡◌, drop, fold}
use Rattle.def_state.specs.Hist.{number_outputs}
use Rattle.ic_client.specs.Rebuilding.{saw_first_record}
use Rattle.ic_client.proofs.front.Front.see_log.Given as goal

abbrev pub invariant-loop-told : goal.invariant-loop-told
invariant-loop-told l =
    fold (saw_first_record l.fn.c (number_outputs 1 l.fn.outs)) l.self.taken (drop l.told-index l.fn.log) ≡ fold (saw_first_record l.fn.c (number_outputs 1 l.fn.outs)) l.fn.self.taken l.fn.log
