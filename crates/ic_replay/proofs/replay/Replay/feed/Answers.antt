use Rattle.std.proofs.Common.{arith}
use Rattle.std.proofs.lemmas.Grind.{common_steps}
use Rattle.std.proofs.lemmas.List.{drop_all}
use Rattle.std.proofs.lemmas.Option.{slice_get_past}
use Rattle.ic_replay.proofs.replay.Replay.feed.Goals as goal

pub invariant_of-self-in-Err-Misfit : goal.invariant_of-self-in-Err-Misfit
invariant_of-self-in-Err-Misfit g c = grind (arith, common_steps, drop_all, slice_get_past)
