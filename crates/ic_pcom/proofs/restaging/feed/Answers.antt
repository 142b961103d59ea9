use Rattle.std.proofs.Common.{subst, ◌+◌, ◌≤◌, length}
use Rattle.ic_pcom.specs.Stages.{before_of, rest_of, places_in}
use Rattle.ic_pcom.specs.declared.stage.Stage.{Stage}
use Rattle.ic_pcom.proofs.Restaged.{is_fed, is_misfit}
use Rattle.ic_pcom.proofs.restaging.feed.Goals as goal

pub returns-in-Ok-clause-fed : goal.returns-in-Ok-clause-fed
returns-in-Ok-clause-fed g c =
    is_fed c.args.program.now c.args.msg c.args.stage.now c.in-Replays.places c.in-Replays.replay c.feed.new.self c.in-Replays.is (c.in-Ok.ensures {u = tt}).fed

pub returns-in-Err-Misfit-clause-refused : goal.returns-in-Err-Misfit-clause-refused
returns-in-Err-Misfit-clause-refused g c =
    let Many : Stage → Type 0 = λ s. before_of s + length (rest_of s) ≤ length (places_in s) in
    rw c.from-place.ensures (is_misfit c.args.program.now c.args.msg c.args.stage.now c.in-Replays.places c.as_slice.result.now c.in-Replays.replay c.feed.new.self c.in-Err-Misfit.field-0 c.in-Err-Misfit.i c.empty_state.result c.in-Replays.is c.as_slice.ensures
    (subst Many c.in-Replays.is c.requires.places) c.in-Err-Misfit.field-0-is (c.in-Err-Misfit.ensures {u = tt}).refused c.empty_state.ensures.limits c.empty_state.ensures.peers)
