use Rattle.std.proofs.Common.{◌≡◌, ◌∙◌, sym}
use Rattle.ic_pcom.specs.declared.stage.Stage.TheVariants.{Replays}
use Rattle.ic_pcom.proofs.Restaged.{rises_as, rises_to_as}
use Rattle.ic_pcom.proofs.restaging.rise.Goals as goal

pub returns-clause-stage : goal.returns-clause-stage
returns-clause-stage c log end =
    let is : c.args.stage.now ≡ Replays c.in-Replays.places c.in-Replays.replay = sym c.replace-old.ensures.value ∙ c.in-Replays.is in
    rises_as c.args.stage.now c.in-Replays.places c.in-Replays.replay c.fed_to-new.result.0 is (c.fed_to-new.ensures.stage log end)

pub returns-clause-told : goal.returns-clause-told
returns-clause-told c log end =
    let is : c.args.stage.now ≡ Replays c.in-Replays.places c.in-Replays.replay = sym c.replace-old.ensures.value ∙ c.in-Replays.is in
    rises_to_as c.args.«com» log c.args.stage.now c.in-Replays.places c.in-Replays.replay c.fed_to-new.result.0 c.fed_to-new.result.1 is (c.fed_to-new.ensures.fed log end) (c.fed_to-new.ensures.told log end)
