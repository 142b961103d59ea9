use Rattle.iclive.proofs.call.live_named.Goals as goal

pub live_texts-requires-clause-lane : goal.live_texts-requires-clause-lane
live_texts-requires-clause-lane g c κs within = c.in-Ok.ensures.range.lane.0
