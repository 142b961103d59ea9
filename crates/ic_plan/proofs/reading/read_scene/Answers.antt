use Rattle.ic_plan.proofs.Refusals.{long-scenario}
use Rattle.ic_plan.proofs.reading.read_scene.Goals as goal

pub returns-in-Err-TooLong-clause-refused : goal.returns-in-Err-TooLong-clause-refused
returns-in-Err-TooLong-clause-refused g c tells = long-scenario (g.T.Texts.held c.args.texts.now) c.args.name.now (c.read.ensures.too_long tells (cc))
