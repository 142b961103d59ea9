use Rattle.ic_plan.specs.CommandViews.{names_seen}
use Rattle.ic_failover.proofs.AskedRest.{asked_scene, asked_rest}
use Rattle.ic_failover.proofs.reading.read_failover.Goals as goal

pub returns-in_default-clause-asked : goal.returns-in_default-clause-asked
returns-in_default-clause-asked g c = asked_scene (names_seen c.args.names) _ _ (c.in-Ok.ensures.all_asked)

pub returns-in-Ok-read_rest-clause-asked : goal.returns-in-Ok-read_rest-clause-asked
returns-in-Ok-read_rest-clause-asked g c = asked_rest (names_seen c.args.names) _ _ _ (c.in-Ok.ensures.all_asked) c.read_rest.ensures.asked

pub returns-in-Err-read_rest-clause-asked : goal.returns-in-Err-read_rest-clause-asked
returns-in-Err-read_rest-clause-asked g c = asked_rest (names_seen c.args.names) _ _ _ (c.in-Ok.ensures.all_asked) c.read_rest.ensures.asked
