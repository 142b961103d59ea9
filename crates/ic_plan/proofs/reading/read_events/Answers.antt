use Rattle.ic_plan.proofs.Refusals.{long-schedule}
use Rattle.ic_plan.specs.Verbs.{forms_for}
use Rattle.ic_plan.proofs.reading.read_events.Goals as goal

pub returns-in-Err-TooLong-clause-refused : goal.returns-in-Err-TooLong-clause-refused
returns-in-Err-TooLong-clause-refused g c tells = long-schedule (forms_for c.args.inputs) c.args.program.now (g.T.Texts.held c.args.texts.now) c.args.name.now (c.read.ensures.too_long tells (cc))
