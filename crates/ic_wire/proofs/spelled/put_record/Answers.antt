use Rattle.ic_base.specs.declared.record.Record.TheVariants.{Input, Value, Outcome}
use Rattle.ic_wire.proofs.Fronts.{fits_where}
use Rattle.ic_wire.proofs.spelled.put_record.Goals as goal

pub returns-in-Input-clause-fit : goal.returns-in-Input-clause-fit
returns-in-Input-clause-fit c = fits_where c.put_input.result c.args.stored.now (Input c.in-Input.stamp c.in-Input.handler c.in-Input.args) c.in-Input.is (λ h q. (q, h)) c.requires c.put_input.ensures.fit

pub returns-in-Value-clause-fit : goal.returns-in-Value-clause-fit
returns-in-Value-clause-fit c =
    fits_where c.put_answer.result c.args.stored.now (Value c.in-Value.n c.in-Value.place c.in-Value.session c.in-Value.value) c.in-Value.is (λ h q. (q.0, h.0, q.1, q.2, h.1)) c.requires c.put_answer.ensures.fit

pub returns-in-Outcome-clause-fit : goal.returns-in-Outcome-clause-fit
returns-in-Outcome-clause-fit c =
    fits_where c.put_outcome.result c.args.stored.now (Outcome c.in-Outcome.stamp c.in-Outcome.n c.in-Outcome.abort) c.in-Outcome.is (λ h q. (q.0, q.1, h)) c.requires c.put_outcome.ensures.fit
