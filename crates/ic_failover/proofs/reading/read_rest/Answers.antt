use Rattle.std.proofs.Common.{refl}
use Rattle.std.specs.Prelude.{option_map}
use Rattle.ic_plan.proofs.AskedServed.{all-of-one, all-served, asked-served}
use Rattle.ic_failover.proofs.reading.read_rest.Goals as goal
use Rattle.ic_failover.proofs.reading.read_rest.Goals.{in-None, in-Some+in_ok-policy-in-Some}

pub returns-in_err-policy-in-Some-clause-asked : goal.returns-in_err-policy-in-Some-clause-asked
returns-in_err-policy-in-Some-clause-asked g c =
    asked-served c.args.names.schedule.now (option_map (λ w. w.now) c.args.names.policy) _ _
    (all-served c.args.names.schedule.now c.in-Some.name.now (option_map (λ w. w.now) c.args.names.policy) _ _ _ (rw c.in-Some.is refl) c.read_orders.ensures.asked c.read_pace.ensures.asked)

pub returns-clause-asked : goal.returns-clause-asked
returns-clause-asked g c = elim c.match-names.branch [
  | in-None w ↦
      asked-served c.args.names.schedule.now (option_map (λ w. w.now) c.args.names.policy) _ _
      (all-of-one c.args.names.schedule.now (option_map (λ w. w.now) c.args.names.policy) _ _ (rw w.in-None.is refl) (rw w.texts-is c.read_orders.ensures.asked))
  | in-Some+in_ok-policy-in-Some w ↦
      asked-served c.args.names.schedule.now (option_map (λ w. w.now) c.args.names.policy) _ _
      (all-served c.args.names.schedule.now w.in-Some.name.now (option_map (λ w. w.now) c.args.names.policy) _ _ _ (rw w.in-Some.is refl) c.read_orders.ensures.asked (rw w.texts-is w.read_pace.ensures.asked))
]
