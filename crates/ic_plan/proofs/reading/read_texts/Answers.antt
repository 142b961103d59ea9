use Rattle.std.proofs.Common.{refl}
use Rattle.ic_plan.specs.CommandViews.{names_seen}
use Rattle.ic_plan.proofs.Asked.{asked-two, all-of-two, all-of-three, asked-all}
use Rattle.ic_plan.proofs.reading.read_texts.Goals as goal
use Rattle.ic_plan.proofs.reading.read_texts.Goals.{in-None, in-Some+in_ok-policy-in-Some}

pub returns-in_err-schedule-clause-asked : goal.returns-in_err-schedule-clause-asked
returns-in_err-schedule-clause-asked g c = asked-two (names_seen c.args.names) _ _ _ c.read_scene.ensures.asked c.read_events.ensures.asked

pub returns-in_err-policy-in-Some-clause-asked : goal.returns-in_err-policy-in-Some-clause-asked
returns-in_err-policy-in-Some-clause-asked g c =
    asked-all (names_seen c.args.names) _ _ (all-of-three (names_seen c.args.names) c.in-Some.name.now _ _ _ _ (rw c.in-Some.is refl) c.read_scene.ensures.asked c.read_events.ensures.asked c.read_pace.ensures.asked)

pub returns-clause-all_asked : goal.returns-clause-all_asked
returns-clause-all_asked g c = elim c.match-names.branch [
  | in-None w ↦ all-of-two (names_seen c.args.names) _ _ _ (rw w.in-None.is refl) c.read_scene.ensures.asked (rw w.texts-is c.read_events.ensures.asked)
  | in-Some+in_ok-policy-in-Some w ↦
      all-of-three (names_seen c.args.names) w.in-Some.name.now _ _ _ _ (rw w.in-Some.is refl) c.read_scene.ensures.asked c.read_events.ensures.asked (rw w.texts-is w.read_pace.ensures.asked)
]

pub returns-clause-asked : goal.returns-clause-asked
returns-clause-asked g c = asked-all (names_seen c.args.names) _ _ (returns-clause-all_asked g c)
