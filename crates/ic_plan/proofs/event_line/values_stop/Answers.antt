use Rattle.std.proofs.Common.{ap, sym, ◌∙◌}
use Rattle.std.specs.Prelude.{option_map}
use Rattle.ic_plan.specs.RawEvent.{values_seen}
use Rattle.ic_plan.proofs.Values.{with_stop, values_cut}
use Rattle.ic_plan.proofs.event_line.values_stop.Goals as goal

pub returns-in-Some : goal.returns-in-Some
returns-in-Some c =
    let e = values_cut c.args.line.now c.args.tokens.now _ _ c.count_of_numbers.result c.count_of_numbers.ensures.place c.split_at.ensures.front c.split_at.ensures.back in
    sym (e ∙ ap (option_map (with_stop (values_seen c.split_at.result.0.now))) (sym c.in-Some.ensures))

pub returns-in-None : goal.returns-in-None
returns-in-None c =
    let e = values_cut c.args.line.now c.args.tokens.now _ _ c.count_of_numbers.result c.count_of_numbers.ensures.place c.split_at.ensures.front c.split_at.ensures.back in
    sym (e ∙ ap (option_map (with_stop (values_seen c.split_at.result.0.now))) (sym c.in-None.ensures))
