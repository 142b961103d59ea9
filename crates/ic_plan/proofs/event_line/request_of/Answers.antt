use Rattle.std.proofs.Common.{ap, sym, ◌∙◌, ◌-◌, length, drop, arith}
use Rattle.std.specs.Prelude.{option_map}
use Rattle.std.proofs.lemmas.List.{take_all, length-drop}
use Rattle.def_syntax.specs.Schedule.{values_then_stop}
use Rattle.ic_tokens.specs.Views.{seen_tokens}
use Rattle.ic_plan.specs.RawEvent.{values_seen}
use Rattle.ic_plan.proofs.Values.{request_split}
use Rattle.ic_plan.proofs.event_line.request_of.Goals as goal

pub returns-in_ok-values-in-len4-up : goal.returns-in_ok-values-in-len4-up
returns-in_ok-values-in-len4-up c =
    let ts = c.args.tokens.now in
    let all = take_all (length ts - 4) (drop 4 ts) (omega (arith, length-drop 4 ts)) in
    sym (request_split c.args.line.now c.args.tokens.now _ _ _ _ _ c.in-len4-up.len_at_least (sym (c.is_count.ensures c.args.line.now) ∙ c.if-not-is_count.false) (sym (c.is_count-else-not-is_count.ensures c.args.line.now) ∙ c.if-not-is_count-2.false)
    (sym c.name_in.ensures ∙ ap (option_map (λ n. n.now)) c.in_ok-com-in-len4-up.was) (sym c.name_in-in-len4-up.ensures ∙ ap (option_map (λ n. n.now)) c.in_ok-handler-in-len4-up.was)
    (ap (λ l. values_then_stop (seen_tokens c.args.line.now l)) (sym all) ∙ sym c.values_stop.ensures ∙ ap (option_map (λ x. (values_seen x.0.now, x.1))) c.in_ok-values-in-len4-up.was))
