use Rattle.std.proofs.Common.{◌∙◌, ap, rules}
use Rattle.std.proofs.lemmas.Fn.{always_returns_same}
use Rattle.def_plain.specs.History.{is_before, in_order}
use Rattle.def_plain.proofs.Before.{before_order}
use Rattle.def_plain.proofs.Orders.{in_order_only}
use Rattle.ic_model.proofs.Several.{in_history_order}
use Rattle.ic_model.proofs.merging.history.Goals as goal

pub returns : goal.returns
returns c =
    let stable = c.sort_by.ensures.stable is_before before_order (always_returns_same _ _ _ (λ a r f k. search rules)) in
    let ordered = c.in_ok-sort_by.ensures.sorted is_before before_order (always_returns_same _ _ _ (λ a r f k. search rules)) in
    c.from_vec.ensures ∙ in_order_only is_before before_order c.into_vec-entries.result.items c.sort_by.new.self.items (in_history_order c.sort_by.new.self.items ordered) stable
    ∙ ap (in_order is_before) (c.into_vec-entries.ensures ∙ c.in_ok-all_entries.ensures)
