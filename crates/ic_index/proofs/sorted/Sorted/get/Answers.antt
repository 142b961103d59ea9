use Rattle.std.proofs.Common.{◌∙◌, sym, ap, option_map}
use Rattle.ic_index.proofs.Searching.{value-at_place, value-nowhere}
use Rattle.ic_index.proofs.sorted.Sorted.get.Goals as goal

pub returns-then-not-is_at : goal.returns-then-not-is_at
returns-then-not-is_at g c = sym (value-nowhere (record { peer = c.args.peer; k = c.args.k }) c.args.self.now.seen c.place-i.result c.place-i.ensures.in_order c.place-i.ensures.before (cc))

pub returns-in-Some : goal.returns-in-Some
returns-in-Some g c =
    let kept = value-at_place (record { peer = c.args.peer; k = c.args.k }) c.args.self.now.seen c.place-i.result c.place-i.ensures.before (cc) in
    sym (kept ∙ ap (option_map (λ e. e.value)) (sym c.at.ensures ∙ c.in-Some.is))
