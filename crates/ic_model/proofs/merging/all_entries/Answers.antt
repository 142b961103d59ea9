use Rattle.std.proofs.Common.{◌∙◌, ◌≤◌, ◌⊎◌, ap, sym, arith, ◌++◌, length}
use Rattle.std.proofs.lemmas.List.{append-nil}
use Rattle.ic_model.proofs.Several.{none_left}
use Rattle.ic_model.proofs.merging.all_entries.Goals as goal

pub returns : goal.returns
returns c =
    let i = c.loop-i.i in
    let xs = c.args.program.now.components in
    let logs = c.args.logs.now.items in
    let past : (length xs ≤ i) ⊎ (length logs ≤ i) = grind (arith, c.loop-i-test.false, c.min-count.ensures, c.len.ensures, ap length c.as_slice-components.ensures) in
    sym (append-nil c.loop-i.entries) ∙ ap (λ l. c.loop-i.entries ++ l) (sym (none_left i xs logs past)) ∙ c.loop-i.invariant
