use Rattle.std.proofs.Common.{◌∙◌, ap, sym, ◌+◌, ◌<◌, ◌++◌, List, length, get_or, drop, arith}
use Rattle.std.proofs.lemmas.List.{drop_more}
use Rattle.ic_base.specs.declared.scenario.Component.{Component}
use Rattle.ic_migrate.specs.Logged.{with_logged, logged}
use Rattle.ic_migrate.proofs.Components.{one_more, no_more}
use Rattle.ic_migrate.proofs.logged.components_with_logs.Goals as goal

pub loop-i-init : goal.loop-i-init
loop-i-init c = sym (ap (λ l. l ++ logged 0 c.args.program.now.components) c.new-coms.ensures.items)

pub overflow_cast-i : goal.overflow_cast-i
overflow_cast-i c = omega (arith, c.loop-i-test.true, ap length c.as_slice-components.ensures, c.requires)

pub loop-i-preserved : goal.loop-i-preserved
loop-i-preserved c =
    let xs = c.args.program.now.components in
    let i = c.loop-i.i in
    let other = c.index-components-i.result in
    let x : Component = get_or xs i other in
    let coms = c.loop-i.coms.items in
    let rest = logged (i + 1) (drop (i + 1) xs) in
    let lt : i < length xs = omega (arith, c.loop-i-test.true, ap length c.as_slice-components.ensures) in
    c.loop-i.invariant
    ∙ ap (λ (l : List Component). coms ++ logged i l) (drop_more xs i other lt)
    ∙ one_more coms i x (drop (i + 1) xs)
    ∙ ap (λ (l : List Component). with_logged (get_or l i other).kind (record { 0 = i }) coms ++ rest) (sym c.as_slice-components.ensures)
    ∙ ap (λ l. l ++ rest) (sym c.in_ok-push_logged.ensures)

pub returns : goal.returns
returns c = sym (c.loop-i.invariant ∙ no_more c.loop-i.coms.items c.loop-i.i c.args.program.now.components (omega (arith, c.loop-i.auto.i-end, c.loop-i-test.false, ap length c.as_slice-components.ensures)))
