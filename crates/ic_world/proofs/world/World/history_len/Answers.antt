use Rattle.std.proofs.Common.{◌≡◌, ◌∙◌, sym, ap, ◌+◌, ◌<◌, ◌≤◌, min, length, drop, get_or, arith}
use Rattle.def_plain.specs.History.{is_before, entries_from, log_entries}
use Rattle.def_run.specs.Reports.{log_of_node, logs_of}
use Rattle.ic_node.specs.Views.{node_of}
use Rattle.ic_world.specs.Views.{world_of}
use Rattle.ic_world.proofs.Histories.{ordered_long, one_more, log_there, logs_long, none_left}
use Rattle.ic_world.proofs.world.World.history_len.Goals as goal

pub loop-i-preserved : goal.loop-i-preserved
loop-i-preserved g c =
    let xs = c.args.program.now.components in
    let ys = c.args.self.now.components.items in
    let i = c.loop-i.i in
    let x = c.index-declared-i.result in
    let y = c.index.result.now in
    let declared : c.as_slice-declared.result.now ≡ xs = c.as_slice-declared.ensures in
    let below : i < min (length c.as_slice-declared.result.now) c.len.result = omega (arith, c.loop-i-test.true, c.min-count.ensures) in
    let few : i < length xs = omega (arith, below, ap length declared) in
    let less : i < length (logs_of (world_of c.args.self.now)) = omega (arith, below, c.len.ensures, logs_long (λ z. node_of z) log_of_node ys) in
    let at : x ≡ get_or xs i x = c.index-declared-i.is ∙ ap (λ l. get_or l i x) declared in
    let more = c.count_entries-more.ensures (record { 0 = i }) ∙ ap (λ z. length (log_entries z.kind (record { 0 = i }) (log_of_node (node_of y)))) (sym c.index-declared-i.is) in
    let sum = (c.in-Some.ensures {u = tt}).1 in
    one_more i c.loop-i.n c.count_entries-more.result c.in-Some.sum (length (entries_from 0 xs (logs_of (world_of c.args.self.now)))) xs (logs_of (world_of c.args.self.now)) x (log_of_node (node_of y)) few less at
    (log_there (λ z. node_of z) log_of_node ys i y c.index.ensures) c.loop-i.invariant more sum

pub returns : goal.returns
returns g c =
    let xs = c.args.program.now.components in
    let ys = c.args.self.now.components.items in
    let i = c.loop-i.i in
    let logs = logs_of (world_of c.args.self.now) in
    let declared : c.as_slice-declared.result.now ≡ xs = c.as_slice-declared.ensures in
    let past : min (length xs) (length logs) ≤ i = omega (arith, c.loop-i-test.false, c.min-count.ensures, c.len.ensures, ap length declared, logs_long (λ z. node_of z) log_of_node ys) in
    let none : length (entries_from i (drop i xs) (drop i logs)) ≡ 0 = ap length (none_left i xs logs past) in
    let all : c.loop-i.n ≡ length (entries_from 0 xs logs) = let counted = c.loop-i.invariant in omega (arith, counted, none) in
    all ∙ sym (ordered_long is_before (entries_from 0 xs logs))
