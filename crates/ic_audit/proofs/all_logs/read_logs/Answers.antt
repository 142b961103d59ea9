use Rattle.std.proofs.Common.{◌≡◌, ◌∙◌, ap, sym, subst, refl, rules, arith, ℕ, ◌+◌, ◌<◌, List, map, length, get_or, Some}
use Rattle.std.specs.Prelude.{slice_get, Ok, Err}
use Rattle.ic_base.specs.declared.record.Record.{Record}
use Rattle.ic_base.specs.declared.scenario.Component.{Component}
use Rattle.ic_audit.specs.Disks.{Refuses, AllTell}
use Rattle.ic_audit.specs.Logs.{logs_in}
use Rattle.ic_audit.specs.Steps.{ReadsLogAt, IsFirstToFail}
use Rattle.ic_audit.proofs.Lists.{get_there}
use Rattle.ic_audit.proofs.Courses.{Course, com_at, goes_on, refuses, looked_after}
use Rattle.ic_audit.proofs.all_logs.read_logs.Goals as goal

component_there : (xs items : List Component) (i : ℕ) (x : Component) → items ≡ xs → i < length items → x ≡ get_or items i x → slice_get xs i ≡ Some x
component_there xs items i x same lt is = get_there xs i x (omega (arith, lt, ap length same)) (is ∙ ap (λ l. get_or l i x) same)

pub returns-in_err-log-clause-refused : goal.returns-in_err-log-clause-refused
returns-in_err-log-clause-refused g c =
    let d = g.D.Disk in
    let given = c.args.given.now in
    let xs = c.args.program.now.components in
    let olds = c.args.disks.now.items in
    let i = c.loop-i.i in
    let x = get_or c.as_slice-components.result.now c.loop-i.i c.index-components-i.result in
    let news = c.read_log_at.new.disks.items in
    let there = component_there xs c.as_slice-components.result.now i c.index-components-i.result c.as_slice-components.ensures (search rules) c.index-components-i.is ∙ ap Some c.index-components-i.is in
    let reads : ReadsLogAt d x.kind given (com_at i) c.loop-i.disks.items news (Err c.in_err-log.field-0.0) = c.in_err-log.ensures in
    let refused : Refuses (AllTell d olds) (IsFirstToFail d given xs olds news) (logs_in given 0 xs (map d.seen olds)) c.in_err-log.field-0.0 = refuses d given xs olds i c.loop-i.logs.items c.loop-i.disks.items news c.loop-i.invariant x there (com_at i) refl _ reads c.in_err-log.field-0.0 reads.refused in
    search rules

pub returns-in_err-log-clause-disks : goal.returns-in_err-log-clause-disks
returns-in_err-log-clause-disks g c =
    let i = c.loop-i.i in
    let x = get_or c.as_slice-components.result.now c.loop-i.i c.index-components-i.result in
    let there = component_there c.args.program.now.components c.as_slice-components.result.now i c.index-components-i.result c.as_slice-components.ensures (search rules) c.index-components-i.is ∙ ap Some c.index-components-i.is in
    looked_after g.D.Disk c.args.given.now c.args.program.now.components c.args.disks.now.items i c.loop-i.logs.items c.loop-i.disks.items c.read_log_at.new.disks.items c.loop-i.invariant x there (com_at i) refl c.read_log_at.result c.read_log_at.ensures

pub returns-in_err-push-clause-disks : goal.returns-in_err-push-clause-disks
returns-in_err-push-clause-disks g c =
    let i = c.loop-i.i in
    let x = get_or c.as_slice-components.result.now c.loop-i.i c.index-components-i.result in
    let there = component_there c.args.program.now.components c.as_slice-components.result.now i c.index-components-i.result c.as_slice-components.ensures (search rules) c.index-components-i.is ∙ ap Some c.index-components-i.is in
    looked_after g.D.Disk c.args.given.now c.args.program.now.components c.args.disks.now.items i c.loop-i.logs.items c.loop-i.disks.items c.read_log_at.new.disks.items c.loop-i.invariant x there (com_at i) refl c.read_log_at.result c.read_log_at.ensures

pub loop-i-preserved : goal.loop-i-preserved
loop-i-preserved g c =
    let d = g.D.Disk in
    let given = c.args.given.now in
    let xs = c.args.program.now.components in
    let olds = c.args.disks.now.items in
    let i = c.loop-i.i in
    let x = get_or c.as_slice-components.result.now c.loop-i.i c.index-components-i.result in
    let news = c.read_log_at.new.disks.items in
    let there = component_there xs c.as_slice-components.result.now i c.index-components-i.result c.as_slice-components.ensures (search rules) c.index-components-i.is ∙ ap Some c.index-components-i.is in
    let reads : ReadsLogAt d x.kind given (com_at i) c.loop-i.disks.items news (Ok c.in_ok-log.log) = c.in_ok-log.ensures in
    let P : List (List Record) → Type 0 = λ logs. Course d given xs olds (i + 1) logs news in
    subst P (sym c.in_ok-push.ensures.items) (goes_on d given xs olds i c.loop-i.logs.items c.loop-i.disks.items news c.loop-i.invariant x there (com_at i) refl _ reads c.in_ok-log.log reads.log)
