use Rattle.std.proofs.Common.{◌∙◌, ap, sym, subst, List}
use Rattle.std.specs.Prelude.{◌≡◌, Ok}
use Rattle.ic_base.specs.declared.record.Record.{Record}
use Rattle.def_log.specs.Loads.{load_of}
use Rattle.ic_report.specs.declared.ending.Why.{Why}
use Rattle.ic_audit.specs.Disks.{Refuses, HasFailed}
use Rattle.ic_audit.specs.Logs.{behind_load}
use Rattle.ic_audit.proofs.Loading.{records_held, load_refused}
use Rattle.ic_audit.proofs.one_log.read_log.Goals as goal

pub returns-in-Ok-records-clause-records : goal.returns-in-Ok-records-clause-records
returns-in-Ok-records-clause-records g c told =
    let step = (c.in-Ok.ensures {u = tt}).step in
    let loads = step.loads in
    records_held c.args.given.now c.args.«com» (g.D.Disk.seen c.args.disk) step.placed (loads.read told) (loads.own told) (loads.owner_same told)
    ∙ ap (λ (l : List Record). Ok l) (sym (c.in-Ok-records.ensures {u = tt} ∙ step.same))

pub returns-clause-refused : goal.returns-clause-refused
returns-clause-refused g c =
    let d = g.D.Disk in
    let old = c.args.disk in
    let new = c.in-Err.refused.disk in
    let given = c.args.given.now in
    let P : Why → Type 0 = λ w. Refuses (d.tells old) (λ x. (x ≡ c.args.«com») × HasFailed d old new) (behind_load given c.args.«com» (d.seen old) (load_of given c.args.com.0 (d.seen old))) w in
    subst P (sym c.why_of_load.ensures) (load_refused d old new c.args.«com» given c.in-Err.refused.why (c.in-Err.ensures {u = tt}).refused)
