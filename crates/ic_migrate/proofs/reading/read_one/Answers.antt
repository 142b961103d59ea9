use Rattle.std.proofs.Common.{subst, sym}
use Rattle.std.proofs.lemmas.Result.{IfOk-weaker, IfErr-weaker}
use Rattle.ic_base.specs.declared.refusals.StartWhy.{StartWhy}
use Rattle.ic_migrate.specs.Refusals.{IsNoLog}
use Rattle.ic_migrate.proofs.Formers.{no_log, bytes_left, new_log_of, on_ok}
use Rattle.ic_migrate.proofs.reading.read_one.Goals as goal

pub returns-in-Ok-clause-log : goal.returns-in-Ok-clause-log
returns-in-Ok-clause-log g c =
    IfOk-weaker c.migrated_bytes.result _ _ (λ log is. new_log_of g.D.Disk c.args.disk.now c.read_former.new.disk c.args.fingerprint.now c.args.«com» c.in-Ok.log.batches log (c.in-Ok.ensures {u = tt}).step is) c.migrated_bytes.ensures.log

pub returns-in-Ok-clause-same : goal.returns-in-Ok-clause-same
returns-in-Ok-clause-same g c t = on_ok c.migrated_bytes.result _ ((c.in-Ok.ensures {u = tt}).step.bytes t)

pub returns-in-Ok-clause-refused : goal.returns-in-Ok-clause-refused
returns-in-Ok-clause-refused g c =
    IfErr-weaker c.migrated_bytes.result _ _ (λ why is. subst (λ (x : StartWhy). IsNoLog g.D.Disk c.args.fingerprint.now c.args.«com» c.args.disk.now c.read_former.new.disk x) (sym is) tt) c.migrated_bytes.ensures.refused

pub returns-in-Err-clause-bytes : goal.returns-in-Err-clause-bytes
returns-in-Err-clause-bytes g c = bytes_left g.D.Disk c.args.disk.now c.read_former.new.disk c.args.fingerprint.now c.args.«com» c.in-Err.why (c.in-Err.ensures {u = tt}).refused

pub returns-in-Err-clause-refused : goal.returns-in-Err-clause-refused
returns-in-Err-clause-refused g c =
    subst (λ (x : StartWhy). IsNoLog g.D.Disk c.args.fingerprint.now c.args.«com» c.args.disk.now c.read_former.new.disk x) (sym c.why_of_load.ensures)
    (no_log g.D.Disk c.args.disk.now c.read_former.new.disk c.args.fingerprint.now c.args.«com» c.in-Err.why (c.in-Err.ensures {u = tt}).refused)
