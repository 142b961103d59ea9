use Rattle.std.proofs.Common.{ap, sym, subst, inl, inr, length, arith}
use Rattle.std.proofs.lemmas.Result.{err_from_is_err_and}
use Rattle.ic_opening.specs.NewLogs.{AreNewLogs}
use Rattle.ic_opening.proofs.Ones.{reads_still}
use Rattle.ic_migrate.specs.Migrations.{Migrates}
use Rattle.ic_migrate.specs.NewLogs.{AreNewLogsOf}
use Rattle.ic_migrate.proofs.Together.{all_new, are_blank, only_read, with_room, safe_part, not_part, unopened_es, safe, not_written, stand}
use Rattle.ic_migrate.proofs.migration.migrate_logs.Goals as goal

pub returns-in_err-ask_all : goal.returns-in_err-ask_all
returns-in_err-ask_all g c =
    let p = err_from_is_err_and c.from_residual.result c.from_residual.ensures.1 in
    record {
      old = reads_still g.D.Disk g.met.D.Disk.only_now g.met.D.Disk.keeping_tells c.args.old.now;
      new = inl c.ask_all.ensures.asked;
      migrated = rw p.1 tt;
      refused = rw (p.1, p.2) (inl c.in_err-ask_all.ensures.refused);
    }

pub returns-in_err-logs : goal.returns-in_err-logs
returns-in_err-logs g c =
    let p = err_from_is_err_and c.from_residual-in_err-logs.result c.from_residual-in_err-logs.ensures.1 in
    let d = g.D.Disk in
    let on = g.met.D.Disk.only_now in
    let kt = g.met.D.Disk.keeping_tells in
    let given = c.args.fingerprint.now in
    let coms = c.args.coms.now in
    let olds = c.args.old.now in
    let xs = c.args.new.now in
    let ys = c.ask_all.new.disks in
    let a = c.in_ok-ask_all.ensures {u = tt} in
    record {
      old = c.read_all.ensures.disks;
      new = inl a.asked;
      migrated = rw p.1 tt;
      refused = rw (p.1, p.2) (inr (are_blank d on kt xs ys a.asked a.blank, inl c.in_err-logs.ensures.refused));
    }

pub reserve_all-requires-clause-disks : goal.reserve_all-requires-clause-disks
reserve_all-requires-clause-disks g c =
    let d = g.D.Disk in
    let on = g.met.D.Disk.only_now in
    let kt = g.met.D.Disk.keeping_tells in
    let given = c.args.fingerprint.now in
    let coms = c.args.coms.now in
    let olds = c.args.old.now in
    let xs = c.args.new.now in
    let ys = c.ask_all.new.disks in
    let a = c.in_ok-ask_all.ensures {u = tt} in
    let r = c.in_ok-logs.ensures {u = tt} in
    omega (arith, ap length c.as_slice-files.ensures.value, a.asked.long, c.requires.new_disks, r.logs.long)

pub reserve_all-requires-clause-new : goal.reserve_all-requires-clause-new
reserve_all-requires-clause-new g c =
    let r = c.in_ok-logs.ensures {u = tt} in
    subst AreNewLogs (sym c.as_slice-files.ensures.value) (all_new g.D.Disk c.args.fingerprint.now c.args.coms.now c.args.old.now c.in_ok-logs.logs.items c.requires.old_disks r.logs)

pub returns-in_err-reserve_all : goal.returns-in_err-reserve_all
returns-in_err-reserve_all g c =
    let p = err_from_is_err_and c.from_residual-in_err-reserve_all.result c.from_residual-in_err-reserve_all.ensures.1 in
    let d = g.D.Disk in
    let on = g.met.D.Disk.only_now in
    let kt = g.met.D.Disk.keeping_tells in
    let given = c.args.fingerprint.now in
    let coms = c.args.coms.now in
    let olds = c.args.old.now in
    let xs = c.args.new.now in
    let ys = c.ask_all.new.disks in
    let a = c.in_ok-ask_all.ensures {u = tt} in
    let r = c.in_ok-logs.ensures {u = tt} in
    let files = c.as_slice-files.result.now in
    let are : AreNewLogsOf d given coms olds files = subst (λ l. AreNewLogsOf d given coms olds l) (sym c.as_slice-files.ensures.value) r.logs in
    let zs = c.reserve_all.new.disks in
    record {
      old = r.disks;
      new = inl (only_read d on kt xs ys a.asked a.blank zs c.reserve_all.ensures.disks);
      migrated = rw p.1 tt;
      refused = rw (p.1, p.2) (inr (are_blank d on kt xs ys a.asked a.blank, inr ((files, are), inl c.in_err-reserve_all.ensures.refused)));
    }

pub write_all-requires-clause-logs : goal.write_all-requires-clause-logs
write_all-requires-clause-logs g c =
    let r = c.in_ok-logs.ensures {u = tt} in
    omega (arith, ap length c.as_slice-files.ensures.value, r.logs.long)

pub write_all-requires-clause-disks : goal.write_all-requires-clause-disks
write_all-requires-clause-disks g c =
    let a = c.in_ok-ask_all.ensures {u = tt} in
    let m = c.in_ok-reserve_all.ensures {u = tt} in
    omega (arith, a.asked.long, m.disks.long, c.requires.new_disks)

pub write_all-requires-clause-new : goal.write_all-requires-clause-new
write_all-requires-clause-new g c =
    let r = c.in_ok-logs.ensures {u = tt} in
    subst AreNewLogs (sym c.as_slice-files.ensures.value) (all_new g.D.Disk c.args.fingerprint.now c.args.coms.now c.args.old.now c.in_ok-logs.logs.items c.requires.old_disks r.logs)

pub write_all-requires-clause-ready : goal.write_all-requires-clause-ready
write_all-requires-clause-ready g c =
    let d = g.D.Disk in
    let on = g.met.D.Disk.only_now in
    let kt = g.met.D.Disk.keeping_tells in
    let given = c.args.fingerprint.now in
    let coms = c.args.coms.now in
    let olds = c.args.old.now in
    let xs = c.args.new.now in
    let ys = c.ask_all.new.disks in
    let a = c.in_ok-ask_all.ensures {u = tt} in
    let m = c.in_ok-reserve_all.ensures {u = tt} in
    with_room d on kt xs ys a.asked a.blank c.reserve_all.new.disks m.disks c.as_slice-files.result.now m.room

pub returns-in_err-write_all : goal.returns-in_err-write_all
returns-in_err-write_all g c =
    let p = err_from_is_err_and c.from_residual-in_err-write_all.result c.from_residual-in_err-write_all.ensures.1 in
    let d = g.D.Disk in
    let on = g.met.D.Disk.only_now in
    let kt = g.met.D.Disk.keeping_tells in
    let given = c.args.fingerprint.now in
    let coms = c.args.coms.now in
    let olds = c.args.old.now in
    let xs = c.args.new.now in
    let ys = c.ask_all.new.disks in
    let a = c.in_ok-ask_all.ensures {u = tt} in
    let r = c.in_ok-logs.ensures {u = tt} in
    let files = c.as_slice-files.result.now in
    let are : AreNewLogsOf d given coms olds files = subst (λ l. AreNewLogsOf d given coms olds l) (sym c.as_slice-files.ensures.value) r.logs in
    let zs = c.reserve_all.new.disks in
    let m = c.in_ok-reserve_all.ensures {u = tt} in
    let es = c.write_all.new.disks in
    let blank = are_blank d on kt xs ys a.asked a.blank in
    record {
      old = r.disks;
      new = inr (blank, (files, are, safe_part d on kt xs ys a.asked a.blank zs m.disks files m.room es c.write_all.ensures.disks));
      migrated = rw p.1 tt;
      refused = rw (p.1, p.2) (inr (blank, inr ((files, are), inr (not_part d on kt xs ys a.asked a.blank zs m.disks files m.room es c.write_all.ensures.disks coms c.in_err-write_all.field-0.0 c.in_err-write_all.ensures.refused))));
    }

pub open_all-requires-clause-logs : goal.open_all-requires-clause-logs
open_all-requires-clause-logs g c =
    let r = c.in_ok-logs.ensures {u = tt} in
    omega (arith, ap length c.as_slice-files.ensures.value, r.logs.long)

pub open_all-requires-clause-disks : goal.open_all-requires-clause-disks
open_all-requires-clause-disks g c =
    let a = c.in_ok-ask_all.ensures {u = tt} in
    let m = c.in_ok-reserve_all.ensures {u = tt} in
    let w = c.in_ok-write_all.ensures {u = tt} in
    omega (arith, a.asked.long, m.disks.long, w.disks.long, c.requires.new_disks)

pub open_all-requires-clause-new : goal.open_all-requires-clause-new
open_all-requires-clause-new g c =
    let r = c.in_ok-logs.ensures {u = tt} in
    subst AreNewLogs (sym c.as_slice-files.ensures.value) (all_new g.D.Disk c.args.fingerprint.now c.args.coms.now c.args.old.now c.in_ok-logs.logs.items c.requires.old_disks r.logs)

pub open_all-requires-clause-ready : goal.open_all-requires-clause-ready
open_all-requires-clause-ready g c =
    let d = g.D.Disk in
    let on = g.met.D.Disk.only_now in
    let kt = g.met.D.Disk.keeping_tells in
    let given = c.args.fingerprint.now in
    let coms = c.args.coms.now in
    let olds = c.args.old.now in
    let xs = c.args.new.now in
    let ys = c.ask_all.new.disks in
    let a = c.in_ok-ask_all.ensures {u = tt} in
    let m = c.in_ok-reserve_all.ensures {u = tt} in
    let w = c.in_ok-write_all.ensures {u = tt} in
    unopened_es d on kt xs ys a.asked a.blank c.reserve_all.new.disks m.disks c.as_slice-files.result.now m.room c.write_all.new.disks w.disks w.written

pub returns-in_err-open_all : goal.returns-in_err-open_all
returns-in_err-open_all g c =
    let p = err_from_is_err_and c.from_residual-in_err-open_all.result c.from_residual-in_err-open_all.ensures.1 in
    let d = g.D.Disk in
    let on = g.met.D.Disk.only_now in
    let kt = g.met.D.Disk.keeping_tells in
    let given = c.args.fingerprint.now in
    let coms = c.args.coms.now in
    let olds = c.args.old.now in
    let xs = c.args.new.now in
    let ys = c.ask_all.new.disks in
    let a = c.in_ok-ask_all.ensures {u = tt} in
    let r = c.in_ok-logs.ensures {u = tt} in
    let files = c.as_slice-files.result.now in
    let are : AreNewLogsOf d given coms olds files = subst (λ l. AreNewLogsOf d given coms olds l) (sym c.as_slice-files.ensures.value) r.logs in
    let zs = c.reserve_all.new.disks in
    let m = c.in_ok-reserve_all.ensures {u = tt} in
    let w = c.in_ok-write_all.ensures {u = tt} in
    let es = c.write_all.new.disks in
    let fs = c.open_all.new.disks in
    let blank = are_blank d on kt xs ys a.asked a.blank in
    record {
      old = r.disks;
      new = inr (blank, (files, are, safe d on kt xs ys a.asked a.blank zs m.disks files m.room es w.disks w.written fs c.open_all.ensures.disks));
      migrated = rw p.1 tt;
      refused = rw (p.1, p.2) (inr (blank, inr ((files, are), inr (not_written d on kt xs ys a.asked a.blank zs m.disks files m.room es w.disks w.written fs c.open_all.ensures.disks coms c.in_err-open_all.field-0.0 c.in_err-open_all.ensures.refused))));
    }

pub returns-clause-old : goal.returns-clause-old
returns-clause-old g c = (c.in_ok-logs.ensures {u = tt}).disks

pub returns-clause-new : goal.returns-clause-new
returns-clause-new g c =
    let d = g.D.Disk in
    let on = g.met.D.Disk.only_now in
    let kt = g.met.D.Disk.keeping_tells in
    let given = c.args.fingerprint.now in
    let coms = c.args.coms.now in
    let olds = c.args.old.now in
    let xs = c.args.new.now in
    let ys = c.ask_all.new.disks in
    let a = c.in_ok-ask_all.ensures {u = tt} in
    let r = c.in_ok-logs.ensures {u = tt} in
    let files = c.as_slice-files.result.now in
    let are : AreNewLogsOf d given coms olds files = subst (λ l. AreNewLogsOf d given coms olds l) (sym c.as_slice-files.ensures.value) r.logs in
    let zs = c.reserve_all.new.disks in
    let m = c.in_ok-reserve_all.ensures {u = tt} in
    let w = c.in_ok-write_all.ensures {u = tt} in
    let o = c.in_ok-open_all.ensures {u = tt} in
    inr (are_blank d on kt xs ys a.asked a.blank, (files, are, safe d on kt xs ys a.asked a.blank zs m.disks files m.room c.write_all.new.disks w.disks w.written c.open_all.new.disks o.disks))

pub returns-clause-migrated : goal.returns-clause-migrated
returns-clause-migrated g c =
    let d = g.D.Disk in
    let on = g.met.D.Disk.only_now in
    let kt = g.met.D.Disk.keeping_tells in
    let given = c.args.fingerprint.now in
    let coms = c.args.coms.now in
    let olds = c.args.old.now in
    let xs = c.args.new.now in
    let ys = c.ask_all.new.disks in
    let a = c.in_ok-ask_all.ensures {u = tt} in
    let r = c.in_ok-logs.ensures {u = tt} in
    let files = c.as_slice-files.result.now in
    let are : AreNewLogsOf d given coms olds files = subst (λ l. AreNewLogsOf d given coms olds l) (sym c.as_slice-files.ensures.value) r.logs in
    let zs = c.reserve_all.new.disks in
    let m = c.in_ok-reserve_all.ensures {u = tt} in
    let w = c.in_ok-write_all.ensures {u = tt} in
    let o = c.in_ok-open_all.ensures {u = tt} in
    subst (λ l. Migrates d given coms olds c.read_all.new.disks xs c.open_all.new.disks l) c.as_slice-files.ensures.value
    (record {
      old_same = r.same;
      blank = are_blank d on kt xs ys a.asked a.blank;
      logs_are = are;
      stand = stand d on kt xs ys a.asked a.blank zs m.disks files m.room c.write_all.new.disks w.disks w.written c.open_all.new.disks o.disks o.written;
    })
