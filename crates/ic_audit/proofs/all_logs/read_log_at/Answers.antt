use Rattle.std.proofs.Common.{◌≡◌, ◌∙◌, ap, sym, subst, rules, true, false, List, [], get_or}
use Rattle.std.specs.Prelude.{cond, Ok, IfErr, Result}
use Rattle.std.specs.List.{insert, remove}
use Rattle.std.proofs.lemmas.Result.{IfOk-weaker}
use Rattle.ic_base.specs.declared.record.Record.{Record}
use Rattle.ic_base.specs.declared.report.Fault.{Fault}
use Rattle.def_log.specs.Loads.{load_of}
use Rattle.ic_audit.specs.Disks.{Refuses, HasFailed}
use Rattle.ic_audit.specs.Logs.{has_log, log_in, behind_load}
use Rattle.ic_audit.proofs.Lists.{some_there, set_itself, get_there, put_back}
use Rattle.ic_audit.proofs.Courses.{stays}
use Rattle.ic_audit.proofs.all_logs.read_log_at.Goals as goal

pub returns-then-not-has_log : goal.returns-then-not-has_log
returns-then-not-has_log g c =
    let disks = c.args.disks.now.items in
    let there = some_there disks c.args.com.0 c.requires in
    let none : has_log c.args.kind ≡ false = search rules in
    record {
      old = there.0;
      there = there.1;
      new = there.0;
      stands = set_itself disks c.args.com.0 there.0 there.1;
      looked = stays g.D.Disk there.0;
      log = λ tells. ap (λ b. cond b (behind_load c.args.given.now c.args.«com» (g.D.Disk.seen there.0) (load_of c.args.given.now c.args.com.0 (g.D.Disk.seen there.0))) (Ok [])) none ∙ ap Ok (sym c.new.ensures);
      refused = tt;
    }

pub returns : goal.returns
returns g c =
    let d = g.D.Disk in
    let disks = c.args.disks.now.items in
    let i = c.args.com.0 in
    let disk = c.remove-disk.result in
    let new = c.read_log-disk.result.0 in
    let given = c.args.given.now in
    let has : has_log c.args.kind ≡ true = search rules in
    let reads : log_in c.args.kind given c.args.«com» (d.seen disk) ≡ behind_load given c.args.«com» (d.seen disk) (load_of given i (d.seen disk)) = ap (λ b. cond b (behind_load given c.args.«com» (d.seen disk) (load_of given i (d.seen disk))) (Ok [])) has in
    let P : Result (List Record) Fault → Type 0 = λ r. IfErr c.read_log-disk.result.1 (Refuses (d.tells disk) (λ x. (x ≡ c.args.«com») × HasFailed d disk new) r) in
    record {
      old = disk;
      there = get_there disks i disk c.requires (c.remove-disk.ensures.value ∙ ap (λ n. get_or disks n disk) c.from-at.ensures);
      new = new;
      stands = c.in-Ok.ensures.items ∙ ap (λ l. insert l c.from-at.result new) c.remove-disk.ensures.items ∙ ap (λ n. insert (remove disks n) n new) c.from-at.ensures ∙ put_back disks i new c.requires;
      looked = c.read_log-disk.ensures.disk;
      log = λ tells. IfOk-weaker c.read_log-disk.result.1 _ _ (λ log h. reads ∙ h) (c.read_log-disk.ensures.records tells);
      refused = subst P (sym reads) c.read_log-disk.ensures.refused;
    }
