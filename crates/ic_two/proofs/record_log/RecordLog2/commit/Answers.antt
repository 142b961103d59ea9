use Rattle.std.proofs.Common.{◌∙◌, sym, ap, List}
use Rattle.std.specs.Prelude.{Ok, is_ok}
use Rattle.def_two.specs.declared.moves.Record2.{Record2}
use Rattle.ic_disk.proofs.Disks.{crash_weaker, makes_named, makes_same}
use Rattle.ic_gate.specs.Calls.{gated_calls, force_writes}
use Rattle.ic_gate.specs.Logs as logs
use Rattle.ic_two.specs.Standing.{read_or_none}
use Rattle.ic_two.specs.Views.{size_of}
use Rattle.ic_two.proofs.Committed.{stands, image_of}
use Rattle.ic_two.proofs.record_log.RecordLog2.commit.Goals as goal

pub invariant_of-self-in-Ok-commit : goal.invariant_of-self-in-Ok-commit
invariant_of-self-in-Ok-commit g c =
    let old = c.args.self.now in
    let e = c.in-Ok-commit.ensures {u = tt} in
    let log = c.commit.new.log in
    let is = c.as_slice.ensures ∙ c.in-Ok.ensures.spelled in
    let stand = λ (told : g.D.Disk.tells (logs.disk_of log)). stands {D = g.row.D.Denot} {d = g.D.Disk} old c.args.r c.as_slice.result.now c.requires.open c.in-Ok.ensures.fit is log e.step (e.disk.tells.1 told) ∙ ap (λ (l : List Record2). Ok l) (sym c.in-Ok-push.ensures.ok) in
    record {
      on_disk = λ told up. ap read_or_none (stand told);
      whole = λ told up. ap is_ok (stand told);
      durable = log.durable;
      settled = log.settled;
      forced = λ up. e.step.buffered;
    }

pub returns-in-Ok-commit-clause-crash : goal.returns-in-Ok-commit-clause-crash
returns-in-Ok-commit-clause-crash g c =
    let old = c.args.self.now in
    let is = c.as_slice.ensures ∙ c.in-Ok.ensures.spelled in
    crash_weaker (λ keeps image. image_of {D = g.row.D.Denot} {d = g.D.Disk} old c.args.r c.as_slice.result.now c.requires.open c.in-Ok.ensures.fit is image (g.met.D.Disk.keeping_tells (logs.disk_of old.log) keeps)) c.commit.ensures.crash

pub returns-in-Ok-commit-clause-calls : goal.returns-in-Ok-commit-clause-calls
returns-in-Ok-commit-clause-calls g c =
    let is = c.as_slice.ensures ∙ c.in-Ok.ensures.spelled in
    makes_same (ap (λ l. gated_calls (force_writes (size_of c.args.self.now) l)) is) (makes_named _ (λ e. absurd (cc)) (c.in-Ok-commit.ensures {u = tt}).calls)

pub returns-clause-crash : goal.returns-clause-crash
returns-clause-crash g c =
    let old = c.args.self.now in
    let is = c.as_slice.ensures ∙ c.in-Ok.ensures.spelled in
    crash_weaker (λ keeps image. image_of {D = g.row.D.Denot} {d = g.D.Disk} old c.args.r c.as_slice.result.now c.requires.open c.in-Ok.ensures.fit is image (g.met.D.Disk.keeping_tells (logs.disk_of old.log) keeps)) c.commit.ensures.crash
