use Rattle.std.proofs.Common.{ap, arith, length}
use Rattle.std.proofs.lemmas.Result.{err_from_is_err_and}
use Rattle.ic_world.proofs.Asked.{asked-first, pass-outside, pass-blank, pass-refused, pass-read, asked-all}
use Rattle.ic_world.proofs.asking.ask_all.Goals as goal

pub loop-i-init : goal.loop-i-init
loop-i-init g c = asked-first g.D.Disk c.args.program.now c.args.disks.now g.met.D.Disk.only_now c.requires.disks

pub overflow_cast-i : goal.overflow_cast-i
overflow_cast-i g c = omega (arith, c.loop-i-test.true, ap length c.as_slice-components.ensures, c.requires.few)

pub loop-i-preserved-in-Xcom : goal.loop-i-preserved-in-Xcom
loop-i-preserved-in-Xcom g c = pass-outside g.D.Disk c.args.program.now c.args.disks.now c.loop-i.i c.loop-i.next c.loop-i.disks c.loop-i.invariant c.as_slice-components.result.now c.as_slice-components.ensures _ c.loop-i-test.true c.in-Xcom.is

pub returns-in_err-ask_blank : goal.returns-in_err-ask_blank
returns-in_err-ask_blank g c =
    let p = err_from_is_err_and c.from_residual.result c.from_residual.ensures.1 in
    record {
      disks = pass-read g.D.Disk c.args.program.now c.args.disks.now c.loop-i.i c.loop-i.next c.loop-i.disks c.loop-i.invariant c.as_slice-components.result.now c.as_slice-components.ensures _ c.loop-i-test.true c.in_default.not-Xcom _ c.ask_blank.new.disk (c.ask_blank.ensures.disk, c.ask_blank.ensures.crash);
      step = rw p.1 tt;
      refused = rw (p.1, p.2) (pass-refused g.D.Disk c.args.program.now c.args.disks.now c.loop-i.i c.loop-i.next c.loop-i.disks c.loop-i.invariant c.as_slice-components.result.now c.as_slice-components.ensures _ c.loop-i-test.true c.in_default.not-Xcom _ c.ask_blank.new.disk (c.ask_blank.ensures.disk, c.ask_blank.ensures.crash) c.requires.disks c.in_err-ask_blank.field-0.0 c.in_err-ask_blank.ensures.refused);
    }

pub loop-i-preserved : goal.loop-i-preserved
loop-i-preserved g c =
    let e = c.in_ok-ask_blank.ensures {u = tt} in
    pass-blank g.D.Disk c.args.program.now c.args.disks.now c.loop-i.i c.loop-i.next c.loop-i.disks c.loop-i.invariant c.as_slice-components.result.now c.as_slice-components.ensures _ c.loop-i-test.true c.in_default.not-Xcom _ c.ask_blank.new.disk (e.disk, e.crash) e.old e.new

pub returns-clause-step : goal.returns-clause-step
returns-clause-step g c = asked-all g.D.Disk c.args.program.now c.args.disks.now c.loop-i.i c.loop-i.next c.loop-i.disks (omega (arith, c.loop-i.auto.i-end, c.loop-i-test.false, ap length c.as_slice-components.ensures)) c.loop-i.invariant
