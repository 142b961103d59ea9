use Rattle.std.proofs.Common.{◌≡◌, ◌<◌, [], length, arith}
use Rattle.std.proofs.lemmas.Result.{err_from_is_err_and}
use Rattle.ic_opening.specs.Disks.{IsOnlyRead, IsBlank}
use Rattle.ic_opening.specs.Refusals.{IsNoBlank}
use Rattle.ic_opening.proofs.Loops.{nothing_done, all_done, go_on, cut}
use Rattle.ic_opening.proofs.Ones.{asked, read_still, was_blank}
use Rattle.ic_opening.proofs.Failures.{fails_at}
use Rattle.ic_opening.proofs.asking.ask_all.Goals as goal

pub loop-i-init : goal.loop-i-init
loop-i-init g c = nothing_done (asked g.D.Disk) c.args.disks.now

pub returns-in_err-ask_blank : goal.returns-in_err-ask_blank
returns-in_err-ask_blank g c =
    let d = g.D.Disk in
    let p = err_from_is_err_and c.from_residual.result c.from_residual.ensures.1 in
    let s = c.loop-i.invariant in
    let e = c.ask_blank.ensures in
    let lt : c.loop-i.i < length c.loop-i.disks = omega (arith, c.loop-i-test.true, c.loop-i.auto.i-end, s.long, c.requires) in
    let why = c.in_err-ask_blank.field-0.0 in
    record {
      asked = cut (asked d) c.loop-i.i c.args.disks.now c.loop-i.disks s _ c.ask_blank.new.disk lt (λ j. IsOnlyRead d) (λ j x y both. both.0) (λ j x there. read_still d g.met.D.Disk.only_now g.met.D.Disk.keeping_tells x) (record { kept = e.disk; crash = e.crash; bytes = e.bytes });
      blank = rw p.1 tt;
      refused = rw (p.1, p.2) (fails_at (asked d) c.loop-i.i c.args.disks.now c.loop-i.disks s _ c.ask_blank.new.disk lt c.args.coms.now _ (omega (arith, c.loop-i-test.true, c.loop-i.auto.i-end))
          (λ c old new. IsNoBlank d c old new why) (λ c x. d.tells x → d.seen x ≡ []) (λ j k x below names there. was_blank d c.loop-i.i c.args.disks.now c.loop-i.disks s j x below there) c.in_err-ask_blank.ensures.refused);
    }

pub loop-i-preserved : goal.loop-i-preserved
loop-i-preserved g c =
    let s = c.loop-i.invariant in
    let e = c.in_ok-ask_blank.ensures {u = tt} in
    let lt : c.loop-i.i < length c.loop-i.disks = omega (arith, c.loop-i-test.true, c.loop-i.auto.i-end, s.long, c.requires) in
    go_on (asked g.D.Disk) c.loop-i.i c.args.disks.now c.loop-i.disks s _ c.ask_blank.new.disk lt (record { kept = e.disk; crash = e.crash; bytes = e.bytes }, record { empty = e.empty; still = e.still })

pub returns-clause-asked : goal.returns-clause-asked
returns-clause-asked g c =
    all_done (asked g.D.Disk) (λ j. IsOnlyRead g.D.Disk) (λ j x y both. both.0) c.loop-i.i c.args.disks.now c.loop-i.disks (omega (arith, c.loop-i-test.false, c.loop-i.auto.i-end, c.requires)) c.loop-i.invariant

pub returns-clause-blank : goal.returns-clause-blank
returns-clause-blank g c =
    all_done (asked g.D.Disk) (λ j. IsBlank g.D.Disk) (λ j x y both. both.1) c.loop-i.i c.args.disks.now c.loop-i.disks (omega (arith, c.loop-i-test.false, c.loop-i.auto.i-end, c.requires)) c.loop-i.invariant
