use Rattle.std.proofs.Common.{◌++◌, ◌∙◌, ap, ◌<◌, length, arith}
use Rattle.ic_report.specs.Migrated.{migrated_lines}
use Rattle.ic_report.proofs.MigratedLines.{migrated-on, migrated-end}
use Rattle.ic_report.proofs.migrations.migrated_bytes.Goals as goal

pub loop-i-init : goal.loop-i-init
loop-i-init c = ap (λ t. t ++ migrated_lines c.args.program.now c.args.coms.now c.args.logs.now) c.new-out.ensures.items

pub loop-i-preserved : goal.loop-i-preserved
loop-i-preserved c =
    let in_coms : c.loop-i.i < length c.args.coms.now = omega (arith, c.loop-i-test.true, c.loop-i.auto.i-end) in
    migrated-on c.args.program.now c.args.coms.now c.args.logs.now c.loop-i.i _ _ c.as_slice.result.now c.loop-i.out.items _ _ in_coms (omega (arith, in_coms, c.requires)) (c.as_slice.ensures ∙ c.index-logs-i.is) c.in_ok-add_migrated_line.ensures c.loop-i.invariant

pub returns : goal.returns
returns c = c.from_vec.ensures ∙ migrated-end c.args.program.now c.args.coms.now c.args.logs.now c.loop-i.i c.loop-i.out.items _ (omega (arith, c.loop-i-test.false, c.loop-i.auto.i-end)) c.loop-i.invariant
