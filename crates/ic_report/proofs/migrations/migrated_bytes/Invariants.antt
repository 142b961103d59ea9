use Rattle.std.proofs.Common.{◌≡◌, ◌++◌, drop}
use Rattle.ic_report.specs.Migrated.{migrated_lines}
use Rattle.ic_report.proofs.migrations.migrated_bytes.Given as goal

abbrev pub invariant-loop-i : goal.invariant-loop-i
invariant-loop-i l = l.out.items ++ migrated_lines l.program (drop l.i l.coms) (drop l.i l.logs) ≡ migrated_lines l.program l.coms l.logs
