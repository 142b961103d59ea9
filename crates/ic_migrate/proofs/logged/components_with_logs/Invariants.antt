use Rattle.std.proofs.Common.{◌≡◌, ◌++◌, drop}
use Rattle.ic_migrate.specs.Logged.{logged}
use Rattle.ic_migrate.proofs.logged.components_with_logs.Given as goal

abbrev pub invariant-loop-i : goal.invariant-loop-i
invariant-loop-i l = logged 0 l.program.components ≡ l.coms.items ++ logged l.i (drop l.i l.program.components)
