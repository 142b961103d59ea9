use Rattle.std.proofs.Common.{◌≡◌, drop}
use Rattle.def_plain.specs.Plain.{run_from, plain_run_of}
use Rattle.ic_model.proofs.running.plain_run.Given as goal

abbrev pub invariant-loop-at : goal.invariant-loop-at
invariant-loop-at l = run_from l.program l.at l.world (drop l.at l.entries) ≡ plain_run_of l.program l.entries
