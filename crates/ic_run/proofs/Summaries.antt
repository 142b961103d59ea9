-- The summary of a run is that of its counts, of the records that it played and of its last world.
use Rattle.std.proofs.Common.{◌≡◌, sym, refl, ℕ, ◌+◌, ◌<◌, arith, Bool, List}
use Rattle.std.specs.Prelude.{min}
use Rattle.ic_base.specs.declared.scenario.Program.{Program}
use Rattle.def_run.specs.Reports.{played_in, summary_of}
use Rattle.def_run.specs.SystemStates.{SystemState, Transition, last_state, traces_of}
use Rattle.def_step.specs.World as definition
use Rattle.ic_run.specs.Tallies.{Counts}
use Rattle.ic_run.specs.declared.tally.Tally.{Tally}
use Rattle.ic_run.specs.Summaries.{summed}
use Rattle.ic_world.specs.Acting.{GREATEST}

pub summary-same : (program : Program) (settled : Bool) (p : SystemState) (vs : List Transition) (w : definition.World) (tally : Tally) (n : ℕ)
    → Counts (traces_of vs) tally → (last_state p vs).world ≡ w → n ≡ played_in p vs → summed program settled tally n w ≡ summary_of program settled p vs
summary-same program settled p vs w tally n counts ends played =
    rw (counts.taken, counts.kept, counts.lost, counts.missed, counts.first, counts.again, played, sym ends) refl

-- a count below the greatest number is exact
pub exact : (old k n : ℕ) → n ≡ min (old + k) GREATEST → old ≡ 0 → n < GREATEST → n ≡ k
exact old k n is none below = grind (arith)
