-- Why an output is shown again in a run, why a transaction aborts in it, and for what a log is refused.
use Rattle.std.specs.Prelude.{◌≡◌, ⊤, ℕ, List, ◌∷◌, ◌++◌, Some, Contains}
use Rattle.ic_base.specs.declared.events.What.{What}
use Rattle.ic_base.specs.declared.limits.TheConstants.{LOG_BYTES}
use Rattle.ic_base.specs.declared.messages.AbortCause.{AbortCause}
use Rattle.ic_base.specs.declared.messages.ComId.{ComId}
use Rattle.ic_base.specs.declared.messages.Output.{Output}
use Rattle.ic_base.specs.declared.refusals.WorldRefused.{WorldRefused}
use Rattle.ic_base.specs.declared.refusals.WorldRefused.TheVariants.{Bad, Foreign}
use Rattle.ic_base.specs.declared.scenario.Program.{Program}
use Rattle.def_run.specs.SystemStates.{SystemState, Transition, last_state}
use Rattle.law_run.specs.Aborts.{ComesOf}
use Rattle.law_run.specs.Outputs.{GoesDown}
use Rattle.law_run.specs.Refusals.{LacksEpoch}
use Rattle.law_step.specs.Causes.{Aborts}
use Rattle.law_step.specs.Steps.{newly_shown}

-- of two transitions that show an output of the same number, its Pcom was down between them
abbrev pub ShowAgainBehindCrashes : SystemState → List Transition → Type 0
ShowAgainBehindCrashes p vs =
    (us ms ws : List Transition) (v w : Transition) → vs ≡ us ++ (v ∷ (ms ++ (w ∷ ws))) → (c : ComId) (o again : Output) → Contains (newly_shown c (last_state p us).world v.state.world) o → Contains (newly_shown c (last_state v.state ms).world w.state.world) again → again.m ≡ o.m → GoesDown c v.state ms

-- each abort that is told is the Pcom's own, for a need that failed, or answers the refusal of a Tcom in an earlier transition
abbrev pub AbortWithCause : Program → SystemState → List Transition → Type 0
AbortWithCause program p vs =
    (us ws : List Transition) (w : Transition) → vs ≡ us ++ (w ∷ ws) → (n : ℕ) (cause : AbortCause) → w.trace.aborted ≡ Some (n, cause) → (y : Aborts program (last_state p us).world w.trace.event n cause) × ComesOf program p us y.packet n cause

-- Over sound logs no log is refused that a recovery or a replay reads: a bad one is told only where a Tcom has no next epoch, and a foreign
-- one never.
abbrev pub MeetsSoundLogs : Program → SystemState → What → WorldRefused → Type 0
MeetsSoundLogs program p what (Bad t place) = (place ≡ LOG_BYTES) × LacksEpoch program p what t
MeetsSoundLogs program p what (Foreign c kept) = ⊥
MeetsSoundLogs program p what why = ⊤
