-- Each abort of a run has its cause.
use Rattle.std.specs.Prelude.{◌≡◌, ⊤, ℕ, List, [], ◌∷◌, ◌++◌, Option, Some}
use Rattle.ic_base.specs.declared.messages.ComId.{ComId}
use Rattle.ic_base.specs.declared.messages.AbortCause.{AbortCause}
use Rattle.ic_base.specs.declared.messages.AbortCause.TheVariants.{Need}
use Rattle.ic_base.specs.declared.messages.Decision.TheVariants.{Aborted}
use Rattle.ic_base.specs.declared.messages.Packet.{Packet}
use Rattle.ic_base.specs.declared.messages.Packet.TheVariants.{Outcome}
use Rattle.ic_base.specs.declared.messages.Session.{Session}
use Rattle.ic_base.specs.declared.scenario.Program.{Program}
use Rattle.def_step.specs.Settle.{PolicyIntervals}
use Rattle.def_run.specs.SystemStates.{SystemState, Transition, KeepsLogs, last_state}
use Rattle.def_run.specs.Executions.{Agenda, Executes}
use Rattle.def_facts.specs.Flat.{HasFlatParts}
use Rattle.def_facts.specs.Logs.{Logs}
use Rattle.def_facts.specs.Playable.{IsPlayable}
use Rattle.law_run.specs.ProgramBytes.{HasBytes}
use Rattle.law_step.specs.Causes.{Refuses, Aborts}
use Rattle.law_run.specs.Executions.{IsExplainedInBytes, MayCome}

-- one of these transitions had t put out this abort, with its cause
pub record WasRefused (program : Program) (p : SystemState) (us : List Transition) (t c : ComId) (n place : ℕ) (session : Option Session) (cause : AbortCause) : Type 0 where
  pub front : List Transition
  pub v : Transition
  pub back : List Transition
  pub is : us ≡ front ++ (v ∷ back)
  pub refuses : Refuses program (last_state p front).world v.trace.event t c n place session cause

-- a failed need is the Pcom's own; any other abort was put out by a Tcom
abbrev pub ComesOf : Program → SystemState → List Transition → Packet → ℕ → AbortCause → Type 0
ComesOf program p us packet n (Need line) = ⊤
ComesOf program p us packet n cause = (t : ComId) × (c : ComId) × (place : ℕ) × (session : Option Session) × (packet ≡ Outcome t c n place session (Aborted cause)) × WasRefused program p us t c n place session cause

-- an abort that a transition tells: why its Pcom aborts, and for the refusal of a Tcom the earlier transition in which it refused
abbrev pub AbortsHaveCauses : Type 0
AbortsHaveCauses = (program : Program) (fingerprint : List ℕ) (x : PolicyIntervals) (a b : Agenda) (p : SystemState) (us ws : List Transition) (w : Transition) (found : Logs) (here : ComId → ℕ) → IsPlayable program → HasFlatParts program → HasBytes program → MayCome program a → KeepsLogs fingerprint p →
    Executes program fingerprint x a p (us ++ (w ∷ ws)) b → IsExplainedInBytes program found here p.world → p.world.packets ≡ [] → (n : ℕ) (cause : AbortCause) → w.trace.aborted ≡ Some (n, cause) →
    (y : Aborts program (last_state p us).world w.trace.event n cause) × ComesOf program p us y.packet n cause
