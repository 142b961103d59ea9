-- What settled worlds have done.
use Rattle.std.specs.Prelude.{◌≡◌, ℕ, ◌≤◌, true, drop, count_by, None, Contains, IsSomeAnd}
use Rattle.ic_base.specs.declared.messages.ComId.{ComId}
use Rattle.ic_base.specs.declared.messages.Msg.{Msg}
use Rattle.ic_base.specs.declared.scenario.Program.{Program}
use Rattle.ic_base.specs.Programs.{is_a_pcom}
use Rattle.def_state.specs.Hist.{outputs_of}
use Rattle.def_step.specs.World.{World}
use Rattle.def_step.specs.Settle.{IsSettled}
use Rattle.def_facts.specs.Logs.{Logs, log_at, has_outcome, last_shown}
use Rattle.def_facts.specs.Pcom.{state_after}
use Rattle.def_facts.specs.Playable.{IsPlayable}
use Rattle.def_plain.specs.History.{history_of}
use Rattle.def_run.specs.CrashFree.{takes_number}
use Rattle.def_facts.specs.World.{IsExplainedBy, Past, forced_logs, whole_logs, firsts}

-- all is forced, each message sent by a Pcom is taken, each transaction that was begun has its outcome, and each output was shown
pub record IsDone (program : Program) (found : Logs) (w : World) (past : Past) : Type 0 where
  pub forced : forced_logs w ≡ whole_logs w
  pub taken : (s : ComId) (m : Msg) → is_a_pcom program s ≡ true → IsSomeAnd (state_after program s (past.received s) (log_at (forced_logs w) s)) (λ h. Contains h.sent m)
      → IsSomeAnd (state_after program m.to (past.received m.to) (log_at (forced_logs w) m.to)) (λ h. Contains h.plain.receipts (s, m.k))
  pub ended : (c : ComId) → is_a_pcom program c ≡ true → IsSomeAnd (state_after program c (past.received c) (log_at (forced_logs w) c)) (λ h. (h.plain.hand ≡ None) × ((n : ℕ) → 1 ≤ n → n ≤ h.plain.begun → has_outcome (log_at (forced_logs w) c) n ≡ true))
  pub shown : (c : ComId) → is_a_pcom program c ≡ true → IsSomeAnd (state_after program c (past.received c) (log_at (forced_logs w) c)) (λ h. firsts c w.showings ≡ drop (last_shown (log_at found c)) (outputs_of h))

abbrev pub SettledIsDone : Type 0
SettledIsDone = (program : Program) (found : Logs) (here : ComId → ℕ) (w : World) (past : Past) → IsPlayable program → IsExplainedBy program found here w past → IsSettled w → IsDone program found w past

-- each message that a Pcom sent stands exactly once in the merged history, as taken by its receiver
abbrev pub MessagesStandOnce : Type 0
MessagesStandOnce = (program : Program) (found : Logs) (here : ComId → ℕ) (w : World) (past : Past) → IsPlayable program → IsExplainedBy program found here w past → IsSettled w → (s : ComId) (m : Msg) → is_a_pcom program s ≡ true →
    IsSomeAnd (state_after program s (past.received s) (log_at (forced_logs w) s)) (λ h. Contains h.sent m) → count_by (takes_number m.to s m.k) (history_of program (forced_logs w)) ≡ 1
