-- What a load of a component's records answers, as the definition of an audit has it.
use Rattle.std.proofs.Common.{◌≡◌, refl, ap, ◌∙◌, inl, inr, ℕ, ◌+◌, ◌≤◌, List}
use Rattle.std.specs.Prelude.{Result, Ok}
use Rattle.ic_base.specs.declared.messages.ComId.{ComId}
use Rattle.ic_base.specs.declared.record.Record.{Record}
use Rattle.ic_base.specs.declared.report.Fault.{Fault}
use Rattle.def_log.specs.Frame.{fingerprint_in, owner_in}
use Rattle.def_log.specs.Loads.{load_of}
use Rattle.def_log.specs.Log.{◌>>=◌, Placed, records_in, placed_log_of}
use Rattle.ic_disk.specs.Disk.{Keeps}
use Rattle.ic_disk.specs.declared.disk.Disk.{Ghosts}
use Rattle.ic_gate.specs.RecordLoads.{RefusesRecords}
use Rattle.ic_gate.specs.declared.refusals.LoadWhy.{LoadWhy}
use Rattle.ic_gate.specs.declared.refusals.LoadWhy.TheVariants as gate
use Rattle.ic_gate.proofs.LoadAnswers.{held_load, bad_load, foreign_load}
use Rattle.ic_audit.specs.Disks.{Refuses, HasFailed, IsLookedAt}
use Rattle.ic_audit.specs.Logs.{or_bad, behind_load}
use Rattle.ic_audit.specs.Views.{why_of_load}

-- the records of a log, or the place at which it is refused, told of its component
abbrev told_of : ComId → Result (List Placed) ℕ → Result (List Record) Fault
told_of c read = or_bad c (read >>= λ rs. Ok (records_in rs))

-- records that are read are those behind the load
pub records_held : (given : List ℕ) (c : ComId) (file : List ℕ) (placed : List Placed) → placed_log_of file ≡ Ok placed → fingerprint_in file ≡ given → owner_in file ≡ c.0
    → behind_load given c file (load_of given c.0 file) ≡ Ok (records_in placed)
records_held given c file placed read own same = ap (behind_load given c file) (held_load given c.0 file placed read own same).1 ∙ ap (told_of c) read

module _ {D : Type 0} (d : Ghosts D) where
  -- a refusal of the records is one of the load, or of what stands behind it
  pub load_refused : (old new : D) (c : ComId) (given : List ℕ) (why : LoadWhy) → RefusesRecords d old given c.0 new why
      → Refuses (d.tells old) (λ x. (x ≡ c) × HasFailed d old new) (behind_load given c (d.seen old) (load_of given c.0 (d.seen old))) (why_of_load c why given)
  load_refused old new c given (gate.Bad place) is = λ tells. elim (bad_load given c.0 (d.seen old) place (is.place tells) (is.not_foreign tells)) [
    | inl bad ↦ ap (behind_load given c (d.seen old)) bad
    | inr held ↦ ap (behind_load given c (d.seen old)) held.1 ∙ ap (told_of c) held.2
  ]
  load_refused old new c given (gate.Foreign kept) is = λ tells. ap (behind_load given c (d.seen old)) (foreign_load given c.0 (d.seen old) kept (is tells).0)
  load_refused old new c given gate.Failed is = (refl, inl is.0)
  load_refused old new c given gate.Stopped is = (refl, inr is.0)
  load_refused old new c given gate.Memory is = tt

  -- and the disk was looked at alone
  pub looked_refused : (old new : D) (given : List ℕ) (owner : ℕ) (why : LoadWhy) → RefusesRecords d old given owner new why → Keeps d old new → d.calls new ≤ d.calls old + 3 → IsLookedAt d old new
  looked_refused old new given owner (gate.Bad place) is kept few = record { kept = kept; calls = few; settled = λ tells rests. is.bytes tells; bytes = λ tells. inl (is.bytes tells) }
  looked_refused old new given owner (gate.Foreign kept_by) is kept few = record { kept = kept; calls = few; settled = λ tells rests. (is tells).1; bytes = λ tells. inl (is tells).1 }
  looked_refused old new given owner gate.Failed is kept few = record { kept = kept; calls = few; settled = is.1; bytes = λ tells. inr (inl is.0) }
  looked_refused old new given owner gate.Stopped is kept few = record { kept = kept; calls = few; settled = is.1; bytes = λ tells. inr (inr is.0) }
  looked_refused old new given owner gate.Memory is kept few = record { kept = kept; calls = few; settled = λ tells rests. is.bytes tells; bytes = λ tells. inl (is.bytes tells) }
