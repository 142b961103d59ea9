-- Why the log of a component isn't taken over, as the definition of an opening has it.
use Rattle.std.proofs.Common.{◌≡◌, refl, ap, subst, ◌∙◌, ◌⊎◌, inl, inr, ℕ, Bool, true, false, List, [], ◌∷◌, arith, Option, Some, None}
use Rattle.std.specs.Prelude.{cond, Result, Ok, Err}
use Rattle.ic_base.specs.declared.messages.ComId.{ComId}
use Rattle.ic_base.specs.declared.record.Batch.{Batch}
use Rattle.ic_base.specs.declared.record.Record.{Record}
use Rattle.ic_base.specs.declared.refusals.StartWhy.{StartWhy}
use Rattle.ic_base.specs.declared.refusals.StartWhy.TheVariants as starts
use Rattle.def_log.specs.Frame.{fingerprint_in, owner_in, IsForeign}
use Rattle.def_log.specs.Loads as loads
use Rattle.def_log.specs.Loads.{Load, load_of, placed_log_for}
use Rattle.def_log.specs.Log.{Placed, placed_log_of, log_of, records_in, ◌>>=◌}
use Rattle.ic_base.specs.declared.scenario.Program.{Program}
use Rattle.def_run.specs.SystemStates.{has_disk}
use Rattle.def_run.specs.Openings.{IsToldFrom, if_disk, log_refusal, records_refusal, unless_blank}
use Rattle.ic_gate.specs.Refusals.{IsNotForeign}
use Rattle.ic_gate.proofs.LoadAnswers.{bad_load, foreign_load, held_load}

abbrev refusal_by : ComId → List ℕ → Load → Option StartWhy
refusal_by c file load = elim load [
  | loads.Holds batches ↦ records_refusal c file
  | loads.Foreign kept ↦ Some (starts.Foreign c kept)
  | loads.Bad place ↦ Some (starts.Bad c place)
]

abbrev records_told : ComId → Result (List Placed) ℕ → Option StartWhy
records_told c read = elim read [ Ok records ↦ None | Err place ↦ Some (starts.Bad c place) ]

pub told_foreign : (given : List ℕ) (c : ComId) (file kept : List ℕ) → IsForeign given file kept → log_refusal given c file ≡ Some (starts.Foreign c kept)
told_foreign given c file kept foreign = ap (refusal_by c file) (foreign_load given c.0 file kept foreign)

pub told_bad : (given : List ℕ) (c : ComId) (file : List ℕ) (place : ℕ) → placed_log_for c.0 file ≡ Err place → IsNotForeign given file → log_refusal given c file ≡ Some (starts.Bad c place)
told_bad given c file place bad own = by (bad_load given c.0 file place bad own)
  where
    by : (load_of given c.0 file ≡ loads.Bad place) ⊎ ((bs : List Batch) × (load_of given c.0 file ≡ loads.Holds bs) × (placed_log_of file ≡ Err place)) → log_refusal given c file ≡ Some (starts.Bad c place)
    by (inl load) = ap (refusal_by c file) load
    by (inr held) = ap (refusal_by c file) held.1 ∙ ap (records_told c) held.2

pub told_none : (given : List ℕ) (c : ComId) (file : List ℕ) (records : List Record) → log_of file ≡ Ok records → fingerprint_in file ≡ given → owner_in file ≡ c.0 → log_refusal given c file ≡ None
told_none given c file records is own owned = by (placed_log_of file) refl is
  where
    by : (r : Result (List Placed) ℕ) → placed_log_of file ≡ r → (r >>= λ rs. Ok (records_in rs)) ≡ Ok records → log_refusal given c file ≡ None
    by (Ok ps) read e = ap (refusal_by c file) (held_load given c.0 file ps read own owned).1 ∙ ap (records_told c) read
    by (Err place) read e = absurd (cc e)

-- what is told of a disk is of its component
own : (c : ComId) (v w : StartWhy) → IsToldFrom c.0 v → Some v ≡ Some w → IsToldFrom c.0 w
own c v w from e = subst (IsToldFrom c.0) (ap (λ (o : Option StartWhy). elim o [ None ↦ v | Some x ↦ x ]) e) from

pub own_blank : (c : ComId) (file : List ℕ) (w : StartWhy) → unless_blank c file ≡ Some w → IsToldFrom c.0 w
own_blank c [] w e = absurd (cc)
own_blank c (x ∷ xs) w e = own c (starts.NotBlank c) w (omega arith) e

pub own_log : (fingerprint : List ℕ) (c : ComId) (file : List ℕ) (w : StartWhy) → log_refusal fingerprint c file ≡ Some w → IsToldFrom c.0 w
own_log fingerprint c file w = by (load_of fingerprint c.0 file)
  where
    by_place : (r : Result (List Placed) ℕ) → elim r [ Ok records ↦ None | Err place ↦ Some (starts.Bad c place) ] ≡ Some w → IsToldFrom c.0 w
    by_place (Ok records) e = absurd (cc)
    by_place (Err place) e = own c (starts.Bad c place) w (omega arith) e

    by : (l : Load) → elim l [ loads.Holds batches ↦ records_refusal c file | loads.Foreign kept ↦ Some (starts.Foreign c kept) | loads.Bad place ↦ Some (starts.Bad c place) ] ≡ Some w → IsToldFrom c.0 w
    by (loads.Holds batches) e = by_place (placed_log_of file) e
    by (loads.Foreign kept) e = own c (starts.Foreign c kept) w (omega arith) e
    by (loads.Bad place) e = own c (starts.Bad c place) w (omega arith) e

pub own_if_disk : (program : Program) (c : ComId) (o : Option StartWhy) → ((w : StartWhy) → o ≡ Some w → IsToldFrom c.0 w) → (w : StartWhy) → if_disk program c o ≡ Some w → IsToldFrom c.0 w
own_if_disk program c o is = by (has_disk program c)
  where
    by : (b : Bool) → (w : StartWhy) → cond b o None ≡ Some w → IsToldFrom c.0 w
    by true w e = is w e
    by false w e = absurd (cc)
