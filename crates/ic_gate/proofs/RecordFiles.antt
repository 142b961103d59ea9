-- The records of a log, and of one that has a batch more.
use Rattle.std.proofs.Common.{◌≡◌, ◌∙◌, sym, ap, refl, subst, arith, ℕ, ◌+◌, List, [], ◌∷◌, ◌++◌, length, length-append, append_assoc, Some, true, inl, inr}
use Rattle.std.specs.Prelude.{Result, Ok, Err, is_ok, option_map}
use Rattle.std.specs.List.{AllByRecursion}
use Rattle.std.specs.Coded.{Coded-set, coded_list, coded_result, coded_ℕ}
use Rattle.std.proofs.Math.Logic.{∥∥₁_elim}
use Rattle.ic_base.specs.declared.limits.TheConstants.{FIRST_GATE}
use Rattle.ic_base.specs.contracts.record.Record.{the_row}
use Rattle.ic_base.specs.declared.record.Record.{Record}
use Rattle.def_log.specs.Changes.{IsSameLog, IsForced, IsOldOrForced}
use Rattle.def_log.specs.Log.{log_of}
use Rattle.def_log.specs.Sizes.{span, gate_behind, size_in}
use Rattle.def_log.specs.Spelling.{spelling, spellings, Fits}
use Rattle.def_log.proofs.Tails.{log_parts}
use Rattle.law_marks.proofs.Marks.{same-records, adds-records}
use Rattle.law_marks.proofs.Reading.{spelled-some}
use Rattle.ic_gate.specs.RecordFiles.{records_from, read_or_none, ReadsOn, IsBeforeOrBehind, IsBeforeOrBehindFrom}
use Rattle.ic_gate.proofs.Walks.{same_walk, more_walk}

-- what was read
pub read_is : (r : Result (List Record) ℕ) (rs : List Record) → is_ok r ≡ true → read_or_none r ≡ rs → r ≡ Ok rs
read_is (Ok xs) rs ok is = ap (λ (l : List Record). Ok l) is
read_is (Err place) rs ok is = cc

-- only no records have no bytes
pub no_bytes : (rs : List Record) → spellings rs ≡ [] → rs ≡ []
no_bytes [] is = refl
no_bytes (r ∷ rs) is = absurd (omega (arith, spelled-some r, length-append (spelling r) (spellings rs), ap length is))

-- a log of records has a size
pub size_there : (bytes : List ℕ) (rs : List Record) → log_of bytes ≡ Ok rs → (size : ℕ) × (size_in bytes ≡ Some size)
size_there bytes rs e =
    let l = log_parts bytes rs e in
    (FIRST_GATE + span l.bs + 1, ap (λ f. option_map (λ gate. gate + 1) (gate_behind FIRST_GATE f)) l.frame)

again_forced : (start : ℕ) (old new : List ℕ) (at : ℕ) (p q : List ℕ) → p ≡ q → IsForced start old new at p → IsForced start old new at q
again_forced start old new at p q e forced = let P : List ℕ → Type 0 = λ l. IsForced start old new at l in subst P e forced

-- the log has the records of a batch that was forced behind those before
pub log_of-forced : (start : ℕ) (old new : List ℕ) (at : ℕ) (payload : List ℕ) (fs bs : List Record) → ∥ AllByRecursion Fits bs ∥₁ → payload ≡ spellings bs → IsForced start old new at payload → log_of old ≡ Ok fs → log_of new ≡ Ok (fs ++ bs)
log_of-forced start old new at payload fs bs fits bytes forced is =
    ∥∥₁_elim fits (Coded-set (coded_result (coded_list the_row.coded) coded_ℕ) _ _) (λ fit. adds-records start at old new fs bs fit is (again_forced start old new at payload (spellings bs) bytes forced))

-- from a gate on a log that reads as before has the same records, whatever stands before it
pub reads_same : (start : ℕ) (old new : List ℕ) (rs : List Record) → records_from start old ≡ Ok rs → IsSameLog start old new → ReadsOn start old rs new rs
reads_same start old new rs is same = record { walk = same_walk start old new same.tail ∙ is; whole = λ front e. same-records start old new (front ++ rs) e same }

-- and one that has a batch more has its records behind those
pub reads_forced : (start : ℕ) (old new : List ℕ) (at : ℕ) (payload : List ℕ) (fs bs : List Record) → ∥ AllByRecursion Fits bs ∥₁ → payload ≡ spellings bs → records_from start old ≡ Ok fs → IsForced start old new at payload → ReadsOn start old fs new (fs ++ bs)
reads_forced start old new at payload fs bs fits bytes is forced = record {
  walk = ∥∥₁_elim fits (Coded-set (coded_result (coded_list the_row.coded) coded_ℕ) _ _) (λ fit. more_walk start at old new fs bs fit is (again_forced start old new at payload (spellings bs) bytes forced));
  whole = λ front e. log_of-forced start old new at payload (front ++ fs) bs fits bytes forced e ∙ ap (λ (l : List Record). Ok l) (append_assoc front fs bs);
}

-- what a crash within a force leaves, from a gate on
pub old_or_behind_from : (start : ℕ) (old image : List ℕ) (at : ℕ) (payload : List ℕ) (fs bs : List Record) → ∥ AllByRecursion Fits bs ∥₁ → payload ≡ spellings bs → records_from start old ≡ Ok fs → IsOldOrForced start old at payload image → IsBeforeOrBehindFrom start old fs bs image
old_or_behind_from start old image at payload fs bs fits bytes is (inl same) = (same.same, inl (reads_same start old image fs is same))
old_or_behind_from start old image at payload fs bs fits bytes is (inr forced) = (forced.same, inr (reads_forced start old image at payload fs bs fits bytes is forced))

-- where these records stand before the gate, the whole file has the old records, or these and all that were added
pub from_front : (start : ℕ) (old image : List ℕ) (front fs added : List Record) → log_of old ≡ Ok (front ++ fs) → IsBeforeOrBehindFrom start old fs added image → IsBeforeOrBehind old (front ++ fs) added image
from_front start old image front fs added is (same, inl reads) = (same, inl (reads.whole front is))
from_front start old image front fs added is (same, inr reads) = (same, inr (reads.whole front is ∙ ap (λ (l : List Record). Ok l) (sym (append_assoc front fs added))))
