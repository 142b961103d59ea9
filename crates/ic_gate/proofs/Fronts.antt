-- What the first bytes of a file, up to the first gate, tell of it.
use Rattle.std.proofs.Common.{◌⊎◌, ◌≡◌, ◌∙◌, ap, sym, refl, subst, inl, inr, ℕ, ◌<◌, ◌≤◌, min, Bool, true, false, cond, List, length, take, drop, Option, Some, None, arith}
use Rattle.std.specs.Prelude.{Result, Err, nat_lt, nat_le, bytes_eq, not, ◌&&◌, ◌==◌}
use Rattle.std.proofs.lemmas.Bool.Decides.{nat_tests}
use Rattle.std.proofs.lemmas.List.{take-take, take_all, length-take, length-take-le}
use Rattle.ic_base.specs.declared.limits.TheConstants.{FIRST_GATE, LOG_BYTES}
use Rattle.ic_base.specs.declared.record.Batch.{Batch}
use Rattle.def_log.specs.Changes.{IsOfSame}
use Rattle.def_log.specs.Directory.{slots_in}
use Rattle.def_log.specs.Frame.{letters, first_difference, behind_letters, behind_header, owner_in, IsForeign}
use Rattle.def_log.specs.Loads.{of_owner}
use Rattle.def_log.proofs.Marks.{header_slots, front_same}

abbrev pub front_of : List ℕ → List ℕ
front_of file = take FIRST_GATE file

pub letters_of_front : (file : List ℕ) → take 8 (front_of file) ≡ take 8 file
letters_of_front file = take-take 8 FIRST_GATE file (omega arith)

pub same_owner : (file : List ℕ) → IsOfSame file (front_of file)
same_owner file = front_same FIRST_GATE file (front_of file) (omega arith) (take-take FIRST_GATE FIRST_GATE file (omega arith))

pub same_slots : (file : List ℕ) → slots_in (front_of file) ≡ slots_in file
same_slots file = header_slots file (front_of file) (take-take FIRST_GATE FIRST_GATE file (omega arith))

-- what stands behind letters
abbrev lettered : Result (List Batch) ℕ → Option ℕ → Result (List Batch) ℕ
lettered behind (Some place) = Err place
lettered behind None = behind

-- what a whole header that isn't too long comes to
normal : (owner : ℕ) (bytes : List ℕ) → length bytes ≤ LOG_BYTES → FIRST_GATE ≤ length bytes → (behind : Result (List Batch) ℕ)
    → of_owner owner bytes (behind_header behind bytes) ≡ cond (bytes_eq (take 8 bytes) letters && not (owner_in bytes == owner)) (Err 40) (lettered behind (first_difference letters (take 8 bytes)))
normal owner bytes short long behind =
    let t1 : nat_le (length bytes) LOG_BYTES ≡ true = grind (arith, nat_tests) in
    let t2 : nat_le FIRST_GATE (length bytes) ≡ true = grind (arith, nat_tests) in
    let t3 : nat_lt LOG_BYTES (length bytes) ≡ false = grind (arith, nat_tests) in
    ap (λ t. cond ((t && (nat_le FIRST_GATE (length bytes) && bytes_eq (take 8 bytes) letters)) && not (owner_in bytes == owner)) (Err 40) (behind_header behind bytes)) t1
    ∙ ap (λ t. cond ((t && bytes_eq (take 8 bytes) letters) && not (owner_in bytes == owner)) (Err 40) (behind_header behind bytes)) t2
    ∙ ap (λ t. cond (bytes_eq (take 8 bytes) letters && not (owner_in bytes == owner)) (Err 40) (cond t (Err LOG_BYTES) (behind_letters behind bytes (first_difference letters (take 8 bytes))))) t3
    ∙ ap (λ r. cond (bytes_eq (take 8 bytes) letters && not (owner_in bytes == owner)) (Err 40) r) (at (first_difference letters (take 8 bytes)))
  where
    at : (o : Option ℕ) → behind_letters behind bytes o ≡ lettered behind o
    at (Some place) = refl
    at None =
        let t4 : nat_lt (length bytes) FIRST_GATE ≡ false = grind (arith, nat_tests) in
        ap (λ t. cond t (Err (length bytes)) behind) t4

-- a header that is refused is refused in the file
pub carried : (owner : ℕ) (file : List ℕ) → length file ≤ LOG_BYTES → (place : ℕ) → ((behind : Result (List Batch) ℕ) → of_owner owner (front_of file) (behind_header behind (front_of file)) ≡ Err place)
    → (behind : Result (List Batch) ℕ) → of_owner owner file (behind_header behind file) ≡ Err place
carried owner file short place bad behind = at (cases (length file))
  where
    cases : (n : ℕ) → (n ≤ FIRST_GATE) ⊎ (FIRST_GATE ≤ n)
    cases n = by (nat_le n FIRST_GATE) refl
      where
        by : (t : Bool) → nat_le n FIRST_GATE ≡ t → (n ≤ FIRST_GATE) ⊎ (FIRST_GATE ≤ n)
        by true e = inl (grind (arith, nat_tests))
        by false e = inr (grind (arith, nat_tests))

    at : (length file ≤ FIRST_GATE) ⊎ (FIRST_GATE ≤ length file) → of_owner owner file (behind_header behind file) ≡ Err place
    at (inl few) = subst (λ (l : List ℕ). of_owner owner l (behind_header behind l) ≡ Err place) (take_all FIRST_GATE file few) (bad behind)
    at (inr long) =
        let count : length (front_of file) ≡ FIRST_GATE = length-take-le FIRST_GATE file long in
        normal owner file short long behind
        ∙ ap (λ (l : List ℕ). cond (bytes_eq l letters && not (owner_in file == owner)) (Err 40) (lettered behind (first_difference letters l))) (sym (letters_of_front file))
        ∙ ap (λ o. cond (bytes_eq (take 8 (front_of file)) letters && not (o == owner)) (Err 40) (lettered behind (first_difference letters (take 8 (front_of file))))) (sym (same_owner file).owner)
        ∙ sym (normal owner (front_of file) (omega (arith, count)) (omega (arith, count)) behind)
        ∙ bad behind

front_short : (file : List ℕ) → length (front_of file) ≤ length file
front_short file = omega (arith, length-take FIRST_GATE file)

-- a foreign log is told by its front
pub foreign_file : (given file kept : List ℕ) → length file ≤ LOG_BYTES → IsForeign given (front_of file) kept → IsForeign given file kept
foreign_file given file kept short f = (
  record { short = short; header = omega (arith, f.0.header, front_short file); letters = sym (letters_of_front file) ∙ f.0.letters },
  f.1 ∙ (same_owner file).fingerprint,
  f.2,
)

pub foreign_front : (given file kept : List ℕ) → IsForeign given file kept → IsForeign given (front_of file) kept
foreign_front given file kept f =
    let count : length (front_of file) ≡ FIRST_GATE = length-take-le FIRST_GATE file f.0.header in
    (record { short = omega (arith, count); header = omega (arith, count); letters = letters_of_front file ∙ f.0.letters }, f.1 ∙ sym (same_owner file).fingerprint, f.2)

-- the first bytes as they are read
pub front_read : (file : List ℕ) (count : ℕ) → count ≡ min (length file) FIRST_GATE → take count (drop 0 file) ≡ front_of file
front_read file count is = ap (λ n. take n file) is ∙ at (nat_le (length file) FIRST_GATE) refl
  where
    at : (t : Bool) → nat_le (length file) FIRST_GATE ≡ t → take (min (length file) FIRST_GATE) file ≡ take FIRST_GATE file
    at true e =
        let le : length file ≤ FIRST_GATE = grind (arith, nat_tests) in
        take_all (min (length file) FIRST_GATE) file (omega (arith, le)) ∙ sym (take_all FIRST_GATE file le)
    at false e =
        let lt : FIRST_GATE < length file = grind (arith, nat_tests) in
        let same : min (length file) FIRST_GATE ≡ FIRST_GATE = omega (arith, lt) in
        ap (λ n. take n file) same
