-- What a load of a log answers, by the definition.
use Rattle.std.proofs.Common.{◌≡◌, ◌⊎◌, refl, ap, sym, ◌∙◌, inl, inr, ℕ, ◌≤◌, Bool, true, false, cond, List, length, take, arith}
use Rattle.std.specs.Prelude.{Result, Ok, Err, ◌&&◌, not, nat_le, bytes_eq, ◌==◌}
use Rattle.std.proofs.lemmas.Bool.Decides.{nat_tests}
use Rattle.std.proofs.lemmas.Slice.Eq.{bytes_eq-Decides}
use Rattle.ic_base.specs.declared.limits.TheConstants.{FIRST_GATE, LOG_BYTES}
use Rattle.ic_base.specs.declared.record.Batch.{Batch}
use Rattle.def_log.specs.Directory.{slots_in}
use Rattle.def_log.specs.Frame.{letters, frame_of, fingerprint_in, owner_in, IsForeign, IsWellFormed}
use Rattle.def_log.specs.Loads.{Holds, Foreign, Bad, is_well_formed, framed, frame_for, load_of, placed_log_for}
use Rattle.def_log.specs.Log.{◌>>=◌, Placed, placed_with, placed_log_of}
use Rattle.law_marks.proofs.Owners.{owned}
use Rattle.ic_gate.specs.Refusals.{IsNotForeign}

both : (a b : Bool) → (a && b) ≡ true → (a ≡ true) × (b ≡ true)
both true true h = (refl, refl)
both true false h = absurd (cc)
both false b h = absurd (cc)

at_most : (m n : ℕ) → nat_le m n ≡ true → m ≤ n
at_most m n h = grind (arith, nat_tests)

is_at_most : (m n : ℕ) → m ≤ n → nat_le m n ≡ true
is_at_most m n h = grind (arith, nat_tests)

pub well_formed : (bytes : List ℕ) → is_well_formed bytes ≡ true → IsWellFormed bytes
well_formed bytes h =
    let a = both (nat_le (length bytes) LOG_BYTES) (nat_le FIRST_GATE (length bytes) && bytes_eq (take 8 bytes) letters) h in
    let b = both (nat_le FIRST_GATE (length bytes)) (bytes_eq (take 8 bytes) letters) a.1 in
    record { short = at_most (length bytes) LOG_BYTES a.0; header = at_most FIRST_GATE (length bytes) b.0; letters = (bytes_eq-Decides (take 8 bytes) letters).0 b.1 }

pub is_well : (bytes : List ℕ) → IsWellFormed bytes → is_well_formed bytes ≡ true
is_well bytes w =
    ap (λ b. b && (nat_le FIRST_GATE (length bytes) && bytes_eq (take 8 bytes) letters)) (is_at_most (length bytes) LOG_BYTES w.short)
    ∙ ap (λ b. b && bytes_eq (take 8 bytes) letters) (is_at_most FIRST_GATE (length bytes) w.header)
    ∙ (bytes_eq-Decides (take 8 bytes) letters).1 w.letters

-- a log of no other scenario is looked at
pub own_load : (given : List ℕ) (owner : ℕ) (bytes : List ℕ) → IsNotForeign given bytes → load_of given owner bytes ≡ framed (frame_for owner bytes)
own_load given owner bytes not_foreign = by_tests (is_well_formed bytes) (bytes_eq (fingerprint_in bytes) given) refl refl
  where
    by_tests : (w e : Bool) → is_well_formed bytes ≡ w → bytes_eq (fingerprint_in bytes) given ≡ e → cond (w && not e) (Foreign (fingerprint_in bytes)) (framed (frame_for owner bytes)) ≡ framed (frame_for owner bytes)
    by_tests false e a b = refl
    by_tests true true a b = refl
    by_tests true false a b = absurd (not_foreign (fingerprint_in bytes) (well_formed bytes a, refl, λ same. (let t : bytes_eq (fingerprint_in bytes) given ≡ true = (bytes_eq-Decides (fingerprint_in bytes) given).1 same in cc)))

-- one of another scenario is told
pub foreign_load : (given : List ℕ) (owner : ℕ) (bytes kept : List ℕ) → IsForeign given bytes kept → load_of given owner bytes ≡ Foreign kept
foreign_load given owner bytes kept foreign = by_test (bytes_eq (fingerprint_in bytes) given) refl
  where
    by_test : (e : Bool) → bytes_eq (fingerprint_in bytes) given ≡ e → load_of given owner bytes ≡ Foreign kept
    by_test true b = absurd (foreign.2 (foreign.1 ∙ (bytes_eq-Decides (fingerprint_in bytes) given).0 b))
    by_test false b =
        ap (λ t. cond (t && not (bytes_eq (fingerprint_in bytes) given)) (Foreign (fingerprint_in bytes)) (framed (frame_for owner bytes))) (is_well bytes foreign.0)
        ∙ ap (λ t. cond (true && not t) (Foreign (fingerprint_in bytes)) (framed (frame_for owner bytes))) b
        ∙ ap Foreign (sym foreign.1)

-- the frame of a component's log, where it is whole, is that of the log
pub frame_alone : (owner : ℕ) (bytes : List ℕ) (bs : List Batch) → frame_for owner bytes ≡ Ok bs → frame_of bytes ≡ Ok bs
frame_alone owner bytes bs e = at (is_well_formed bytes && not (owner_in bytes == owner)) e
  where
    at : (t : Bool) → cond t (Err 40) (frame_of bytes) ≡ Ok bs → frame_of bytes ≡ Ok bs
    at true d = absurd (cc d)
    at false d = d

-- a component's log is refused for its frame, or its frame is whole and it is refused for its records
pub bad_load : (given : List ℕ) (owner : ℕ) (bytes : List ℕ) (place : ℕ) → placed_log_for owner bytes ≡ Err place → IsNotForeign given bytes
    → (load_of given owner bytes ≡ Bad place) ⊎ ((bs : List Batch) × (load_of given owner bytes ≡ Holds bs) × (placed_log_of bytes ≡ Err place))
bad_load given owner bytes place bad not_foreign = at (frame_for owner bytes) refl bad
  where
    same : (a b : ℕ) → ◌≡◌ {A = Result (List Placed) ℕ} (Err a) (Err b) → a ≡ b
    same a b e = cc

    at : (r : Result (List Batch) ℕ) → frame_for owner bytes ≡ r → (r >>= λ bs. placed_with (slots_in bytes) bs) ≡ Err place
        → (load_of given owner bytes ≡ Bad place) ⊎ ((bs : List Batch) × (load_of given owner bytes ≡ Holds bs) × (placed_log_of bytes ≡ Err place))
    at (Err p) f d = inl (own_load given owner bytes not_foreign ∙ ap framed f ∙ ap Bad (same p place d))
    at (Ok bs) f d = inr (bs, own_load given owner bytes not_foreign ∙ ap framed f, ap (λ (r : Result (List Batch) ℕ). r >>= λ bs. placed_with (slots_in bytes) bs) (frame_alone owner bytes bs f) ∙ d)

-- a component's log whose records are read is held
pub held_load : (given : List ℕ) (owner : ℕ) (bytes : List ℕ) (ps : List Placed) → placed_log_of bytes ≡ Ok ps → fingerprint_in bytes ≡ given → owner_in bytes ≡ owner → (bs : List Batch) × (load_of given owner bytes ≡ Holds bs)
held_load given owner bytes ps read own same = at (frame_of bytes) refl read
  where
    at : (r : Result (List Batch) ℕ) → frame_of bytes ≡ r → (r >>= λ bs. placed_with (slots_in bytes) bs) ≡ Ok ps → (bs : List Batch) × (load_of given owner bytes ≡ Holds bs)
    at (Err p) f d = absurd (cc d)
    at (Ok bs) f d = (bs, own_load given owner bytes (λ kept foreign. foreign.2 (foreign.1 ∙ own)) ∙ ap framed (owned owner bytes (frame_of bytes) same ∙ f))
