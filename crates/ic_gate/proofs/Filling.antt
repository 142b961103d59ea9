-- A header's front, filled up with zeros.
use Rattle.std.proofs.Common.{◌≡◌, ◌∙◌, ap, sym, refl, ℕ, zero, suc, ◌-◌, ◌*◌, take, replicate, ◌+◌, List, [], ◌∷◌, ◌++◌, length, arith}
use Rattle.ic_base.specs.declared.limits.TheConstants.{FIRST_GATE, SLOTS}
use Rattle.std.proofs.lemmas.List.{take_all, length-append, replicate-append-replicate, append_assoc}
use Rattle.def_log.specs.Directory.{closed_slots}
use Rattle.def_log.specs.Frame.{letters, fresh}

closed_zeros : (n : ℕ) → closed_slots n ≡ replicate (9 * n) 0
unfolding closed_slots
closed_zeros zero = refl
closed_zeros (suc n) =
    let more : 9 * suc n ≡ 9 + 9 * n = omega arith in
    ap (λ (l : List ℕ). replicate 9 0 ++ l) (closed_zeros n) ∙ replicate-append-replicate 9 (9 * n) 0 ∙ ap (λ k. replicate k 0) (sym more)

pub filled_up : (fingerprint : List ℕ) (owner : ℕ) (bytes : List ℕ) (size : ℕ) → length fingerprint ≡ 32 → bytes ≡ letters ++ (fingerprint ++ owner ∷ []) → size ≡ 41
    → take (FIRST_GATE + 1) bytes ++ replicate (FIRST_GATE + 1 - size) 0 ≡ fresh fingerprint owner
filled_up fingerprint owner bytes size print e is =
    let front : List ℕ = letters ++ (fingerprint ++ owner ∷ []) in
    let count : length bytes ≡ 41 = ap length e ∙ omega (arith, print, length-append fingerprint (owner ∷ [])) in
    let whole : take (FIRST_GATE + 1) bytes ≡ bytes = take_all (FIRST_GATE + 1) bytes (omega (arith, count)) in
    let left : FIRST_GATE + 1 - size ≡ 9 * SLOTS + 1 = omega (arith, is) in
    ap (λ (l : List ℕ). l ++ replicate (FIRST_GATE + 1 - size) 0) (whole ∙ e)
    ∙ ap (λ k. front ++ replicate k 0) left
    ∙ ap (λ (l : List ℕ). front ++ l) (sym (replicate-append-replicate (9 * SLOTS) 1 0) ∙ ap (λ (l : List ℕ). l ++ 0 ∷ []) (sym (closed_zeros SLOTS)))
    ∙ grind (arith, append_assoc)
