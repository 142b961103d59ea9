-- Packets that are put out one by one, and their numbers.
use Rattle.std.proofs.Common.{◌≡◌, ◌∙◌, ap, sym, refl, arith, ℕ, zero, suc, ◌+◌, ◌<◌, List, [], ◌∷◌, ◌++◌, length, take, get_or, add-one, append_assoc, length-append}
use Rattle.std.specs.List.{range_with_len}
use Rattle.std.proofs.lemmas.List.{length-take-le}
use Rattle.def_two.specs.declared.moves.Packet2.{Packet2}

one_more : (a n : ℕ) → range_with_len a (suc n) ≡ range_with_len a n ++ (a + n) ∷ []
one_more a zero = let same : a ≡ a + 0 = omega arith in ap (λ k. k ∷ []) same
one_more a (suc n) = let same : a + 1 + n ≡ a + suc n = omega arith in ap (λ l. a ∷ l) (one_more (a + 1) n ∙ ap (λ k. range_with_len (a + 1) n ++ k ∷ []) same)

range_push : (a n : ℕ) → range_with_len a (n + 1) ≡ range_with_len a n ++ (a + n) ∷ []
range_push a n = ap (range_with_len a) (add-one n) ∙ one_more a n

take_more : (ps : List Packet2) (i : ℕ) (d : Packet2) → i < length ps → take (suc i) ps ≡ take i ps ++ get_or ps i d ∷ []
take_more [] i d lt = absurd (omega (arith, lt))
take_more (p ∷ ps) zero d lt = refl
take_more (p ∷ ps) (suc i) d lt = ap (λ l. p ∷ l) (take_more ps i d (omega (arith, lt)))

-- one packet more is put out
pub packets_on : (old before now ps : List Packet2) (i : ℕ) (d : Packet2) → i < length ps → now ≡ before ++ get_or ps i d ∷ [] → before ≡ old ++ take i ps → now ≡ old ++ take (i + 1) ps
packets_on old before now ps i d lt is was =
    is ∙ ap (λ l. l ++ get_or ps i d ∷ []) was ∙ append_assoc old (take i ps) (get_or ps i d ∷ []) ∙ ap (λ l. old ++ l) (sym (take_more ps i d lt)) ∙ ap (λ k. old ++ take k ps) (sym (add-one i))

pub length_on : (old now ps : List Packet2) (i : ℕ) → i < length ps → now ≡ old ++ take (i + 1) ps → length now ≡ length old + 1 + i
length_on old now ps i lt is =
    let all = ap length is ∙ length-append old (take (i + 1) ps) in
    let part = length-take-le (i + 1) ps (omega (arith, lt)) in
    omega (arith, all, part)

-- and it waits
pub waiting_on : (old before now : List ℕ) (count i n : ℕ) → now ≡ before ++ n ∷ [] → before ≡ old ++ range_with_len (count + 1) i → n ≡ count + 1 + i → now ≡ old ++ range_with_len (count + 1) (i + 1)
waiting_on old before now count i n is was at =
    is ∙ ap (λ l. l ++ n ∷ []) was ∙ append_assoc old (range_with_len (count + 1) i) (n ∷ []) ∙ ap (λ k. old ++ (range_with_len (count + 1) i ++ k ∷ [])) at ∙ ap (λ l. old ++ l) (sym (range_push (count + 1) i))
