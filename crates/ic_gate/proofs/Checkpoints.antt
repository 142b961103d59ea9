-- The records behind the last checkpoint, with one record more.
use Rattle.std.proofs.Common.{◌≡◌, ◌∙◌, sym, ap, refl, ℕ, suc, ◌+◌, ◌<◌, ◌≤◌, Bool, true, false, cond, List, [], ◌∷◌, ◌++◌, length, length-append, take, arith}
use Rattle.std.specs.Prelude.{is_some, get_or}
use Rattle.std.proofs.Common.{add-one}
use Rattle.std.proofs.Math.Seq.{take-suc, take-append-add, get_or-append-add}
use Rattle.ic_base.specs.declared.record.Record.{Record}
use Rattle.def_step.specs.Replay.{behind_checkpoint, has_image, image_in}

abbrev is_image : Record → Bool
is_image r = is_some (image_in r)

has_image-push : (rs : List Record) (r : Record) → has_image (rs ++ r ∷ []) ≡ cond (is_image r) true (has_image rs)
has_image-push [] r = by (is_image r)
  where
    by : (b : Bool) → cond b true false ≡ cond b true false
    by b = refl
has_image-push (q ∷ rs) r = by (is_image q) (is_image r) (has_image rs) (has_image (rs ++ r ∷ [])) (has_image-push rs r)
  where
    by : (a b c d : Bool) → d ≡ cond b true c → cond a true d ≡ cond b true (cond a true c)
    by true true c d e = refl
    by true false c d e = refl
    by false true c d e = e
    by false false c d e = e

-- with a checkpoint more there are none behind it, and with another record one more
pub behind-push : (rs : List Record) (r : Record) → behind_checkpoint (rs ++ r ∷ []) ≡ cond (is_image r) [] (behind_checkpoint rs ++ r ∷ [])
behind-push [] r = by (is_image r)
  where
    by : (b : Bool) → cond b [] (r ∷ []) ≡ cond b [] (r ∷ [])
    by b = refl
behind-push (q ∷ rs) r =
    by (is_image q) (is_image r) (has_image rs) (has_image (rs ++ r ∷ [])) (behind_checkpoint rs) (behind_checkpoint (rs ++ r ∷ [])) (has_image-push rs r) (behind-push rs r)
  where
    by : (a b c d : Bool) (bs ds : List Record) → d ≡ cond b true c → ds ≡ cond b [] (bs ++ r ∷ [])
        → cond d ds (cond a (rs ++ r ∷ []) (q ∷ (rs ++ r ∷ []))) ≡ cond b [] (cond c bs (cond a rs (q ∷ rs)) ++ r ∷ [])
    by a true c d bs ds e f = ap (λ x. cond x ds (cond a (rs ++ r ∷ []) (q ∷ (rs ++ r ∷ [])))) e ∙ f
    by a false true d bs ds e f = ap (λ x. cond x ds (cond a (rs ++ r ∷ []) (q ∷ (rs ++ r ∷ [])))) e ∙ f
    by true false false d bs ds e f = ap (λ x. cond x ds (rs ++ r ∷ [])) e
    by false false false d bs ds e f = ap (λ x. cond x ds (q ∷ (rs ++ r ∷ []))) e

-- the first records, with the next one
next-one : (rs : List Record) (i : ℕ) (r : Record) → i < length rs → r ≡ get_or rs i r → take (i + 1) rs ≡ take i rs ++ r ∷ []
next-one rs i r lt is =
    ap (λ n. take n rs) (add-one i) ∙ take-suc rs i r lt ∙ ap (λ x. take i rs ++ x ∷ []) (sym is)

with-next : (rs : List Record) (i last : ℕ) (r : Record) (b : Bool) → i < length rs → r ≡ get_or rs i r → b ≡ is_image r → last + length (behind_checkpoint (take i rs)) ≡ i
    → cond b (i + 1) last + length (behind_checkpoint (take (i + 1) rs)) ≡ i + 1
with-next rs i last r b lt is same so_far =
    ap (λ l. cond b (i + 1) last + length (behind_checkpoint l)) (next-one rs i r lt is)
    ∙ ap (λ l. cond b (i + 1) last + length l) (behind-push (take i rs) r ∙ ap (λ x. cond x [] (behind_checkpoint (take i rs) ++ r ∷ [])) (sym same))
    ∙ by b
  where
    by : (b : Bool) → cond b (i + 1) last + length (cond b [] (behind_checkpoint (take i rs) ++ r ∷ [])) ≡ i + 1
    by true = omega arith
    by false = omega (arith, so_far, length-append (behind_checkpoint (take i rs)) (r ∷ []))

-- and behind others
pub behind_next : (before adds : List Record) (i last : ℕ) (r : Record) (b : Bool) → i < length adds → r ≡ get_or adds i r → b ≡ is_image r → last + length (behind_checkpoint (before ++ take i adds)) ≡ length before + i
    → cond b (length before + i + 1) last + length (behind_checkpoint (before ++ take (i + 1) adds)) ≡ length before + i + 1
behind_next before adds i last r b lt is same so_far =
    let so : last + length (behind_checkpoint (take (length before + i) (before ++ adds))) ≡ length before + i = ap (λ l. last + length (behind_checkpoint l)) (take-append-add before adds i) ∙ so_far in
    let next : length before + (i + 1) ≡ length before + i + 1 = omega arith in
    let there : before ++ take (i + 1) adds ≡ take (length before + i + 1) (before ++ adds) = sym (take-append-add before adds (i + 1)) ∙ ap (λ n. take n (before ++ adds)) next in
    ap (λ l. cond b (length before + i + 1) last + length (behind_checkpoint l)) there
    ∙ with-next (before ++ adds) (length before + i) last r b (omega (arith, lt, length-append before adds)) (is ∙ sym (get_or-append-add before adds i r)) same so

-- no more than there are
pub behind-le : (rs : List Record) → length (behind_checkpoint rs) ≤ length rs
behind-le [] = omega arith
behind-le (q ∷ rs) = by (has_image rs) (is_image q) (behind-le rs)
  where
    by : (a b : Bool) → length (behind_checkpoint rs) ≤ length rs → length (cond a (behind_checkpoint rs) (cond b rs (q ∷ rs))) ≤ suc (length rs)
    by true b h = omega (arith, h)
    by false true h = omega arith
    by false false h = omega arith
