-- How a text is cut at the first end of a line, and a line at the first blank.
use Rattle.std.proofs.Common.{◌≡◌, ◌==◌, ℕ, suc, ◌<◌, ◌≤◌, Bool, true, false, not, List, [], ◌∷◌, length, take, drop, refl, ap, sym, ◌∙◌, ◌-◌, unwrap_or, arith}
use Rattle.std.specs.Prelude.{position}
use Rattle.std.proofs.Math.Numerals.{one-add}
use Rattle.std.proofs.lemmas.Bool.Decides.{nat_tests}
use Rattle.std.proofs.lemmas.List.{take_all}
use Rattle.std.proofs.lemmas.List.Sums.{prefix_len-le-length}
use Rattle.std.specs.List.{position_or_len}
use Rattle.def_syntax.specs.Text.{lines_of, onto_first, is_blank, pieces}

-- the first place, or the length where there is none
pub place_or_all : {X : Type 0} (p : X → Bool) (xs : List X) → (unwrap_or (position p xs) (length xs) ≡ position_or_len p xs) × (position_or_len p xs ≤ length xs)
place_or_all p xs = let le = prefix_len-le-length (λ x. not (p x)) xs in (grind (arith, nat_tests, le), le)

-- the pieces behind a word, from its blank on
abbrev pub behind : List ℕ → List (List ℕ)
behind [] = []
behind (c ∷ cs) = pieces cs

-- the lines behind one, from its end on
abbrev pub below : List ℕ → List (List ℕ)
below [] = []
below (c ∷ cs) = lines_of cs

-- the first piece, and the pieces behind it
pieces_at : (v : Bool) (b : ℕ) (bs : List ℕ) → is_blank b ≡ v → pieces bs ≡ take (position_or_len is_blank bs) bs ∷ behind (drop (position_or_len is_blank bs) bs)
    → pieces (b ∷ bs) ≡ take (position_or_len is_blank (b ∷ bs)) (b ∷ bs) ∷ behind (drop (position_or_len is_blank (b ∷ bs)) (b ∷ bs))
unfolding pieces
pieces_at true b bs is rest = rw is refl
pieces_at false b bs is rest = rw is (rw one-add (ap (onto_first b) rest))

pub pieces-first : (xs : List ℕ) → pieces xs ≡ take (position_or_len is_blank xs) xs ∷ behind (drop (position_or_len is_blank xs) xs)
unfolding pieces
pieces-first [] = refl
pieces-first (b ∷ bs) = pieces_at (is_blank b) b bs refl (pieces-first bs)

-- whether a byte ends a line
abbrev pub is_end : ℕ → Bool
is_end b = b == 10

-- the first line, and the lines behind it
lines_end : (b : ℕ) (bs : List ℕ) → is_end b ≡ true → lines_of (b ∷ bs) ≡ take (position_or_len is_end (b ∷ bs)) (b ∷ bs) ∷ below (drop (position_or_len is_end (b ∷ bs)) (b ∷ bs))
unfolding lines_of
lines_end b bs is = rw is refl

lines_last : (b : ℕ) → is_end b ≡ false → lines_of (b ∷ []) ≡ take (position_or_len is_end (b ∷ [])) (b ∷ []) ∷ below (drop (position_or_len is_end (b ∷ [])) (b ∷ []))
unfolding lines_of
lines_last b is = rw is refl

lines_more : (b c : ℕ) (cs : List ℕ) → is_end b ≡ false → lines_of (c ∷ cs) ≡ take (position_or_len is_end (c ∷ cs)) (c ∷ cs) ∷ below (drop (position_or_len is_end (c ∷ cs)) (c ∷ cs))
    → lines_of (b ∷ c ∷ cs) ≡ take (position_or_len is_end (b ∷ c ∷ cs)) (b ∷ c ∷ cs) ∷ below (drop (position_or_len is_end (b ∷ c ∷ cs)) (b ∷ c ∷ cs))
unfolding lines_of
lines_more b c cs is rest = rw is (rw one-add (ap (onto_first b) rest))

pub lines-first : (b : ℕ) (bs : List ℕ) → lines_of (b ∷ bs) ≡ take (position_or_len is_end (b ∷ bs)) (b ∷ bs) ∷ below (drop (position_or_len is_end (b ∷ bs)) (b ∷ bs))
lines-first b [] = elim (is_end b) as (λ v. is_end b ≡ v → lines_of (b ∷ []) ≡ take (position_or_len is_end (b ∷ [])) (b ∷ []) ∷ below (drop (position_or_len is_end (b ∷ [])) (b ∷ []))) [ true ↦ λ is. lines_end b [] is | false ↦ λ is. lines_last b is ] refl
lines-first b (c ∷ cs) = elim (is_end b) as (λ v. is_end b ≡ v → lines_of (b ∷ c ∷ cs) ≡ take (position_or_len is_end (b ∷ c ∷ cs)) (b ∷ c ∷ cs) ∷ below (drop (position_or_len is_end (b ∷ c ∷ cs)) (b ∷ c ∷ cs))) [ true ↦ λ is. lines_end b (c ∷ cs) is | false ↦ λ is. lines_more b c cs is (lines-first c cs) ] refl

lines_cut : (text line rest : List ℕ) (n : ℕ) → 0 < length text → n ≡ position_or_len is_end text → line ≡ take n text → rest ≡ drop n text → lines_of text ≡ line ∷ below rest
lines_cut [] line rest n some at front back = absurd (omega arith)
lines_cut (b ∷ bs) line rest n some at front back = rw (front, back, at) (lines-first b bs)

-- a text without an end of a line
pub lines_before : (text line rest : List ℕ) (n : ℕ) → 0 < length text → n ≡ position_or_len is_end text → line ≡ take n text → rest ≡ drop n text → length rest < 1 → lines_of text ≡ line ∷ lines_of rest
unfolding lines_of
lines_before text line [] n some at front back none = lines_cut text line [] n some at front back
lines_before text line (c ∷ cs) n some at front back none = absurd (omega arith)

-- a text with one
pub lines_above : (text line rest : List ℕ) (n : ℕ) → 0 < length text → n ≡ position_or_len is_end text → line ≡ take n text → rest ≡ drop n text → 1 ≤ length rest → lines_of text ≡ line ∷ lines_of (take (length rest - 1) (drop 1 rest))
lines_above text line [] n some at front back one = absurd (omega arith)
lines_above text line (c ∷ cs) n some at front back one = lines_cut text line (c ∷ cs) n some at front back ∙ ap (λ r. line ∷ lines_of r) (sym (take_all (suc (length cs) - 1) cs (omega arith)))

pub no_lines : (text : List ℕ) → length text ≡ 0 → lines_of text ≡ []
unfolding lines_of
no_lines [] none = refl
no_lines (b ∷ bs) none = absurd (omega arith)
