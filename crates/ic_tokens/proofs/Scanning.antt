-- How the tokens of a line are found word by word.
use Rattle.std.proofs.Common.{◌≡◌, ℕ, ◌+◌, ◌-◌, ◌<◌, ◌≤◌, List, [], ◌∷◌, ◌++◌, length, map, take, drop, refl, ap, sym, ◌∙◌, append_assoc, add-zero, not, arith}
use Rattle.std.specs.Prelude.{Some, None, Result, Ok, Err}
use Rattle.std.specs.List.{position_or_len}
use Rattle.std.proofs.lemmas.List.{append-nil, take_rest, take-take, drop-drop, drop-take, drop_all, length-take-le, length-drop, map-append}
use Rattle.std.proofs.lemmas.List.Sums.{prefix_len-le-length}
use Rattle.ic_base.specs.declared.refusals.Cause.{Cause}
use Rattle.ic_base.specs.declared.refusals.Cause.TheVariants.{Word}
use Rattle.def_syntax.specs.Text.{Fixed, Token, is_blank, pieces, words_from, token_with, with_token, all_tokens}
use Rattle.ic_tokens.specs.declared.scan.TokenKind.{TokenKind}
use Rattle.ic_tokens.specs.declared.scan.Token.{Token as LineToken}
use Rattle.ic_tokens.specs.Views.{seen_kind, seen_token, seen_tokens, kind_seen, HasItsKind, placed}
use Rattle.ic_tokens.proofs.Cuts.{behind, pieces-first}

-- tokens in front of those that are still to be found
abbrev pub in_front : List Token → Result (List Token) Cause → Result (List Token) Cause
in_front front (Ok ts) = Ok (front ++ ts)
in_front front (Err cause) = Err cause

pub none_in_front : (r : Result (List Token) Cause) → r ≡ in_front [] r
none_in_front (Ok ts) = refl
none_in_front (Err cause) = refl

one_in_front : (front : List Token) (t : Token) (r : Result (List Token) Cause) → in_front front (with_token (Some t) r) ≡ in_front (front ++ t ∷ []) r
one_in_front front t (Ok ts) = ap Ok (sym (append_assoc front (t ∷ []) ts))
one_in_front front t (Err cause) = refl

-- a word in front of words, where it isn't empty
abbrev word_in_front : ℕ → List ℕ → List (ℕ × List ℕ) → List (ℕ × List ℕ)
word_in_front at [] ws = ws
word_in_front at (b ∷ bs) ws = (at, b ∷ bs) ∷ ws

words-first : (at : ℕ) (word rest : List ℕ) → words_from at (word ∷ behind rest) ≡ word_in_front at word (words_from (at + length word + 1) (pieces (drop 1 rest)))
unfolding pieces
words-first at [] [] = refl
words-first at [] (c ∷ cs) = ap (λ n. words_from (n + 1) (pieces cs)) (sym (add-zero at))
words-first at (b ∷ bs) [] = refl
words-first at (b ∷ bs) (c ∷ cs) = refl

-- the words from a place on: the one that stands there, if any, and those behind it
pub words_at : (text : List ℕ) (place n : ℕ) → n ≡ position_or_len is_blank (take (length text - place) (drop place text))
    → words_from place (pieces (drop place text)) ≡ word_in_front place (take n (drop place text)) (words_from (place + (n + 1)) (pieces (drop (place + (n + 1)) text)))
words_at text place n at =
    let here : n ≡ position_or_len is_blank (drop place text) = at ∙ ap (position_or_len is_blank) (take_rest text place) in
    let first : pieces (drop place text) ≡ take n (drop place text) ∷ behind (drop n (drop place text)) = rw here (pieces-first (drop place text)) in
    let long : length (take n (drop place text)) ≡ n = length-take-le n (drop place text) (rw here (prefix_len-le-length (λ b. not (is_blank b)) (drop place text))) in
    let next : place + length (take n (drop place text)) + 1 ≡ place + (n + 1) = rw long (omega arith) in
    let rest : drop 1 (drop n (drop place text)) ≡ drop (place + (n + 1)) text = ap (drop 1) (drop-drop n place text) ∙ drop-drop 1 (place + n) text ∙ ap (λ k. drop k text) (omega arith) in
    ap (words_from place) first ∙ words-first place (take n (drop place text)) (drop n (drop place text))
    ∙ ap (λ ws. word_in_front place (take n (drop place text)) ws) (ap (λ k. words_from k (pieces (drop 1 (drop n (drop place text))))) next ∙ ap (λ r. words_from (place + (n + 1)) (pieces r)) rest)

-- the word that a line has there, where nothing behind its end is looked at
word_in_line : (line : List ℕ) (end place n : ℕ) → place + n ≤ end → take (place + n - place) (drop place line) ≡ take n (drop place (take end line))
word_in_line line end place n inside =
    let width : place + n - place ≡ n = omega arith in
    let span : end ≡ place + (end - place) = omega arith in
    let short : n ≤ end - place = omega arith in
    rw width (sym (ap (λ e. take n (drop place (take e line))) span ∙ ap (take n) (drop-take place (end - place) line) ∙ take-take n (end - place) (drop place line) short))

word_stands : (at : ℕ) (word : List ℕ) (ws : List (ℕ × List ℕ)) → 0 < length word → word_in_front at word ws ≡ (at, word) ∷ ws
word_stands at [] ws some = absurd (omega arith)
word_stands at (b ∷ bs) ws some = refl

-- all the tokens, by those that were found in front of a place
abbrev pub IsFound : List (List ℕ × Fixed) → List ℕ → ℕ → List Token → Result (List Token) Cause → Type 0
IsFound words text place front all = all ≡ in_front front (all_tokens words (words_from place (pieces (drop place text))))

-- no word stands at the place
no_word : (text : List ℕ) (place n : ℕ) → n ≡ position_or_len is_blank (take (length text - place) (drop place text)) → n ≤ 0
    → words_from place (pieces (drop place text)) ≡ words_from (place + (n + 1)) (pieces (drop (place + (n + 1)) text))
no_word text place n at none =
    let zero_long : take n (drop place text) ≡ [] = rw (le_zero n none) refl in
    words_at text place n at ∙ ap (λ w. word_in_front place w (words_from (place + (n + 1)) (pieces (drop (place + (n + 1)) text)))) zero_long
  where
    le_zero : (n : ℕ) → n ≤ 0 → n ≡ 0
    le_zero n h = omega arith

pub found_blank : (words : List (List ℕ × Fixed)) (text : List ℕ) (place n : ℕ) (front : List Token) (all : Result (List Token) Cause) → n ≡ position_or_len is_blank (take (length text - place) (drop place text)) → n ≤ 0
    → IsFound words text place front all → IsFound words text (place + (n + 1)) front all
found_blank words text place n front all at none found = found ∙ ap (λ ws. in_front front (all_tokens words ws)) (no_word text place n at none)

-- the words from a place on, where one stands there
word_here : (line : List ℕ) (end place n : ℕ) → n ≡ position_or_len is_blank (take (length (take end line) - place) (drop place (take end line))) → 0 < n → place + n ≤ end → end ≤ length line
    → words_from place (pieces (drop place (take end line))) ≡ (place, take (place + n - place) (drop place line)) ∷ words_from (place + (n + 1)) (pieces (drop (place + (n + 1)) (take end line)))
word_here line end place n at some inside fits =
    let word = take n (drop place (take end line)) in
    let rest = words_from (place + (n + 1)) (pieces (drop (place + (n + 1)) (take end line))) in
    let long : 0 < length word = rw (length-take-le n (drop place (take end line)) (rw (length-drop place (take end line), length-take-le end line fits) (omega arith))) some in
    words_at (take end line) place n at ∙ word_stands place word rest long ∙ ap (λ w. (place, w) ∷ rest) (sym (word_in_line line end place n inside))

-- all the tokens, where a word stands at the place
all_at : (words : List (List ℕ × Fixed)) (line : List ℕ) (end place n : ℕ) → n ≡ position_or_len is_blank (take (length (take end line) - place) (drop place (take end line))) → 0 < n → place + n ≤ end → end ≤ length line
    → all_tokens words (words_from place (pieces (drop place (take end line))))
    ≡ with_token (token_with words (take (place + n - place) (drop place line))) (all_tokens words (words_from (place + (n + 1)) (pieces (drop (place + (n + 1)) (take end line)))))
all_at words line end place n at some inside fits = ap (all_tokens words) (word_here line end place n at some inside fits)

-- a word at the place is a token
pub found_word : (words : List (List ℕ × Fixed)) (line : List ℕ) (end place n : ℕ) (front : List Token) (t : Token) (all : Result (List Token) Cause)
    → n ≡ position_or_len is_blank (take (length (take end line) - place) (drop place (take end line))) → 0 < n → place + n ≤ end → end ≤ length line → token_with words (take (place + n - place) (drop place line)) ≡ Some t
    → IsFound words (take end line) place front all → IsFound words (take end line) (place + (n + 1)) (front ++ t ∷ []) all
found_word words line end place n front t all at some inside fits is found =
    let rest = all_tokens words (words_from (place + (n + 1)) (pieces (drop (place + (n + 1)) (take end line)))) in
    found ∙ ap (in_front front) (all_at words line end place n at some inside fits ∙ ap (λ o. with_token o rest) is) ∙ one_in_front front t rest

-- a word at the place is none
pub found_none : (words : List (List ℕ × Fixed)) (line : List ℕ) (end place n : ℕ) (front : List Token) (all : Result (List Token) Cause)
    → n ≡ position_or_len is_blank (take (length (take end line) - place) (drop place (take end line))) → 0 < n → place + n ≤ end → end ≤ length line → token_with words (take (place + n - place) (drop place line)) ≡ None
    → IsFound words (take end line) place front all → all ≡ Err Word
found_none words line end place n front all at some inside fits is found =
    let rest = all_tokens words (words_from (place + (n + 1)) (pieces (drop (place + (n + 1)) (take end line)))) in
    found ∙ ap (in_front front) (all_at words line end place n at some inside fits ∙ ap (λ o. with_token o rest) is)

-- nothing is left behind the end
pub found_all : (words : List (List ℕ × Fixed)) (text : List ℕ) (place : ℕ) (front : List Token) (all : Result (List Token) Cause) → length text ≤ place → IsFound words text place front all → all ≡ Ok front
unfolding pieces
found_all words text place front all past found =
    found ∙ ap (λ r. in_front front (all_tokens words (words_from place (pieces r)))) (drop_all place text past) ∙ ap Ok (append-nil front)

-- how far a word goes
pub word_inside : (line : List ℕ) (end place n : ℕ) → place < end → end ≤ length line → n ≤ length (take (length (take end line) - place) (drop place (take end line))) → place + n ≤ end
word_inside line end place n before fits short =
    let long : length (take end line) ≡ end = length-take-le end line fits in
    let h : n ≤ end - place = rw (take_rest (take end line) place, length-drop place (take end line), long) at short in
    omega arith

-- the token that a word at the place is goes behind those that were found
pub found_push : (words : List (List ℕ × Fixed)) (line : List ℕ) (end place n : ℕ) (kind : TokenKind) (ts new : List LineToken) (all : Result (List Token) Cause)
    → n ≡ position_or_len is_blank (take (length (take end line) - place) (drop place (take end line))) → 0 < n → place + n ≤ end → end ≤ length line
    → token_with words (take (place + n - place) (drop place line)) ≡ Some (seen_kind kind (take (place + n - place) (drop place line))) → new ≡ ts ++ record { kind = kind; place = place; length = n } ∷ []
    → IsFound words (take end line) place (seen_tokens line ts) all → IsFound words (take end line) (place + (n + 1)) (seen_tokens line new) all
found_push words line end place n kind ts new all at some inside fits is pushed found =
    let width : place + n - place ≡ n = omega arith in
    let t : LineToken = record { kind = kind; place = place; length = n } in
    let told : token_with words (take (place + n - place) (drop place line)) ≡ Some (seen_token line t) = is ∙ ap (λ k. Some (seen_kind kind (take k (drop place line)))) width in
    let rest = all_tokens words (words_from (place + (n + 1)) (pieces (drop (place + (n + 1)) (take end line)))) in
    found_word words line end place n (seen_tokens line ts) (seen_token line t) all at some inside fits told found ∙ ap (λ f. in_front f rest) (sym (ap (seen_tokens line) pushed ∙ map-append (seen_token line) ts (t ∷ [])))

-- all the words, by the places of the tokens that were found in front of a place
abbrev pub ArePlaced : List ℕ → List ℕ → ℕ → List LineToken → List (ℕ × List ℕ) → Type 0
ArePlaced line text place ts all = all ≡ map (placed line) ts ++ words_from place (pieces (drop place text))

-- no word stands at the place
pub placed_blank : (line text : List ℕ) (place n : ℕ) (ts : List LineToken) (all : List (ℕ × List ℕ)) → n ≡ position_or_len is_blank (take (length text - place) (drop place text)) → n ≤ 0
    → ArePlaced line text place ts all → ArePlaced line text (place + (n + 1)) ts all
placed_blank line text place n ts all at none are = are ∙ ap (λ ws. map (placed line) ts ++ ws) (no_word text place n at none)

-- the token that a word at the place is goes behind those that were found
pub placed_push : (line : List ℕ) (end place n : ℕ) (kind : TokenKind) (ts new : List LineToken) (all : List (ℕ × List ℕ))
    → n ≡ position_or_len is_blank (take (length (take end line) - place) (drop place (take end line))) → 0 < n → place + n ≤ end → end ≤ length line → new ≡ ts ++ record { kind = kind; place = place; length = n } ∷ []
    → ArePlaced line (take end line) place ts all → ArePlaced line (take end line) (place + (n + 1)) new all
placed_push line end place n kind ts new all at some inside fits pushed are =
    let width : place + n - place ≡ n = omega arith in
    let t : LineToken = record { kind = kind; place = place; length = n } in
    let rest = words_from (place + (n + 1)) (pieces (drop (place + (n + 1)) (take end line))) in
    let here : words_from place (pieces (drop place (take end line))) ≡ placed line t ∷ rest = word_here line end place n at some inside fits ∙ ap (λ k. (place, take k (drop place line)) ∷ rest) width in
    are ∙ ap (λ ws. map (placed line) ts ++ ws) here ∙ sym (append_assoc (map (placed line) ts) (placed line t ∷ []) rest)
    ∙ ap (λ ws. ws ++ rest) (sym (ap (map (placed line)) pushed ∙ map-append (placed line) ts (t ∷ [])))

-- nothing is left behind the end
pub placed_all : (line text : List ℕ) (place : ℕ) (ts : List LineToken) (all : List (ℕ × List ℕ)) → length text ≤ place → ArePlaced line text place ts all → all ≡ map (placed line) ts
unfolding pieces
placed_all line text place ts all past are = are ∙ ap (λ r. map (placed line) ts ++ words_from place (pieces r)) (drop_all place text past) ∙ append-nil (map (placed line) ts)

-- it has the kind of what it says
pub kind_here : (line : List ℕ) (place n : ℕ) (kind : TokenKind) → kind_seen (seen_kind kind (take (place + n - place) (drop place line))) ≡ kind → HasItsKind line (record { kind = kind; place = place; length = n })
kind_here line place n kind is =
    let width : place + n - place ≡ n = omega arith in
    sym (ap (λ k. kind_seen (seen_kind kind (take k (drop place line)))) width) ∙ is
