-- Tcoms with as many keys as there may be: each key is an `a` and its number.
use Rattle.std.proofs.Common.{◌≡◌, ◌∙◌, sym, ap, refl, subst, arith, ◌<◌, ◌≤◌, ◌+◌, ◌*◌, ◌^◌, ◌%◌, ℕ, ℤ, zero, suc, pos, List, [], ◌∷◌, ◌++◌, length, map, Bool, true, false, not, ◌||◌, Some, Ok, codes, decimal, bytes_eq, take_while, append-nil, length-append, lit<, le_refl, add-zero, lit≤, take_all}
use Rattle.std.specs.Prelude.{◌==◌, nat_lt}
use Rattle.std.specs.List.{list_all, prefix_len}
use Rattle.std.specs.Char.{is_ascii_digit, is_ascii_lowercase}
use Rattle.std.proofs.lemmas.Bool.{false_from_ne_true}
use Rattle.std.proofs.lemmas.Bool.Decides.{nat_tests}
use Rattle.std.proofs.lemmas.Fmt.{decimal_by_steps, decimal_injective, length-decimal-le}
use Rattle.std.proofs.lemmas.List.Folds.{list_any-append}
use Rattle.std.proofs.lemmas.Slice.Eq.{bytes_eq-Decides}
use Rattle.ic_base.specs.declared.messages.Kind.TheVariants.{Tcom}
use Rattle.ic_base.specs.declared.scenario.Component.{Component}
use Rattle.def_syntax.specs.Text.{◌>>=◌, lines_of, is_blank, is_text, pieces, words_of, token_with, fixed_words, tokens_of, KeyWord, Name, Number, Fixed_word}
use Rattle.def_syntax.specs.SyntaxLines.{TcomItem, KeyItem, EndItem, item_with, said, line_item}
use Rattle.def_syntax.specs.Scope.{component, is_in}
use Rattle.def_syntax.specs.Lines.{Line, Head, Key, End, component_lines, program_lines}
use Rattle.def_syntax.specs.Scenario.{IsScenario}
use Rattle.def_syntax.specs.Grammar.{NumberedLine, Says, no_line, item_line, Keys, no_key, key, Open, no_component, tcom, Derives}
use Rattle.def_syntax.proofs.Texts.{IsLine, IsWord, lines_cut, lines_last, pieces_cut}
use Rattle.def_syntax.proofs.Whole.{is_scenario}
use Rattle.def_syntax.proofs.StatementLines.{key_line}

-- a letter of a name behind the first
abbrev is_letter : ℕ → Bool
is_letter b = is_ascii_lowercase b || is_ascii_digit b || (b == 95)

-- a byte that may stand inside a name
record IsInside (b : ℕ) : Type 0 where
  letter : is_letter b ≡ true
  line : (b == 10) ≡ false
  blank : is_blank b ≡ false
  comment : (b == 35) ≡ false
  text : is_text b ≡ true

abbrev AllInside : List ℕ → Type 0
AllInside [] = Unit {0}
AllInside (b ∷ bs) = IsInside b × AllInside bs

-- digits may stand there
digit_inside : (d : ℕ) → d < 10 → IsInside (48 + d)
digit_inside d h = record {
  letter = grind (arith, nat_tests);
  line = grind (arith, nat_tests);
  blank = grind (arith, nat_tests);
  comment = grind (arith, nat_tests);
  text = grind (arith, nat_tests);
}

one_more : (ds : List ℕ) (b : ℕ) → AllInside ds → IsInside b → AllInside (ds ++ b ∷ [])
one_more [] b is i = (i, tt)
one_more (d ∷ ds) b is i = (is.0, one_more ds b is.1 i)

decimal_inside : (n : ℕ) → n < 2 ^ 64 → AllInside (decimal n)
decimal_inside n h = decimal_by_steps (λ n ds. AllInside ds) (λ n small. (digit_inside n small, tt)) (λ n ds large is. one_more ds (48 + n % 10) is (digit_inside (n % 10) (omega arith))) n h

-- a key, its line, and what its line says
abbrev name_at : ℕ → List ℕ
name_at i = 97 ∷ decimal i

abbrev line_of : List ℕ → List ℕ
line_of name = 107 ∷ 101 ∷ 121 ∷ 32 ∷ (name ++ 32 ∷ 48 ∷ [])

-- what stands inside a name ends no line and no word, and is text
inside_line : (ds : List ℕ) → AllInside ds → IsLine (ds ++ 32 ∷ 48 ∷ [])
inside_line [] is = (refl, (refl, tt))
inside_line (d ∷ ds) is = (is.0.line, inside_line ds is.1)

inside_word : (ds : List ℕ) → AllInside ds → IsWord ds
inside_word [] is = tt
inside_word (d ∷ ds) is = (is.0.blank, inside_word ds is.1)

-- a line without a comment
abbrev IsBare : List ℕ → Type 0
IsBare [] = Unit {0}
IsBare (b ∷ bs) = ((b == 35) ≡ false) × IsBare bs

inside_bare : (ds : List ℕ) → AllInside ds → IsBare (ds ++ 32 ∷ 48 ∷ [])
inside_bare [] is = (refl, (refl, tt))
inside_bare (d ∷ ds) is = (is.0.comment, inside_bare ds is.1)

-- such a line is read to its end
whole_prefix : (line : List ℕ) → IsBare line → prefix_len (λ b. not (b == 35)) line ≡ length line
whole_prefix [] is = refl
whole_prefix (b ∷ line) is = rw is.0 (rw (whole_prefix line is.1) (omega arith))

whole_line : (line : List ℕ) → IsBare line → take_while (λ b. not (b == 35)) line ≡ line
whole_line line is = rw (whole_prefix line is) (take_all (length line) line (le_refl (length line)))

inside_text : (ds : List ℕ) → AllInside ds → list_all is_text (ds ++ 32 ∷ 48 ∷ []) ≡ true
inside_text [] is = refl
inside_text (d ∷ ds) is = rw is.0.text (inside_text ds is.1)

inside_letters : (ds : List ℕ) → AllInside ds → list_all is_letter ds ≡ true
inside_letters [] is = refl
inside_letters (d ∷ ds) is = rw is.0.letter (inside_letters ds is.1)

-- the tokens of a key's line, and what it says
named : (ds : List ℕ) → AllInside ds → length ds < 32 → token_with fixed_words (97 ∷ ds) ≡ Some (Name (97 ∷ ds))
unfolding token_with
named ds is short =
    let s : nat_lt (length ds) 32 ≡ true = grind (arith, nat_tests) in
    rw (inside_letters ds is) (rw s refl)

key_words : (ds : List ℕ) → AllInside ds → words_of (line_of (97 ∷ ds)) ≡ (0, codes "key") ∷ (4, 97 ∷ ds) ∷ (4 + length (97 ∷ ds) + 1, codes "0") ∷ []
unfolding pieces
key_words ds is = rw (whole_line (line_of (97 ∷ ds)) (refl, (refl, (refl, (refl, (refl, inside_bare ds is)))))) (rw (pieces_cut (97 ∷ ds) 32 (48 ∷ []) (refl, inside_word ds is) refl) refl)

key_tokens : (ds : List ℕ) → AllInside ds → length ds < 32 → tokens_of (line_of (97 ∷ ds)) ≡ Ok (Fixed_word KeyWord ∷ Name (97 ∷ ds) ∷ Number (pos 0) ∷ [])
unfolding token_with
key_tokens ds is short = rw (inside_text ds is) (rw (key_words ds is) (rw (named ds is short) refl))

key_item : (ds : List ℕ) → AllInside ds → length ds < 32 → line_item (line_of (97 ∷ ds)) ≡ Ok (Some (KeyItem (97 ∷ ds) (pos 0)))
unfolding line_item item_with
key_item ds is short = ap (λ r. r >>= said) (key_tokens ds is short)

-- the keys in front of a number, and so many from a number on
abbrev names_below : ℕ → List (List ℕ)
names_below zero = []
names_below (suc i) = names_below i ++ name_at i ∷ []

abbrev cells_from : ℕ → ℕ → List (List ℕ × ℤ)
cells_from i zero = []
cells_from i (suc k) = (name_at i, pos 0) ∷ cells_from (suc i) k

-- two keys differ
apart : (i j : ℕ) → i < j → j < 2 ^ 64 → bytes_eq (name_at j) (name_at i) ≡ false
apart i j h small =
    false_from_ne_true (bytes_eq (decimal j) (decimal i)) (λ e.
    let same : j ≡ i = decimal_injective j i small (omega (arith, h, small)) ((bytes_eq-Decides (decimal j) (decimal i)).0 e) in
    omega (arith, same, h))

-- a key is none of those in front of it
new_name : (i j : ℕ) → i ≤ j → j < 2 ^ 64 → is_in (name_at j) (names_below i) ≡ false
new_name zero j h small = refl
new_name (suc i) j h small =
    rw (list_any-append (λ n. bytes_eq (name_at j) n) (names_below i) (name_at i ∷ []))
    (rw (new_name i j (omega (arith, h)) small) (rw (apart i j (omega (arith, h)) small) refl))

-- there are as many as the number says
count_below : (i : ℕ) → length (names_below i) ≡ i
count_below zero = refl
count_below (suc i) = length-append (names_below i) (name_at i ∷ []) ∙ rw (count_below i) (omega arith)

-- the lines of the keys in the text, what they say, and what they stand for; then the end
abbrev text_lines : ℕ → ℕ → List (List ℕ)
text_lines i zero = codes "end" ∷ []
text_lines i (suc k) = line_of (name_at i) ∷ text_lines (suc i) k

abbrev items_from : ℕ → ℕ → ℕ → List NumberedLine
items_from n i zero = (n, EndItem) ∷ []
items_from n i (suc k) = (n, KeyItem (name_at i) (pos 0)) ∷ items_from (n + 1) (suc i) k

abbrev lines_from : ℕ → ℕ → List Line
lines_from i zero = End ∷ []
lines_from i (suc k) = Key (name_at i) (pos 0) ∷ lines_from (suc i) k

abbrev text_from : ℕ → ℕ → List ℕ
text_from i zero = codes "end"
text_from i (suc k) = line_of (name_at i) ++ 10 ∷ text_from (suc i) k

-- the text in lines
cut_lines : (i k : ℕ) → i + k ≤ 1024 → lines_of (text_from i k) ≡ text_lines i k
cut_lines i zero h = lines_last 101 (codes "nd") (refl, (refl, (refl, tt)))
cut_lines i (suc k) h =
    lines_cut (line_of (name_at i)) (text_from (suc i) k) (refl, (refl, (refl, (refl, (refl, inside_line (decimal i) (decimal_inside i (omega (arith, h)))))))) ∙ ap (λ (ls : List (List ℕ)). line_of (name_at i) ∷ ls) (cut_lines (suc i) k (omega (arith, h)))

-- it is short
few_digits : (i : ℕ) → i < 1024 → length (decimal i) ≤ 4
few_digits i h = length-decimal-le 4 i (omega arith) (omega (arith, h)) (omega (arith, h))

short_text : (i k : ℕ) → i + k ≤ 1024 → length (text_from i k) ≤ 3 + k * 12
short_text i zero h = lit≤ tt
short_text i (suc k) h =
    let a = length-append (line_of (name_at i)) (10 ∷ text_from (suc i) k) in
    let b = length-append (decimal i) (32 ∷ 48 ∷ []) in
    omega (arith, a, b, few_digits i (omega (arith, h)), short_text (suc i) k (omega (arith, h)))

-- what its lines say
end_item : line_item (codes "end") ≡ Ok (Some EndItem)
unfolding line_item item_with token_with pieces
end_item = refl

tcom_item : line_item (codes "tcom t") ≡ Ok (Some (TcomItem (codes "t")))
unfolding line_item item_with token_with pieces
tcom_item = refl

says_keys : (n i k : ℕ) → i + k ≤ 1024 → Says n (text_lines i k) (items_from n i k)
says_keys n i zero h = item_line end_item no_line
says_keys n i (suc k) h = item_line (key_item (decimal i) (decimal_inside i (omega (arith, h))) (omega (arith, few_digits i (omega (arith, h))))) (says_keys (n + 1) (suc i) k (omega (arith, h)))

-- the keys by the grammar, in front of the end of their Tcom
abbrev Ended : ℕ → Open
Ended j = ((j, EndItem) ∷ [], End ∷ [])

abbrev before_end : ℕ → ℕ → ℕ → Open
before_end n i k = (items_from n i k, lines_from i k)

all_keys : (n i k : ℕ) → i + k ≤ 1024 → (j : ℕ) × Keys (names_below i) (before_end n i k) (names_below (i + k)) (Ended j)
all_keys n i zero h = (n, subst (λ (m : ℕ). Keys (names_below i) (Ended n) (names_below m) (Ended n)) (sym (add-zero i)) no_key)
all_keys n i (suc k) h =
    let d = all_keys (n + 1) (suc i) k (omega (arith, h)) in
    let e : suc i + k ≡ i + suc k = omega arith in
    (d.0, subst (λ (m : ℕ). Keys (names_below i) (before_end n i (suc k)) (names_below m) (Ended d.0)) e (key refl (new_name i i (le_refl i) (omega (arith, h))) (rw (count_below i) (omega (arith, h))) d.1))

-- a Tcom with so many keys, and its text
abbrev pub keyed : ℕ → Component
keyed k = record { name = codes "t"; kind = Tcom; immediate = false; vars = []; keys = cells_from 0 k; handlers = [] }

abbrev keyed_text : ℕ → List ℕ
keyed_text k = codes "tcom t" ++ 10 ∷ text_from 0 k

-- the lines of the program
key_lines : (i k : ℕ) → map key_line (cells_from i k) ++ End ∷ [] ≡ lines_from i k
key_lines i zero = refl
key_lines i (suc k) = ap (λ (ls : List Line). Key (name_at i) (pos 0) ∷ ls) (key_lines (suc i) k)

keyed_lines : (k : ℕ) → program_lines (record { components = keyed k ∷ [] }) ≡ Head (codes "t") Tcom false ∷ lines_from 0 k
keyed_lines k =
    append-nil (component_lines (keyed k)) ∙ ap (λ (ls : List Line). Head (codes "t") Tcom false ∷ (ls ++ End ∷ [])) (append-nil (map key_line (cells_from 0 k)))
    ∙ ap (λ (ls : List Line). Head (codes "t") Tcom false ∷ ls) (key_lines 0 k)

pub length-cells : (i k : ℕ) → length (cells_from i k) ≡ k
length-cells i zero = refl
length-cells i (suc k) = ap (λ (n : ℕ). suc n) (length-cells (suc i) k)

-- the grammar gives the text these lines
derived : (k : ℕ) → k ≤ 1024 → Derives (keyed_text k) (Head (codes "t") Tcom false ∷ lines_from 0 k)
derived k h =
    let below : 0 + k ≤ 1024 = omega (arith, h) in
    let d = all_keys 2 0 k below in
    let cut = lines_cut (codes "tcom t") (text_from 0 k) (refl, (refl, (refl, (refl, (refl, (refl, tt)))))) ∙ ap (λ (ls : List (List ℕ)). codes "tcom t" ∷ ls) (cut_lines 0 k below) in
    record {
      short = omega (arith, short_text 0 k below, h);
      all = record (component (codes "t") Tcom) { keys = names_below (0 + k) } ∷ [];
      items = (1, TcomItem (codes "t")) ∷ items_from 2 0 k;
      said = subst (λ (ls : List (List ℕ)). Says 1 ls ((1, TcomItem (codes "t")) ∷ items_from 2 0 k)) (sym cut) (item_line tcom_item (says_keys 2 0 k below));
      components = tcom (record { free = refl; new = refl; few = lit< tt }) d.1 (no_component refl);
    }

-- it is a scenario
pub keyed_scenario : (k : ℕ) → k ≤ 1024 → IsScenario (keyed_text k) (record { components = keyed k ∷ [] })
keyed_scenario k h = is_scenario (keyed_text k) (record { components = keyed k ∷ [] }) (subst (λ (ls : List Line). Derives (keyed_text k) ls) (sym (keyed_lines k)) (derived k h))
