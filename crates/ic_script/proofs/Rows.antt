-- The numbers of a book's line.
use Rattle.std.proofs.Common.{◌≡◌, ◌∙◌, ap, refl, ℕ, List, [], ◌∷◌, Bool, true, false, ◌&&◌, length, arith}
use Rattle.std.proofs.lemmas.Bool.{le-leb}
use Rattle.std.proofs.lemmas.List.{length-map}
use Rattle.std.specs.Prelude.{Option, Some, None, pos, nat_le, option_and_then, if◌then◌else◌}
use Rattle.std.specs.List.{list_all}
use Rattle.ic_base.specs.declared.scenario.Op.{Op}
use Rattle.def_syntax.specs.Text as text
use Rattle.def_syntax.specs.Text.{look_up, fixed_words, operators}
use Rattle.def_syntax.specs.SyntaxLines.{both}
use Rattle.def_two.specs.Script as script
use Rattle.def_two.specs.Script.{at_least, values_in, row_of}
use Rattle.ic_tokens.specs.declared.scan.Token.{Token}
use Rattle.ic_tokens.specs.declared.scan.TokenKind.{TokenKind}
use Rattle.ic_tokens.specs.declared.scan.TokenKind.TheVariants.{Number, Name, Fixed, Operator}
use Rattle.ic_tokens.specs.Views.{found_as, seen_kind, seen_tokens, word_at}
use Rattle.ic_script.specs.Views.{is_amount, amount_of, amounts_seen, is_row, if_row}

abbrev number_or_none : Bool → ℕ → Option ℕ
number_or_none true n = Some n
number_or_none false n = None

fixed_none : (o : Option text.Fixed) (w : List ℕ) → at_least 0 (found_as text.Fixed_word w o) ≡ None
fixed_none None w = refl
fixed_none (Some f) w = refl

operator_none : (o : Option Op) (w : List ℕ) → at_least 0 (found_as text.Operator w o) ≡ None
operator_none None w = refl
operator_none (Some f) w = refl

one_seen : (k : TokenKind) (w : List ℕ) → at_least 0 (seen_kind k w) ≡ number_or_none (is_amount k) (amount_of k)
one_seen (Number (pos n)) w = ap (λ z. if z then Some n else None) (le-leb 0 n (omega arith))
one_seen (Number z) w = refl
one_seen Name w = refl
one_seen Fixed w = fixed_none (look_up w fixed_words) w
one_seen Operator w = operator_none (look_up w operators) w

abbrev are_amounts : List Token → Bool
are_amounts ts = list_all (λ (t : Token). is_amount t.kind) ts

joined : (b : Bool) (n : ℕ) (all : Bool) (ns : List ℕ) → both (λ x xs. x ∷ xs) (number_or_none b n) (if_row all ns) ≡ if_row (b && all) (n ∷ ns)
joined true n true ns = refl
joined true n false ns = refl
joined false n all ns = refl

pub values_seen : (line : List ℕ) (ts : List Token) → values_in (seen_tokens line ts) ≡ if_row (are_amounts ts) (amounts_seen ts)
values_seen line [] = refl
values_seen line (t ∷ ts) =
    ap (λ o. both (λ x xs. x ∷ xs) o (values_in (seen_tokens line ts))) (one_seen t.kind (word_at line t))
    ∙ ap (both (λ x xs. x ∷ xs) (number_or_none (is_amount t.kind) (amount_of t.kind))) (values_seen line ts)
    ∙ joined (is_amount t.kind) (amount_of t.kind) (are_amounts ts) (amounts_seen ts)

assoc : (a b c : Bool) → ((a && b) && c) ≡ (a && (b && c))
assoc true b c = refl
assoc false b c = refl

if_all : (c : Bool) (xs : List ℕ) → (if c then Some xs else None) ≡ if_row (c && true) xs
if_all true xs = refl
if_all false xs = refl

if_none : (c : Bool) (xs : List ℕ) → None ≡ if_row (c && false) xs
if_none true xs = refl
if_none false xs = refl

tested : (all : Bool) (xs : List ℕ) → option_and_then row_of (if_row all xs) ≡ if_row (script.is_row xs && all) xs
tested true xs = if_all (script.is_row xs) xs
tested false xs = if_none (script.is_row xs) xs

-- the values of a row
pub row_seen : (line : List ℕ) (ts : List Token) → option_and_then row_of (values_in (seen_tokens line ts)) ≡ if_row (is_row ts) (amounts_seen ts)
row_seen line ts =
    ap (option_and_then row_of) (values_seen line ts) ∙ tested (are_amounts ts) (amounts_seen ts)
    ∙ ap (λ n. if_row ((nat_le 1 n && nat_le n 64) && are_amounts ts) (amounts_seen ts)) (length-map ts (λ (t : Token). amount_of t.kind))
    ∙ ap (λ z. if_row z (amounts_seen ts)) (assoc (nat_le 1 (length ts)) (nat_le (length ts) 64) (are_amounts ts))

abbrev book_for : List ℕ → Option (List ℕ) → Option script.ScriptLine
book_for name row = option_and_then script.book_line (both (λ n x. (n, x)) (Some name) row)

-- a line whose values are no row is none of a book
pub no_row : (line name : List ℕ) (ts : List Token) → is_row ts ≡ false → option_and_then script.book_line (both (λ n x. (n, x)) (Some name) (option_and_then row_of (values_in (seen_tokens line ts)))) ≡ None
no_row line name ts is = ap (book_for name) (row_seen line ts ∙ ap (λ z. if_row z (amounts_seen ts)) is)

abbrev if_named : Bool → script.ScriptLine → Option script.ScriptLine
if_named true l = Some l
if_named false l = None

named_as : (c : Bool) (l : script.ScriptLine) → (if c then Some l else None) ≡ if_named c l
named_as true l = refl
named_as false l = refl

-- and else it is one where the name is one of a book
pub book_seen : (line name : List ℕ) (ts : List Token) (named : Bool) → is_row ts ≡ true → script.is_component_name name ≡ named
    → option_and_then script.book_line (both (λ n x. (n, x)) (Some name) (option_and_then row_of (values_in (seen_tokens line ts)))) ≡ if_named named (script.BookOf name (amounts_seen ts))
book_seen line name ts named is own =
    ap (book_for name) (row_seen line ts ∙ ap (λ z. if_row z (amounts_seen ts)) is)
    ∙ named_as (script.is_component_name name) (script.BookOf name (amounts_seen ts)) ∙ ap (λ z. if_named z (script.BookOf name (amounts_seen ts))) own
