-- Where the numbers of a line end.
use Rattle.std.proofs.Common.{◌≡◌, ℕ, ℤ, ◌≤◌, ◌++◌, Bool, true, false, not, List, [], ◌∷◌, length, take, drop, refl, ap, ◌∙◌, arith}
use Rattle.std.specs.Prelude.{pos, negsuc, get_or, Option, Some, None, option_map}
use Rattle.std.specs.List.{position_or_len}
use Rattle.std.proofs.Math.Numerals.{one-add}
use Rattle.ic_base.specs.declared.scenario.Op.{Op}
use Rattle.ic_base.specs.declared.events.Stop.{Stop}
use Rattle.def_syntax.specs.Text as text
use Rattle.def_syntax.specs.Text.{look_up, fixed_words, operators}
use Rattle.def_syntax.specs.Schedule.{InputOf, is_count, request_of, values_then_stop, stop_of}
use Rattle.ic_tokens.specs.declared.scan.Token.{Token}
use Rattle.ic_tokens.specs.declared.scan.TokenKind.{TokenKind}
use Rattle.ic_tokens.specs.declared.scan.TokenKind.TheVariants.{Number, Name, Fixed, Operator}
use Rattle.ic_tokens.specs.Views.{found_as, seen_token, seen_tokens}
use Rattle.def_syntax.specs.SyntaxLines.{name_in}
use Rattle.ic_plan.specs.RawEvent.{is_number, values_seen}

abbrev pub is_other : Token → Bool
is_other t = not (is_number t.kind)

fixed_end : (o : Option text.Fixed) (w : List ℕ) (rest : List text.Token) → values_then_stop (found_as text.Fixed_word w o ∷ rest) ≡ option_map (λ s. ([], s)) (stop_of (found_as text.Fixed_word w o ∷ rest))
fixed_end None w rest = refl
fixed_end (Some f) w rest = refl

operator_end : (o : Option Op) (w : List ℕ) (rest : List text.Token) → values_then_stop (found_as text.Operator w o ∷ rest) ≡ option_map (λ s. ([], s)) (stop_of (found_as text.Operator w o ∷ rest))
operator_end None w rest = refl
operator_end (Some f) w rest = refl

-- values in front of a stop
abbrev pub with_stop : List ℤ → Option Stop → List ℤ × Option Stop
with_stop zs s = (zs, s)

abbrev and_more : ℤ → List ℤ × Option Stop → List ℤ × Option Stop
and_more z x = (z ∷ x.0, x.1)

one_more : (z : ℤ) (zs : List ℤ) (o : Option (Option Stop)) → option_map (and_more z) (option_map (with_stop zs) o) ≡ option_map (with_stop (z ∷ zs)) o
one_more z zs None = refl
one_more z zs (Some s) = refl

-- what the numbers in front and the rest give
abbrev Splits : List ℕ → List Token → ℕ → Type 0
Splits line ts n = values_then_stop (seen_tokens line ts) ≡ option_map (with_stop (values_seen (take n ts))) (stop_of (seen_tokens line (drop n ts)))

splits_at : (line : List ℕ) (k : TokenKind) (place long : ℕ) (ts : List Token) → Splits line ts (position_or_len is_other ts)
    → Splits line (record { kind = k; place = place; length = long } ∷ ts) (position_or_len is_other (record { kind = k; place = place; length = long } ∷ ts))
splits_at line (Number z) place long ts rest = rw one-add (ap (option_map (and_more z)) rest ∙ one_more z (values_seen (take (position_or_len is_other ts) ts)) (stop_of (seen_tokens line (drop (position_or_len is_other ts) ts))))
splits_at line Name place long ts rest = refl
splits_at line Fixed place long ts rest = fixed_end (look_up (take long (drop place line)) fixed_words) (take long (drop place line)) (seen_tokens line ts)
splits_at line Operator place long ts rest = operator_end (look_up (take long (drop place line)) operators) (take long (drop place line)) (seen_tokens line ts)

pub values_split : (line : List ℕ) (ts : List Token) → Splits line ts (position_or_len is_other ts)
values_split line [] = refl
values_split line (t ∷ ts) = splits_at line t.kind t.place t.length ts (values_split line ts)

-- the same at a cut that was made
pub values_cut : (line : List ℕ) (ts values rest : List Token) (n : ℕ) → n ≡ position_or_len is_other ts → values ≡ take n ts → rest ≡ drop n ts
    → values_then_stop (seen_tokens line ts) ≡ option_map (with_stop (values_seen values)) (stop_of (seen_tokens line rest))
values_cut line ts values rest n at front back = rw (front, back, at) (values_split line ts)

-- no word is a number
fixed_none : (o : Option text.Fixed) (w : List ℕ) → is_count (found_as text.Fixed_word w o) ≡ false
fixed_none None w = refl
fixed_none (Some f) w = refl

operator_none : (o : Option Op) (w : List ℕ) → is_count (found_as text.Operator w o) ≡ false
operator_none None w = refl
operator_none (Some f) w = refl

-- a number of at least 0
abbrev IsCount : TokenKind → Type 0
IsCount k = (n : ℕ) × (k ≡ Number (pos n))

count_kind : (line : List ℕ) (k : TokenKind) (place long : ℕ) → is_count (seen_token line (record { kind = k; place = place; length = long })) ≡ true → IsCount k
count_kind line (Number (pos n)) place long e = (n, refl)
count_kind line (Number (negsuc n)) place long e = absurd (cc)
count_kind line Name place long e = absurd (cc)
count_kind line Fixed place long e = let no = fixed_none (look_up (take long (drop place line)) fixed_words) (take long (drop place line)) in absurd (cc)
count_kind line Operator place long e = let no = operator_none (look_up (take long (drop place line)) operators) (take long (drop place line)) in absurd (cc)

-- a request with its two numbers, a Pcom and a handler in front of further values
pub request_split : (line : List ℕ) (ts : List Token) (d : Token) (c h : List ℕ) (vs : List ℤ) (s : Option Stop) → 4 ≤ length ts
    → is_count (seen_token line (get_or ts 0 d)) ≡ true → is_count (seen_token line (get_or ts 1 d)) ≡ true → name_in (seen_token line (get_or ts 2 d)) ≡ Some c → name_in (seen_token line (get_or ts 3 d)) ≡ Some h
    → values_then_stop (seen_tokens line (drop 4 ts)) ≡ Some (vs, s) → request_of (seen_tokens line ts) ≡ Some (InputOf c h (values_seen (take 2 ts) ++ vs), s)
request_split line [] d c h vs s long a b e f g = absurd (omega (arith, long))
request_split line (u ∷ []) d c h vs s long a b e f g = absurd (omega (arith, long))
request_split line (u ∷ q ∷ []) d c h vs s long a b e f g = absurd (omega (arith, long))
request_split line (u ∷ q ∷ x ∷ []) d c h vs s long a b e f g = absurd (omega (arith, long))
request_split line (u ∷ q ∷ x ∷ y ∷ ts) d c h vs s long a b e f g = by u.kind q.kind (count_kind line u.kind u.place u.length a) (count_kind line q.kind q.place q.length b) refl refl
  where
    by : (k l : TokenKind) → IsCount k → IsCount l → u.kind ≡ k → q.kind ≡ l → request_of (seen_tokens line (u ∷ q ∷ x ∷ y ∷ ts)) ≡ Some (InputOf c h (values_seen (u ∷ q ∷ []) ++ vs), s)
    by k l m n i j = rw (i, j, m.1, n.1, e, f, g) refl
