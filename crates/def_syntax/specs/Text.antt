-- The lines of a text, and the tokens of a line.
use Rattle.std.specs.Prelude.{ℕ, ℤ, pos, neg_ℤ, ◌+◌, ◌-◌, ◌*◌, List, [], ◌∷◌, length, Bool, false, not, ◌&&◌, ◌||◌, Option, Some, None, option_map, Result, Ok, Err, nat_lt, nat_le, ◌==◌, if◌then◌else◌, codes, bytes_eq, take_while}
use Rattle.ic_base.specs.declared.limits.TheConstants.{NAME_CHARACTERS}
use Rattle.std.specs.List.{list_all}
use Rattle.std.specs.Char.{is_ascii_digit, is_ascii_lowercase}
use Rattle.ic_base.specs.declared.scenario.Op.{Op}
use Rattle.ic_base.specs.declared.scenario.Op.TheVariants.{Add, Sub, Mul, Less, AtMost, Equal, NotEqual, AtLeast, Greater}
use Rattle.ic_base.specs.declared.refusals.Cause.{Cause}
use Rattle.ic_base.specs.declared.refusals.Cause.TheVariants.{NotText, Word}

infixl 10 ◌>>=◌
abbrev pub ◌>>=◌ : {A B E : Type 0} → Result A E → (A → Result B E) → Result B E
(Ok x) >>= f = f x
(Err e) >>= f = Err e

-- a byte in front of the first line
abbrev pub onto_first : ℕ → List (List ℕ) → List (List ℕ)
onto_first b [] = (b ∷ []) ∷ []
onto_first b (l ∷ ls) = (b ∷ l) ∷ ls

-- the lines, each ended by a byte 10; a last one without it counts where it isn't empty
unfoldable pub lines_of : List ℕ → List (List ℕ)
lines_of [] = []
lines_of (b ∷ bs) = if b == 10 then [] ∷ lines_of bs else onto_first b (lines_of bs)

-- each with its number
abbrev pub numbered : {X : Type 0} → ℕ → List X → List (ℕ × X)
numbered n [] = []
numbered n (x ∷ xs) = (n, x) ∷ numbered (n + 1) xs

abbrev pub is_blank : ℕ → Bool
is_blank b = (b == 32) || (b == 9) || (b == 13)

-- a byte that a line may have
abbrev pub is_text : ℕ → Bool
is_text b = is_blank b || (nat_le 0x20 b && nat_le b 0x7E)

-- the pieces between blanks, empty ones too
unfoldable pub pieces : List ℕ → List (List ℕ)
pieces [] = [] ∷ []
pieces (b ∷ bs) = if is_blank b then [] ∷ pieces bs else onto_first b (pieces bs)

-- the pieces that aren't empty, each with its place, where the first piece begins at this place
abbrev pub words_from : ℕ → List (List ℕ) → List (ℕ × List ℕ)
words_from at [] = []
words_from at ([] ∷ ps) = words_from (at + 1) ps
words_from at ((b ∷ bs) ∷ ps) = (at, b ∷ bs) ∷ words_from (at + length (b ∷ bs) + 1) ps

-- the words of a line, in front of its comment
abbrev pub words_of : List ℕ → List (ℕ × List ℕ)
words_of line = words_from 0 (pieces (take_while (λ b. not (b == 35)) line))

-- the fixed words of a scenario
pub data Fixed : Type 0 where
  XcomWord TcomWord PcomWord ImmediateWord VarWord KeyWord OnWord SetWord SendWord OutWord IfWord ElseWord TxnWord GetWord PutWord NeedWord EndWord : Fixed

abbrev pub fixed_words : List (List ℕ × Fixed)
fixed_words =
    (codes "xcom", XcomWord) ∷ (codes "tcom", TcomWord) ∷ (codes "pcom", PcomWord) ∷ (codes "immediate", ImmediateWord) ∷ (codes "var", VarWord) ∷ (codes "key", KeyWord)
    ∷ (codes "on", OnWord) ∷ (codes "set", SetWord) ∷ (codes "send", SendWord) ∷ (codes "out", OutWord) ∷ (codes "if", IfWord) ∷ (codes "else", ElseWord)
    ∷ (codes "txn", TxnWord) ∷ (codes "get", GetWord) ∷ (codes "put", PutWord) ∷ (codes "need", NeedWord) ∷ (codes "end", EndWord) ∷ []

abbrev pub operators : List (List ℕ × Op)
operators =
    (codes "+", Add) ∷ (codes "-", Sub) ∷ (codes "*", Mul) ∷ (codes "<", Less) ∷ (codes "<=", AtMost) ∷ (codes "=", Equal) ∷ (codes "!=", NotEqual) ∷ (codes ">=", AtLeast)
    ∷ (codes ">", Greater) ∷ []

-- what stands beside this word
abbrev pub look_up : {X : Type 0} → List ℕ → List (List ℕ × X) → Option X
look_up word [] = None
look_up word (e ∷ es) = if bytes_eq word e.0 then Some e.1 else look_up word es

pub data Token : Type 0 where
  Number : ℤ → Token
  Name : List ℕ → Token
  Fixed_word : Fixed → Token
  Operator : Op → Token

-- a lower-case letter, then such letters, digits and `_`, at most 32 in all
abbrev pub is_name : List ℕ → Bool
is_name [] = false
is_name (b ∷ bs) = is_ascii_lowercase b && list_all (λ c. is_ascii_lowercase c || is_ascii_digit c || (c == 95)) bs && nat_lt (length bs) NAME_CHARACTERS

-- the number of these digits behind a number that is read already
abbrev pub digits_behind : ℕ → List ℕ → Option ℕ
digits_behind n [] = Some n
digits_behind n (d ∷ ds) = if is_ascii_digit d then digits_behind (n * 10 + (d - 48)) ds else None

-- one or more digits
abbrev pub natural : List ℕ → Option ℕ
natural [] = None
natural (d ∷ ds) = digits_behind 0 (d ∷ ds)

abbrev pub at_most : ℕ → Option ℕ → Option ℕ
at_most limit None = None
at_most limit (Some n) = if nat_le n limit then Some n else None

-- an optional `-`, then digits, from -2^63 to 2^63 - 1
abbrev pub number_of : List ℕ → Option ℤ
number_of [] = None
number_of (b ∷ bs) = if b == 45 then option_map (λ n. neg_ℤ (pos n)) (at_most 9223372036854775808 (natural bs)) else option_map pos (at_most 9223372036854775807 (natural (b ∷ bs)))

-- the first of these that there is
abbrev pub or_else : {X : Type 0} → Option X → Option X → Option X
or_else None y = y
or_else (Some x) y = Some x

-- the token that a word is, where these words are fixed
unfoldable pub token_with : List (List ℕ × Fixed) → List ℕ → Option Token
token_with words word =
    or_else (option_map Fixed_word (look_up word words))
    (or_else (if is_name word then Some (Name word) else None) (or_else (option_map Number (number_of word)) (option_map Operator (look_up word operators))))

abbrev pub with_token : Option Token → Result (List Token) Cause → Result (List Token) Cause
with_token None rest = Err Word
with_token (Some t) (Ok ts) = Ok (t ∷ ts)
with_token (Some t) (Err cause) = Err cause

abbrev pub all_tokens : List (List ℕ × Fixed) → List (ℕ × List ℕ) → Result (List Token) Cause
all_tokens words [] = Ok []
all_tokens words (w ∷ ws) = with_token (token_with words w.1) (all_tokens words ws)

-- the tokens of a line; else NotText for a byte that isn't allowed, first, and Word for a word that is no token
abbrev pub tokens_with : List (List ℕ × Fixed) → List ℕ → Result (List Token) Cause
tokens_with words line = if list_all is_text line then all_tokens words (words_of line) else Err NotText

-- the tokens of a line of a scenario, and of a schedule, in which the fixed words are names
abbrev pub tokens_of : List ℕ → Result (List Token) Cause
tokens_of line = tokens_with fixed_words line

abbrev pub schedule_tokens_of : List ℕ → Result (List Token) Cause
schedule_tokens_of line = tokens_with [] line
