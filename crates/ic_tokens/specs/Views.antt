-- The tokens that the tokens of a line stand for.
use Rattle.std.specs.Prelude.{◌≡◌, ℕ, Bool, true, false, List, [], map, take, drop, Option, Some, None, Result, Err}
use Rattle.ic_base.specs.declared.refusals.Cause.{Cause}
use Rattle.ic_base.specs.declared.refusals.Cause.TheVariants as causes
use Rattle.def_syntax.specs.Text as text
use Rattle.def_syntax.specs.Text.{look_up, fixed_words, operators}
use Rattle.ic_tokens.specs.declared.scan.TokenKind.{TokenKind}
use Rattle.ic_tokens.specs.declared.scan.TokenKind.TheVariants.{Number, Name, Fixed, Operator}
use Rattle.ic_tokens.specs.declared.scan.Token.{Token}
use Rattle.ic_tokens.specs.declared.scan.LineRefused.{LineRefused}
use Rattle.ic_tokens.specs.declared.scan.LineRefused.TheVariants.{NotText, Word, Memory}

-- the token of what was found beside a word, which is a name where nothing was
abbrev pub found_as : {X : Type 0} → (X → text.Token) → List ℕ → Option X → text.Token
found_as f word None = text.Name word
found_as f word (Some x) = f x

-- the token of this kind that a word is
abbrev pub seen_kind : TokenKind → List ℕ → text.Token
seen_kind (Number z) word = text.Number z
seen_kind Name word = text.Name word
seen_kind Fixed word = found_as text.Fixed_word word (look_up word fixed_words)
seen_kind Operator word = found_as text.Operator word (look_up word operators)

-- the word that stands where a token is
abbrev pub word_at : List ℕ → Token → List ℕ
word_at line t = take t.length (drop t.place line)

abbrev pub seen_token : List ℕ → Token → text.Token
seen_token line t = seen_kind t.kind (word_at line t)

abbrev pub seen_tokens : List ℕ → List Token → List text.Token
seen_tokens line ts = map (seen_token line) ts

-- the kind of a token
abbrev pub kind_seen : text.Token → TokenKind
kind_seen (text.Number z) = Number z
kind_seen (text.Name n) = Name
kind_seen (text.Fixed_word w) = Fixed
kind_seen (text.Operator op) = Operator

-- a token has the kind of what it says
abbrev pub HasItsKind : List ℕ → Token → Type 0
HasItsKind line t = kind_seen (seen_token line t) ≡ t.kind

-- where a token stands, and its word
abbrev pub placed : List ℕ → Token → ℕ × List ℕ
placed line t = (t.place, word_at line t)

-- the words that are fixed, in a scenario or in a schedule
abbrev pub fixed_if : Bool → List (List ℕ × text.Fixed)
fixed_if true = fixed_words
fixed_if false = []

-- a line is refused for this; want of memory says nothing of it
abbrev pub RefusedFor : {X : Type 0} → Result X Cause → LineRefused → Type 0
RefusedFor read NotText = read ≡ Err causes.NotText
RefusedFor read Word = read ≡ Err causes.Word
RefusedFor read Memory = Unit {0}
