-- What the tokens of a line say, and what is read from them.
use Rattle.std.specs.Prelude.{◌≡◌, List, map, Option, Some, None, Result, Ok, Err}
use Rattle.ic_base.specs.declared.refusals.Cause.TheVariants.{NotText, Word, Memory, Structure}
use Rattle.ic_items.specs.declared.fault.Fault.{Fault}
use Rattle.def_syntax.specs.Text as text
use Rattle.ic_tokens.specs.Words.{fixed_of}
use Rattle.ic_tokens.specs.declared.scan.LineRefused.{LineRefused}
use Rattle.ic_tokens.specs.declared.scan.LineRefused.TheVariants as lines
use Rattle.ic_syntax.specs.declared.token_text.TokenText.{TokenText}
use Rattle.ic_syntax.specs.declared.token_text.TokenText.TheVariants.{Number, Name, Fixed, Operator}

abbrev pub lexeme_seen : TokenText → text.Token
lexeme_seen (Number z) = text.Number z
lexeme_seen (Name n) = text.Name n.now
lexeme_seen (Fixed w) = text.Fixed_word (fixed_of w)
lexeme_seen (Operator op) = text.Operator op

abbrev pub lexemes_seen : List TokenText → List text.Token
lexemes_seen xs = map lexeme_seen xs

-- what is read is what the grammar gives; where the grammar gives nothing the cause is Structure, or want of memory
abbrev pub Reads : {X Y : Type 0} → (X → Y) → Option Y → Result X Fault → Type 0
Reads seen given (Ok x) = given ≡ Some (seen x)
Reads seen given (Err e) = (e.0 ≡ Memory → ⊥) → (given ≡ None) × (e.0 ≡ Structure)

-- the same where nothing is allocated, so that memory is never wanting
abbrev pub ReadsInPlace : {X Y : Type 0} → (X → Y) → Option Y → Result X Fault → Type 0
ReadsInPlace seen given (Ok x) = given ≡ Some (seen x)
ReadsInPlace seen given (Err e) = (given ≡ None) × (e.0 ≡ Structure)

-- the cause of a line without tokens
abbrev pub FaultOf : LineRefused → Fault → Type 0
FaultOf lines.NotText fault = fault.0 ≡ NotText
FaultOf lines.Word fault = fault.0 ≡ Word
FaultOf lines.Memory fault = fault.0 ≡ Memory
