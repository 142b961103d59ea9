-- The definitions on short texts.
use Rattle.std.specs.Prelude.{◌≡◌, negsuc, [], ◌∷◌, true, Some, Ok, Err, codes, refl}
use Rattle.ic_base.specs.declared.scenario.Op.TheVariants.{Add, Sub}
use Rattle.ic_base.specs.declared.refusals.Cause.TheVariants.{NotText, Word, Structure}
use Rattle.def_syntax.specs.Text.{lines_of, pieces, words_of, token_with, tokens_of, Number, Name, Fixed_word, Operator, SetWord}
use Rattle.def_syntax.specs.SyntaxLines.{Named, Double, SetItem, PcomItem, line_item, item_with}

pub lines-example : lines_of (codes "ab\n\nc") ≡ codes "ab" ∷ [] ∷ codes "c" ∷ []
unfolding lines_of
lines-example = refl

pub words-example : words_of (codes " ab\tc #d") ≡ (1, codes "ab") ∷ (4, codes "c") ∷ []
unfolding pieces
words-example = refl

pub tokens-example : tokens_of (codes "set x -07 - a_1") ≡ Ok (Fixed_word SetWord ∷ Name (codes "x") ∷ Number (negsuc 6) ∷ Operator Sub ∷ Name (codes "a_1") ∷ [])
unfolding pieces token_with
tokens-example = refl

pub word-example : tokens_of (codes "set 9223372036854775808") ≡ Err Word
unfolding pieces token_with
word-example = refl

pub text-example : tokens_of (5 ∷ codes " ?") ≡ Err NotText
unfolding pieces token_with
text-example = refl

pub line-example : line_item (codes "  set total total + n # more") ≡ Ok (Some (SetItem (codes "total") (Double (Named (codes "total")) Add (Named (codes "n")))))
unfolding line_item item_with pieces token_with
line-example = refl

pub structure-example : line_item (codes "set total +") ≡ Err Structure
unfolding line_item item_with pieces token_with
structure-example = refl

pub pcom-example : line_item (codes "pcom a immediate") ≡ Ok (Some (PcomItem (codes "a") true))
unfolding line_item item_with pieces token_with
pcom-example = refl
