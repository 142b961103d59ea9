use Rattle.std.proofs.Common.{◌≡◌, drop}
use Rattle.def_syntax.specs.SyntaxLines.{raw_operands_of}
use Rattle.ic_items.specs.Views.{terms_seen}
use Rattle.ic_syntax.specs.TokenTexts.{lexemes_seen}
use Rattle.ic_syntax.proofs.Reading.{behind}
use Rattle.ic_syntax.proofs.line.raw_operands_of.Given as goal

abbrev pub invariant-loop-word : goal.invariant-loop-word
invariant-loop-word l = raw_operands_of (lexemes_seen l.words) ≡ behind (terms_seen l.terms) (raw_operands_of (lexemes_seen (drop l.word-index l.words)))
