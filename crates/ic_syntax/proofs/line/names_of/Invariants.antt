use Rattle.std.proofs.Common.{◌≡◌, drop}
use Rattle.def_syntax.specs.SyntaxLines.{names_of}
use Rattle.ic_syntax.specs.TokenTexts.{lexemes_seen}
use Rattle.ic_syntax.proofs.Reading.{behind}
use Rattle.ic_syntax.proofs.line.names_of.Given as goal

abbrev pub invariant-loop-word : goal.invariant-loop-word
invariant-loop-word l = names_of (lexemes_seen l.words) ≡ behind l.names (names_of (lexemes_seen (drop l.word-index l.words)))
