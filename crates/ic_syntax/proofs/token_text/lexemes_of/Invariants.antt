use Rattle.std.proofs.Common.{◌≡◌, take}
use Rattle.ic_tokens.specs.Views.{seen_tokens}
use Rattle.ic_syntax.specs.TokenTexts.{lexemes_seen}
use Rattle.ic_syntax.proofs.token_text.lexemes_of.Given as goal

abbrev pub invariant-loop-token : goal.invariant-loop-token
invariant-loop-token l = lexemes_seen l.lexemes.items ≡ seen_tokens l.line (take l.token-index l.tokens)
