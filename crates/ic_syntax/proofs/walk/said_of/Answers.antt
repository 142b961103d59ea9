use Rattle.std.proofs.Common.{IsOk, Option, option_map, subst}
use Rattle.def_syntax.specs.Scenario.{seen_if}
use Rattle.ic_items.specs.declared.syntax_line.SyntaxLine.{SyntaxLine}
use Rattle.ic_items.specs.Views.{item_seen}
use Rattle.ic_syntax.proofs.Walks.{takes_within}
use Rattle.ic_syntax.proofs.walk.said_of.Goals as goal

pub resolved-requires : goal.resolved-requires
resolved-requires c =
    let seen = c.args.seen.now in
    takes_within seen (item_seen c.in-Some.item) (subst (λ (item : Option SyntaxLine). IsOk (seen_if seen (option_map item_seen item))) c.in-Some.is c.requires)
