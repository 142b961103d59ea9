use Rattle.std.proofs.Common.{[], ◌∷◌, IsSome, subst}
use Rattle.ic_syntax.specs.Views.{line_seen}
use Rattle.ic_syntax.specs.BuilderStates.{behind, state_of}
use Rattle.ic_syntax.specs.declared.resolve.ResolvedLine.{ResolvedLine}
use Rattle.ic_syntax.specs.ResolvedLine.{said_lines}
use Rattle.ic_syntax.specs.Places.{all_behind}
use Rattle.ic_syntax.proofs.Leading.{first_stands}
use Rattle.ic_syntax.proofs.walk.with_said.Goals as goal

pub with_line-requires-in-Two : goal.with_line-requires-in-Two
with_line-requires-in-Two c =
    let spot = state_of c.args.draft.place in
    first_stands (all_behind (line_seen c.in-Two.second ∷ [])) (behind (line_seen c.in-Two.first) spot) (subst (λ (said : ResolvedLine). IsSome (all_behind (said_lines said) spot)) c.in-Two.is c.requires)
