use Rattle.std.proofs.Common.{[], map, ◌∙◌}
use Rattle.std.proofs.lemmas.List.{append-nil}
use Rattle.def_syntax.specs.Lines.{component_lines, joined}
use Rattle.ic_syntax.proofs.Lines.{joined_more}
use Rattle.ic_syntax.proofs.builder.with_component.Goals as goal

pub returns-clause-lines : goal.returns-clause-lines
returns-clause-lines c = append-nil (joined (map component_lines c.push.new.self)) ∙ joined_more component_lines [] c.args.components c.push.new.self c.args.current c.in_ok-push.ensures.ok
