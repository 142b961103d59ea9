use Rattle.std.proofs.Common.{rules}
use Rattle.ic_tokens.proofs.Cuts.{lines_before, lines_above, no_lines}
use Rattle.ic_tokens.proofs.lines.first_line.Goals as goal

pub returns-then-is_empty-clause-line : goal.returns-then-is_empty-clause-line
returns-then-is_empty-clause-line c = no_lines _ (search rules)

pub returns-in-empty-clause-line : goal.returns-in-empty-clause-line
returns-in-empty-clause-line c = lines_before _ _ _ _ (search rules) c.line_length.ensures.place c.split_at.ensures.front c.split_at.ensures.back c.in-empty.len_below

pub returns-in-len1-up-clause-line : goal.returns-in-len1-up-clause-line
returns-in-len1-up-clause-line c = lines_above _ _ _ _ (search rules) c.line_length.ensures.place c.split_at.ensures.front c.split_at.ensures.back c.in-len1-up.len_at_least
