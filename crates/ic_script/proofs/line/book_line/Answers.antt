use Rattle.std.proofs.Common.{◌∙◌, sym}
use Rattle.ic_script.proofs.Rows.{no_row, book_seen}
use Rattle.ic_script.proofs.line.book_line.Goals as goal

pub returns-then-not-is_row-clause-line : goal.returns-then-not-is_row-clause-line
returns-then-not-is_row-clause-line c = λ line. sym (no_row line c.args.name.now c.args.values.now (sym c.is_row.ensures.row ∙ c.if-not-is_row.true))

pub returns-then-not-is_component_name-clause-line : goal.returns-then-not-is_component_name-clause-line
returns-then-not-is_component_name-clause-line c = λ line. sym (book_seen line c.args.name.now c.args.values.now _ (sym c.is_row.ensures.row ∙ c.if-not-is_row.false) (sym c.is_component_name.ensures ∙ c.if-not-is_component_name.true))

pub returns-clause-line : goal.returns-clause-line
returns-clause-line c = λ line. sym (book_seen line c.args.name.now c.args.values.now _ (sym c.is_row.ensures.row ∙ c.if-not-is_row.false) (sym c.is_component_name.ensures ∙ c.if-not-is_component_name.false))
