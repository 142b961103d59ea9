use Rattle.law_table.proofs.Rows.{inputs}
use Rattle.law_table.proofs.inputs_are_forced.Goals as goal

pub returns : goal.returns
returns c = inputs
