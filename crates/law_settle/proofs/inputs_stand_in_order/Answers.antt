use Rattle.law_settle.proofs.Inputs.{inputs_stand_in_order}
use Rattle.law_settle.proofs.inputs_stand_in_order.Goals as goal

pub returns : goal.returns
returns c = inputs_stand_in_order
