use Rattle.law_standby.proofs.Representing.{take_overs_keep_represented}
use Rattle.law_standby.proofs.takeovers_keep_represented.Goals as goal

pub returns : goal.returns
returns c = take_overs_keep_represented
