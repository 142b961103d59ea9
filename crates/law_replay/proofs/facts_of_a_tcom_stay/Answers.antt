use Rattle.law_replay.proofs.Receiving.{tcoms_receive}
use Rattle.law_replay.proofs.facts_of_a_tcom_stay.Goals as goal

pub returns : goal.returns
returns c = record { receive = tcoms_receive }
