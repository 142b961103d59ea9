use Rattle.law_replay.proofs.Narrowing.{prefix_facts, pcoms_narrow}
use Rattle.law_replay.proofs.Truth.{truth_lasts}
use Rattle.law_replay.proofs.Receiving.{prefix_facts_receive, lasting_facts_receive, pcoms_receive, pcoms_put}
use Rattle.law_replay.proofs.facts_of_a_pcom_stay.Goals as goal

pub returns : goal.returns
returns c = record { prefixes = prefix_facts; truth = truth_lasts; narrow = pcoms_narrow; prefixes_receive = prefix_facts_receive; lasting_receive = lasting_facts_receive; receive = pcoms_receive; put = pcoms_put }
