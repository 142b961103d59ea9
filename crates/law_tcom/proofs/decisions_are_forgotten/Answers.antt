use Rattle.law_tcom.proofs.Forgetting.{kept_is_least, forgotten_is_silent, starts_keep_the_last}
use Rattle.law_tcom.proofs.decisions_are_forgotten.Goals as goal

pub returns : goal.returns
returns c = record { kept = kept_is_least; silent = forgotten_is_silent; last = starts_keep_the_last }
