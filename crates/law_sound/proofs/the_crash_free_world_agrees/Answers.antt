use Rattle.law_sound.proofs.Agreeing.{ledgers_agree, pcoms_agree}
use Rattle.law_sound.proofs.RunKinds.{runs_keep_kinds}
use Rattle.law_sound.proofs.the_crash_free_world_agrees.Goals as goal

pub returns : goal.returns
returns c = record { ledgers = ledgers_agree; pcoms = pcoms_agree; kinds = runs_keep_kinds }
