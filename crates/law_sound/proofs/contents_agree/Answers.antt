use Rattle.law_sound.proofs.Sent.{contents_agree, whole_contents_agree}
use Rattle.law_sound.proofs.contents_agree.Goals as goal

pub returns : goal.returns
returns c = record { named = contents_agree; whole = whole_contents_agree }
