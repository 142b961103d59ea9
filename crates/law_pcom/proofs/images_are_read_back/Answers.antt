use Rattle.law_pcom.proofs.Images.{images_are_read}
use Rattle.law_pcom.proofs.images_are_read_back.Goals as goal

pub returns : goal.returns
returns c = images_are_read
