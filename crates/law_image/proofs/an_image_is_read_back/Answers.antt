use Rattle.law_image.proofs.ReadBack.{image_back, image_only}
use Rattle.law_image.proofs.an_image_is_read_back.Goals as goal

pub returns : goal.returns
returns c = record { back = image_back; only = image_only }
