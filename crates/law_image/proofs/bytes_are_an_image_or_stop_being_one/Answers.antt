use Rattle.law_image.proofs.Exactly.{exact}
use Rattle.law_image.proofs.bytes_are_an_image_or_stop_being_one.Goals as goal

pub returns : goal.returns
returns c = exact
