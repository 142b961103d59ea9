use Rattle.law_run.proofs.Images.{found_at_images}
use Rattle.law_run.proofs.Opening.{images_are_not_refused}
use Rattle.law_run.proofs.images_of_crashes_are_taken_up.Goals as goal

pub returns : goal.returns
returns c = record { sound = found_at_images; found = images_are_not_refused }
