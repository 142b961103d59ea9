use Rattle.law_scene.proofs.Ends.{ends_at_twelve}
use Rattle.law_scene.proofs.Texts.{texts_are_read, prints_report}
use Rattle.law_scene.proofs.Whole.{runs_whole}
use Rattle.law_scene.proofs.a_tally_runs_whole.Goals as goal

pub returns : goal.returns
returns c = record { texts = texts_are_read; runs = runs_whole; prints = prints_report; ends = ends_at_twelve }
