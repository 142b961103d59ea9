use Rattle.law_two_run.proofs.Torn.{torn_reads}
use Rattle.law_two_run.proofs.torn_images_read_as_before_or_behind.Goals as goal

pub returns : goal.returns
returns c = torn_reads
