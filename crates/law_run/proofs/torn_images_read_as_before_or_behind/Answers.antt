use Rattle.law_run.proofs.Torn.{torn_reads, gates_are_shut}
use Rattle.law_run.proofs.torn_images_read_as_before_or_behind.Goals as goal

pub returns : goal.returns
returns c = record { torn = torn_reads; shut = gates_are_shut }
