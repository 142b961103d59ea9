use Rattle.ic_migrate.proofs.Wholes.{all_or_some}
use Rattle.ic_migrate.proofs.laws.all_are_whole_or_some_is_refused.Goals as goal

pub returns : goal.returns
returns c = all_or_some
