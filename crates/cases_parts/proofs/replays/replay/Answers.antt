use Rattle.std.proofs.Common.{sym, subst}
use Rattle.std.specs.List.{AllByRecursion}
use Rattle.ic_wire.specs.Placed.{IsCounted}
use Rattle.ic_wire.proofs.Counted.{all_counted}
use Rattle.cases_parts.proofs.replays.replay.Goals as goal

pub of-requires : goal.of-requires
of-requires c = subst (AllByRecursion IsCounted) (sym c.as_slice-in-Ok.ensures) (all_counted c.in-Ok.records (c.in-Ok.ensures {u = tt}).fit)
