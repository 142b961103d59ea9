use Rattle.std.proofs.Common.{◌≡◌, drop}
use Rattle.std.specs.List.{AllByRecursion}
use Rattle.def_two.specs.Logs.{placed2_in}
use Rattle.ic_two.specs.Reading.{PlacedFits2}
use Rattle.ic_two.proofs.Placing.{with_front}
use Rattle.ic_two.proofs.reading.all_records.Given as goal

abbrev pub invariant-loop-batch : goal.invariant-loop-batch
invariant-loop-batch l = record {
  read : placed2_in l.batch-items ≡ with_front l.all.items (placed2_in (drop l.batch-index l.batch-items));
  fit : AllByRecursion PlacedFits2 l.all.items;
}
