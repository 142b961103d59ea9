use Rattle.std.proofs.Common.{◌≡◌, ◌+◌, ◌-◌, ◌≤◌, length}
use Rattle.std.specs.List.{AllByRecursion}
use Rattle.def_two.specs.Logs.{placed2_at, placed2_up_to}
use Rattle.ic_two.specs.Reading.{PlacedFits2}
use Rattle.ic_two.proofs.Placing.{with_front}
use Rattle.ic_two.proofs.reading.placed_records.Given as goal

abbrev pub invariant-loop-rest : goal.invariant-loop-rest
invariant-loop-rest l = record {
  fuel : length l.rest + length l.records ≤ length l.payload;
  same : with_front l.records (placed2_up_to (length l.payload - length l.records) (l.at + length l.payload) l.rest) ≡ placed2_at l.at l.payload;
  fit : AllByRecursion PlacedFits2 l.records;
}

abbrev pub decreases-loop-rest : goal.decreases-loop-rest
decreases-loop-rest l = length l.rest
