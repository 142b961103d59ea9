use Rattle.std.proofs.Common.{◌≡◌, [], length}
use Rattle.std.specs.List.{AllByRecursion}
use Rattle.ic_model.specs.Index.{IsIndexOf}
use Rattle.ic_model.proofs.indexed.IndexedWorld.new.Given as goal

abbrev pub invariant-loop-place : goal.invariant-loop-place
invariant-loop-place l = record {
  empty : AllByRecursion (IsIndexOf [] []) l.indexes.items;
  many : length l.indexes.items ≡ l._place;
}
