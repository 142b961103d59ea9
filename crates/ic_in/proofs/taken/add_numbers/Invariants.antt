use Rattle.std.proofs.Common.{◌≡◌, ◌≤◌, ◌-◌, take, true, length}
use Rattle.std.specs.Prelude.{◌&&◌, ◌||◌, ◌==◌, is_some}
use Rattle.std.specs.List.{list_any}
use Rattle.ic_base.specs.Programs.{same_com}
use Rattle.def_state.specs.Names.{Identity}
use Rattle.ic_index.specs.Entries.{value_of, is_in_order}
use Rattle.ic_in.proofs.taken.add_numbers.Given as goal

abbrev pub invariant-loop-k : goal.invariant-loop-k
invariant-loop-k l = record {
  members : (x : Identity) → is_some (value_of l.above.seen x) ≡ (is_some (value_of l.fn.above.seen x) || (same_com x.peer l.from && list_any (λ k. x.k == k) (take l.k-index l.numbers)));
  ordered : is_in_order l.above.seen ≡ true;
  room : length l.numbers - l.k-index ≤ l.above.spare;
}
