use Rattle.std.proofs.Common.{◌≡◌, ◌≤◌, ◌<◌, ◌-◌, ℕ, true}
use Rattle.std.specs.Prelude.{nat_lt, nat_le, ◌&&◌, not, is_some}
use Rattle.def_state.specs.Names.{Identity}
use Rattle.ic_base.specs.declared.limits.TheConstants.{GREATEST_NUMBER}
use Rattle.ic_base.specs.Programs.{same_com}
use Rattle.ic_index.specs.Entries.{value_of, is_in_order}
use Rattle.ic_in.proofs.taken.absorb.Given as goal

abbrev pub invariant-loop-from : goal.invariant-loop-from
invariant-loop-from l = record {
  rises : (l.bound ≤ l.end) × (l.end ≤ GREATEST_NUMBER);
  left : (x : Identity) → is_some (value_of l.above.seen x) ≡ (is_some (value_of l.fn.above.seen x) && not (same_com x.peer l.from && (nat_lt l.bound x.k && nat_le x.k l.end)));
  absorbed : (k : ℕ) → l.bound < k → k ≤ l.end → is_some (value_of l.fn.above.seen (record { peer = l.from; k = k })) ≡ true;
  ordered : is_in_order l.above.seen ≡ true;
  room : l.fn.above.spare ≤ l.above.spare;
}

abbrev pub decreases-loop-from : goal.decreases-loop-from
decreases-loop-from l = GREATEST_NUMBER - l.end
