use Rattle.std.proofs.Common.{◌≡◌, take, true}
use Rattle.std.specs.Prelude.{is_some}
use Rattle.def_state.specs.Names.{Identity}
use Rattle.ic_index.specs.Entries.{value_of, is_in_order}
use Rattle.ic_in.specs.Senders.{is_listed}
use Rattle.ic_in.proofs.taken.above_of.Given as goal

abbrev pub invariant-loop-from : goal.invariant-loop-from
invariant-loop-from l = record {
  members : (x : Identity) → is_some (value_of l.above.seen x) ≡ is_listed (take l.from-index l.senders) x;
  ordered : is_in_order l.above.seen ≡ true;
}
