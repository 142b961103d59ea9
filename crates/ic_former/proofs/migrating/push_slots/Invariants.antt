use Rattle.std.proofs.Common.{◌≡◌, ◌+◌, ◌*◌, ◌++◌, drop}
use Rattle.std.specs.Prelude.{flat_map, vec_len}
use Rattle.def_log.specs.Directory.{open_slot}
use Rattle.ic_former.proofs.migrating.push_slots.Given as goal

abbrev pub invariant-loop-i : goal.invariant-loop-i
invariant-loop-i l = record {
  items : l.bytes.items ++ flat_map open_slot (drop l.i l.slots) ≡ l.fn.bytes.items ++ flat_map open_slot l.slots;
  len : vec_len l.bytes ≡ vec_len l.fn.bytes + 9 * l.i;
}
