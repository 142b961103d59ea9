use Rattle.std.proofs.Common.{◌≡◌, ◌≤◌, ◌+◌, drop, take, length}
use Rattle.ic_base.specs.declared.limits.TheConstants.{FIRST_GATE, SLOTS}
use Rattle.def_log.specs.Sizes.{span}
use Rattle.def_former.specs.Migrated.{payloads_of, slots_for}
use Rattle.ic_former.proofs.Building.{slots_with}
use Rattle.ic_former.proofs.migrating.slots_of.Given as goal

abbrev pub invariant-loop-i : goal.invariant-loop-i
invariant-loop-i l = record {
  all : slots_for (payloads_of l.log.batches) ≡ slots_with l.slots.items l.gate (payloads_of (drop l.i l.log.batches));
  place : l.gate ≡ FIRST_GATE + span (take l.i l.log.batches);
  few : length l.slots.items ≤ SLOTS;
}
