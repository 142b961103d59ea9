use Rattle.std.proofs.Common.{◌≡◌, false}
use Rattle.std.specs.List.{AllWithin}
use Rattle.def_state.specs.Outbox.{is_due}
use Rattle.ic_out.specs.Views.{held_of}
use Rattle.ic_out.proofs.outbox.Outbox.due.Given as goal

abbrev pub invariant-loop-i : goal.invariant-loop-i
invariant-loop-i l = AllWithin (λ r. is_due l.forced (held_of r) ≡ false) l.self-inside.rows.items 0 l.i
