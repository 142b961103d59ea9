use Rattle.std.proofs.Common.{◌≡◌, false}
use Rattle.std.specs.List.{AllWithin}
use Rattle.def_state.specs.Inbox.{is_loud}
use Rattle.ic_in.specs.Views.{receipt_of}
use Rattle.ic_in.proofs.inbox.Inbox.loud.Given as goal

abbrev pub invariant-loop-i : goal.invariant-loop-i
invariant-loop-i l = AllWithin (λ r. is_loud l.forced (receipt_of r) ≡ false) l.self-inside.rows.items 0 l.i
