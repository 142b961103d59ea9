use Rattle.std.proofs.Common.{◌≡◌, false}
use Rattle.std.specs.List.{AllWithin}
use Rattle.ic_in.specs.Views.{receipt_of, is_waiting}
use Rattle.ic_in.proofs.inbox.first_waiting.Given as goal

abbrev pub invariant-loop-i : goal.invariant-loop-i
invariant-loop-i l = AllWithin (λ r. is_waiting (receipt_of r) ≡ false) l.rows.items 0 l.i
