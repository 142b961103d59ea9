use Rattle.std.proofs.Common.{◌≡◌, ℕ, ◌<◌, None}
use Rattle.ic_in.specs.Senders.{sender_of, number_above}
use Rattle.ic_pcom.proofs.imaging.are_short.Given as goal

abbrev pub invariant-loop-i : goal.invariant-loop-i
invariant-loop-i l = (j : ℕ) → j < l.i → number_above (sender_of l.inbox.seen.taken j) 4294967295 ≡ None
