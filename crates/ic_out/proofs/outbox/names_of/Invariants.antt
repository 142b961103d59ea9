use Rattle.std.proofs.Common.{◌≡◌, ◌≤◌, ◌-◌, take, map, length}
use Rattle.ic_out.specs.Views.{message_name}
use Rattle.ic_out.proofs.outbox.names_of.Given as goal

abbrev pub invariant-loop-msg : goal.invariant-loop-msg
invariant-loop-msg l = (l.names.seen ≡ map message_name (take l.msg-index l.held)) × (length l.held - l.msg-index ≤ l.names.spare)
