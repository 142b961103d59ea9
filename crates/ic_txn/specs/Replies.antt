-- What a packet leaves, and where there is a next place.
use Rattle.std.specs.Prelude.{ℕ, nat_lt, Bool, true, cond, Option, is_some}
use Rattle.ic_base.specs.declared.messages.ComId.{ComId}
use Rattle.ic_base.specs.declared.messages.Packet.{Packet}
use Rattle.ic_base.specs.declared.messages.Packet.TheVariants.{OpReply}
use Rattle.def_state.specs.Txn.{Txn, Stage, Idle, Answered, reply, take_reply}

-- the awaited answer is taken; any other packet changes nothing
abbrev pub after_reply : Txn → Packet → Txn
after_reply x (OpReply from to n place session value) = cond (is_some (reply x (OpReply from to n place session value))) (take_reply x session) x
after_reply x _ = x

-- places are numbers of 16 bits
abbrev pub has_next_place : Stage → Bool
has_next_place (Answered t place session request) = nat_lt place 65535
has_next_place _ = true

-- none is open
abbrev pub ended : ℕ → Option (ComId × ℕ) → Txn
ended begun last = record { begun = begun; last = last; stage = Idle }
