-- Events as they are written, as the definitions name them.
use Rattle.std.specs.Prelude.{ℤ, pos, List, ◌++◌, map, Bool, true, false}
use Rattle.ic_tokens.specs.declared.scan.Token.{Token}
use Rattle.ic_tokens.specs.declared.scan.TokenKind.{TokenKind}
use Rattle.ic_tokens.specs.declared.scan.TokenKind.TheVariants.{Number}
use Rattle.def_syntax.specs.Schedule as schedule
use Rattle.ic_plan.specs.declared.event_line.RawEvent.{RawEvent}
use Rattle.ic_plan.specs.declared.event_line.RawEvent.TheVariants.{Input, Deliver, Packet, Lose, Force, Checkpoint, Resend, Emit, Crash, Recover, Halt}
use Rattle.ic_plan.specs.declared.event_line.EventLine.{EventLine}

abbrev pub is_number : TokenKind → Bool
is_number (Number z) = true
is_number _ = false

-- the number of a token, or 0 where it is none
abbrev pub value_of : TokenKind → ℤ
value_of (Number z) = z
value_of _ = pos 0

abbrev pub values_seen : List Token → List ℤ
values_seen ts = map (λ (t : Token). value_of t.kind) ts

abbrev pub written_seen : RawEvent → schedule.RawEvent
written_seen (Input c h numbers values) = schedule.InputOf c.now h.now (values_seen numbers.now ++ values_seen values.now)
written_seen (Deliver from to) = schedule.DeliverOf from.now to.now
written_seen (Packet n) = schedule.PacketOf n
written_seen (Lose from to) = schedule.LoseOf from.now to.now
written_seen (Force c) = schedule.ForceOf c.now
written_seen (Checkpoint c) = schedule.CheckpointOf c.now
written_seen (Resend c) = schedule.ResendOf c.now
written_seen (Emit c) = schedule.EmitOf c.now
written_seen (Crash c) = schedule.CrashOf c.now
written_seen (Recover c) = schedule.RecoverOf c.now
written_seen Halt = schedule.Halt

abbrev pub entry_seen : EventLine → schedule.EventLine
entry_seen e = (written_seen e.written, e.stop)
