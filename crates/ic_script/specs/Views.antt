-- A line and what was read so far, as the definitions name them.
use Rattle.std.specs.Prelude.{ℕ, ℤ, pos, Bool, true, false, List, map, Option, Some, None, nat_lt, nat_le, ◌&&◌, length, if◌then◌else◌}
use Rattle.std.specs.List.{list_all}
use Rattle.ic_tokens.specs.declared.scan.Token.{Token}
use Rattle.ic_tokens.specs.declared.scan.TokenKind.{TokenKind}
use Rattle.ic_tokens.specs.declared.scan.TokenKind.TheVariants.{Number}
use Rattle.def_two.specs.Script as script
use Rattle.ic_script.specs.declared.line.ScriptLine.{ScriptLine}
use Rattle.ic_script.specs.declared.line.ScriptLine.TheVariants.{Book, Move, Deliver, Lose, Packet, Crash, Resend, Recover}
use Rattle.ic_script.specs.declared.so_far.SoFar.{SoFar}

-- a number of at least 0
abbrev pub is_amount : TokenKind → Bool
is_amount (Number (pos n)) = true
is_amount _ = false

abbrev pub amount_of : TokenKind → ℕ
amount_of (Number (pos n)) = n
amount_of _ = 0

abbrev pub amounts_seen : List Token → List ℕ
amounts_seen ts = map (λ (t : Token). amount_of t.kind) ts

abbrev pub line_seen : ScriptLine → script.ScriptLine
line_seen (Book name values) = script.BookOf name.now (amounts_seen values.now)
line_seen (Move from source to target amount s) = script.MoveOf from.now source to.now target amount s
line_seen (Deliver from to s) = script.DeliverOf from.now to.now s
line_seen (Lose from to) = script.LoseOf from.now to.now
line_seen (Packet n s) = script.PacketOf n s
line_seen (Crash name) = script.CrashOf name.now
line_seen (Resend name) = script.ResendOf name.now
line_seen (Recover name s) = script.RecoverOf name.now s

abbrev pub read_so_far : SoFar → script.SoFar
read_so_far x = record { books = x.books; moves = x.moves; in_events = x.in_events }

-- these values, where a row has passed its test
abbrev pub if_row : Bool → List ℕ → Option (List ℕ)
if_row true xs = Some xs
if_row false xs = None

-- the key that a number is, where a row of these many values has it
abbrev pub key_of : ℤ → ℕ → Option ℕ
key_of (pos key) count = if nat_lt key count then Some key else None
key_of _ count = None

-- 1 to 64 numbers of at least 0
abbrev pub is_row : List Token → Bool
is_row ts = nat_le 1 (length ts) && (nat_le (length ts) 64 && list_all (λ (t : Token). is_amount t.kind) ts)
