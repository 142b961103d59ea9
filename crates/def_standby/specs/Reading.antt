-- A schedule with a standby: the lines of a schedule, and besides `ship` and `takeover`, each alone on its line.
use Rattle.std.specs.Prelude.{if◌then◌else◌, ℕ, nat_lt, Bool, false, List, [], ◌∷◌, ◌++◌, length, map, Option, Some, None, option_and_then, Result, Ok, Err, codes}
use Rattle.ic_base.specs.declared.events.Event.{Event}
use Rattle.ic_base.specs.declared.limits.TheConstants.{TEXT_BYTES}
use Rattle.ic_base.specs.declared.refusals.Cause.{Cause}
use Rattle.ic_base.specs.declared.refusals.Cause.TheVariants.{Limit, Structure}
use Rattle.ic_base.specs.declared.scenario.Program.{Program}
use Rattle.def_standby.specs.declared.orders.Order.{Order}
use Rattle.def_standby.specs.declared.orders.Order.TheVariants.{Ship, TakeOver, Run}
use Rattle.def_syntax.specs.Scenario.{Refusal, at_line}
use Rattle.def_syntax.specs.Schedule.{forms, token_events}
use Rattle.def_syntax.specs.SyntaxLines.{name_in}
use Rattle.def_syntax.specs.Text.{◌>>=◌, Token, look_up, schedule_tokens_of, lines_of, numbered}

abbrev pub order_words : List (List ℕ × Order)
order_words = (codes "ship", Ship) ∷ (codes "takeover", TakeOver) ∷ []

-- the order whose word comes first
abbrev pub order_of : List Token → Option Order
order_of [] = None
order_of (t ∷ ts) = option_and_then (λ word. look_up word order_words) (name_in t)

-- it stands alone, and before a `halt`
abbrev pub order_alone : Bool → Order → List Token → Result (List Order × Bool) Cause
order_alone false o (t ∷ []) = Ok (o ∷ [], false)
order_alone halts o ts = Err Structure

-- events are orders to run them
abbrev pub as_orders : Result (List Event × Bool) Cause → Result (List Order × Bool) Cause
as_orders (Ok x) = Ok (map Run x.0, x.1)
as_orders (Err cause) = Err cause

abbrev pub order_or_event : Option Order → Program → Bool → List Token → Result (List Order × Bool) Cause
order_or_event (Some o) p halts ts = order_alone halts o ts
order_or_event None p halts ts = as_orders (token_events forms p halts ts)

-- the orders of a line, none or one, behind a `halt` or before it, and whether it stands there now; or the first cause for which it is refused
unfoldable pub line_orders : Program → Bool → List ℕ → Result (List Order × Bool) Cause
line_orders p halts line = do
  ts ← schedule_tokens_of line
  order_or_event (order_of ts) p halts ts

-- the orders of lines, or the least line that is refused
unfoldable pub all_orders : Program → Bool → List (ℕ × List ℕ) → Result (List Order × Bool) Refusal
all_orders p halts [] = Ok ([], halts)
all_orders p halts (l ∷ ls) = do
  x ← at_line l.0 (line_orders p halts l.1)
  rest ← all_orders p x.1 ls
  Ok (x.0 ++ rest.0, rest.1)

-- the orders of a text, and whether `halt` ends it; or its refusal
unfoldable pub orders_of : Program → List ℕ → Result (List Order × Bool) Refusal
orders_of p text = if nat_lt TEXT_BYTES (length text) then Err (0, Limit) else all_orders p false (numbered 1 (lines_of text))
