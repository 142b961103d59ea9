-- What a text stands for as a schedule of a program, or the line and the cause for which it is refused.
use Rattle.std.specs.Prelude.{ℕ, suc, ℤ, pos, List, [], ◌∷◌, ◌++◌, length, Bool, true, false, ◌&&◌, Option, Some, None, option_map, option_and_then, ok_or, Result, Ok, Err, nat_lt, nat_le, ◌==◌, if◌then◌else◌, codes, bytes_eq}
use Rattle.ic_base.specs.declared.limits.TheConstants.{PACKETS, TEXT_BYTES}
use Rattle.ic_base.specs.declared.messages.ComId.{ComId}
use Rattle.ic_base.specs.declared.messages.Kind.{Kind}
use Rattle.ic_base.specs.declared.messages.Kind.TheVariants.{Pcom, Xcom}
use Rattle.ic_base.specs.declared.scenario.Component.{Component}
use Rattle.ic_base.specs.declared.scenario.Handler.{Handler}
use Rattle.ic_base.specs.declared.scenario.Program.{Program}
use Rattle.ic_base.specs.declared.events.Stop.{Stop}
use Rattle.ic_base.specs.declared.events.Fill.{Fill}
use Rattle.ic_base.specs.declared.events.Fill.TheVariants.{Old, Byte}
use Rattle.ic_base.specs.declared.events.What.{What}
use Rattle.ic_base.specs.declared.events.What.TheVariants as whats
use Rattle.ic_base.specs.declared.events.Event.{Event}
use Rattle.ic_base.specs.declared.refusals.Cause.{Cause}
use Rattle.ic_base.specs.declared.refusals.Cause.TheVariants.{Limit, Structure, Unknown, Arity}
use Rattle.def_syntax.specs.Text.{◌>>=◌, Token, Number, Name, lines_of, numbered, look_up, schedule_tokens_of}
use Rattle.def_syntax.specs.SyntaxLines.{both, name_in, one_name, name_then}
use Rattle.def_syntax.specs.Names.{com_id}
use Rattle.def_syntax.specs.Scenario.{Refusal, at_line}

-- an event as it is written
pub data RawEvent : Type 0 where
  InputOf : List ℕ → List ℕ → List ℤ → RawEvent
  DeliverOf LoseOf : List ℕ → List ℕ → RawEvent
  PacketOf : ℕ → RawEvent
  ForceOf CheckpointOf ResendOf EmitOf CrashOf RecoverOf : List ℕ → RawEvent
  Halt : RawEvent

-- an event as it is written, with its stop
abbrev pub EventLine : Type 0
EventLine = RawEvent × Option Stop

-- a number from the one to the other
abbrev pub within : ℕ → ℕ → Token → Option ℕ
within low high (Number (pos n)) = if nat_le low n && nat_le n high then Some n else None
within low high _ = None

abbrev pub is_word : List ℕ → Token → Bool
is_word word (Name n) = bytes_eq n word
is_word word _ = false

abbrev pub fill_of : Token → Option Fill
fill_of t = if is_word (codes "old") t then Some Old else option_map Byte (within 0 255 t)

abbrev pub stop : ℕ → ℕ → Fill → Stop
stop call keep fill = record { call = call; keep = keep; fill = fill }

-- what stands behind the word `stop`: a call, how many bytes arrive, and the fill
abbrev pub stop_parts : List Token → Option Stop
stop_parts (call ∷ []) = option_map (λ c. stop c 0 Old) (within 1 16 call)
stop_parts (call ∷ keep ∷ []) = both (λ c k. stop c k Old) (within 1 16 call) (within 0 4294967295 keep)
stop_parts (call ∷ keep ∷ fill ∷ []) = both (λ c (s : Stop). record s { call = c }) (within 1 16 call) (both (λ k f. stop 1 k f) (within 0 4294967295 keep) (fill_of fill))
stop_parts _ = None

-- nothing, or a stop
abbrev pub stop_of : List Token → Option (Option Stop)
stop_of [] = Some None
stop_of (t ∷ ts) = if is_word (codes "stop") t then option_map Some (stop_parts ts) else None

-- numbers, and then nothing or a stop
abbrev pub values_then_stop : List Token → Option (List ℤ × Option Stop)
values_then_stop (Number z ∷ ts) = option_map (λ x. (z ∷ x.0, x.1)) (values_then_stop ts)
values_then_stop ts = option_map (λ s. ([], s)) (stop_of ts)

-- a name, and then nothing or a stop
abbrev pub at_one : (List ℕ → RawEvent) → List Token → Option EventLine
at_one f ts = option_map (λ x. (f x.0, x.1)) (name_then stop_of ts)

-- a name alone
abbrev pub alone : (List ℕ → RawEvent) → List Token → Option EventLine
alone f ts = option_map (λ n. (f n, None)) (one_name ts)

abbrev pub input_of : List Token → Option EventLine
input_of ts = option_map (λ x. (InputOf x.0 x.1.0 x.1.1.0, x.1.1.1)) (name_then (name_then values_then_stop) ts)

abbrev pub deliver_of : List Token → Option EventLine
deliver_of ts = option_map (λ x. (DeliverOf x.0 x.1.0, x.1.1)) (name_then (name_then stop_of) ts)

abbrev pub lose_of : List Token → Option EventLine
lose_of ts = option_map (λ x. (LoseOf x.0 x.1, None)) (name_then one_name ts)

abbrev pub packet_of : List Token → Option EventLine
packet_of [] = None
packet_of (t ∷ ts) = both (λ n s. (PacketOf n, s)) (within 1 PACKETS t) (stop_of ts)

abbrev pub halt_of : List Token → Option EventLine
halt_of [] = Some (Halt, None)
halt_of _ = None

-- a request stands for an input whose first two values are its numbers
abbrev pub is_count : Token → Bool
is_count (Number (pos n)) = true
is_count _ = false

abbrev pub request_of : List Token → Option EventLine
request_of (u ∷ q ∷ c ∷ h ∷ ts) = if is_count u && is_count q then input_of (c ∷ h ∷ u ∷ q ∷ ts) else None
request_of _ = None

-- the first word of a line, with the form of what stands behind it
abbrev pub Forms : Type 0
Forms = List (List ℕ × (List Token → Option EventLine))

abbrev pub forms_but_inputs : Forms
forms_but_inputs =
    (codes "deliver", deliver_of) ∷ (codes "packet", packet_of) ∷ (codes "lose", lose_of) ∷ (codes "force", at_one ForceOf)
    ∷ (codes "checkpoint", at_one CheckpointOf) ∷ (codes "resend", alone ResendOf) ∷ (codes "emit", alone EmitOf) ∷ (codes "crash", alone CrashOf)
    ∷ (codes "recover", at_one RecoverOf) ∷ (codes "halt", halt_of) ∷ []

abbrev pub forms : Forms
forms = (codes "input", input_of) ∷ forms_but_inputs

-- a schedule with numbered clients has no other inputs
abbrev pub client_forms : Forms
client_forms = (codes "client", request_of) ∷ forms_but_inputs

-- the event that tokens are, if they are one
unfoldable pub entry_of : Forms → List Token → Option EventLine
entry_of fs [] = None
entry_of fs (t ∷ ts) = option_and_then (λ n. option_and_then (λ (form : List Token → Option EventLine). form ts) (look_up n fs)) (name_in t)

-- a component takes part in events: it is no Xcom
abbrev pub is_inside : Kind → Bool
is_inside Xcom = false
is_inside _ = true

abbrev pub is_pcom : Kind → Bool
is_pcom Pcom = true
is_pcom _ = false

-- the component of this name, whose kind passes the test, and its number, where they are numbered from this one on
abbrev pub named_from : ℕ → (Kind → Bool) → List ℕ → List Component → Option (ℕ × Component)
named_from i test name [] = None
named_from i test name (c ∷ cs) = if bytes_eq name c.name then (if test c.kind then Some (i, c) else None) else named_from (suc i) test name cs

-- the handler of this name, and its number
abbrev pub handler_from : ℕ → List ℕ → List Handler → Option (ℕ × Handler)
handler_from i name [] = None
handler_from i name (h ∷ hs) = if bytes_eq name h.name then Some (i, h) else handler_from (suc i) name hs

abbrev pub com_of : Program → (Kind → Bool) → List ℕ → Option ComId
com_of p test name = option_map (λ (c : ℕ × Component). com_id c.0) (named_from 0 test name p.components)

-- an event, or Unknown where a name stands for nothing
abbrev pub known : Option Stop → Option What → Result (List Event) Cause
known s None = Err Unknown
known s (Some what) = Ok (record { what = what; stop = s } ∷ [])

-- an input of a handler, with as many values as it has parameters
abbrev pub input_with : Option Stop → List ℤ → ℕ → Option (ℕ × Handler) → Result (List Event) Cause
input_with s xs c None = Err Unknown
input_with s xs c (Some h) = if length xs == h.1.params then known s (Some (whats.Input (com_id c) h.0 xs)) else Err Arity

abbrev pub input_at : Option Stop → List ℤ → List ℕ → Option (ℕ × Component) → Result (List Event) Cause
input_at s xs handler None = Err Unknown
input_at s xs handler (Some c) = input_with s xs c.0 (handler_from 0 handler c.1.handlers)

-- what a written event stands for; `halt` is no event
unfoldable pub event_of : Program → EventLine → Result (List Event) Cause
event_of p e = elim e.0 [
  | InputOf c h xs ↦ input_at e.1 xs h (named_from 0 is_pcom c p.components)
  | DeliverOf from to ↦ known e.1 (both whats.Deliver (com_of p is_inside from) (com_of p is_inside to))
  | LoseOf from to ↦ known e.1 (both whats.Lose (com_of p is_inside from) (com_of p is_inside to))
  | PacketOf n ↦ known e.1 (Some (whats.Packet n))
  | ForceOf c ↦ known e.1 (option_map whats.Force (com_of p is_inside c))
  | CheckpointOf c ↦ known e.1 (option_map whats.Checkpoint (com_of p is_inside c))
  | ResendOf c ↦ known e.1 (option_map whats.Resend (com_of p is_inside c))
  | EmitOf c ↦ known e.1 (option_map whats.Emit (com_of p is_inside c))
  | CrashOf c ↦ known e.1 (option_map whats.Crash (com_of p is_inside c))
  | RecoverOf c ↦ known e.1 (option_map whats.Recover (com_of p is_inside c))
  | Halt ↦ Ok []
]

abbrev pub is_halt : EventLine → Bool
is_halt e = elim e.0 [ Halt ↦ true | _ ↦ false ]

-- the events of tokens, none or one, behind a `halt` or before it, and whether it stands there now
abbrev pub token_events : Forms → Program → Bool → List Token → Result (List Event × Bool) Cause
token_events fs p halts [] = Ok ([], halts)
token_events fs p true (t ∷ ts) = Err Structure
token_events fs p false (t ∷ ts) = do
  e ← ok_or (entry_of fs (t ∷ ts)) Structure
  events ← event_of p e
  Ok (events, is_halt e)

-- the events of a line, and whether a `halt` stands in it or before it; or the first cause for which it is refused
unfoldable pub line_events : Forms → Program → Bool → List ℕ → Result (List Event × Bool) Cause
line_events fs p halts line = do
  ts ← schedule_tokens_of line
  token_events fs p halts ts

-- the events of lines, or the least line that is refused
unfoldable pub all_events : Forms → Program → Bool → List (ℕ × List ℕ) → Result (List Event × Bool) Refusal
all_events fs p halts [] = Ok ([], halts)
all_events fs p halts (l ∷ ls) = do
  x ← at_line l.0 (line_events fs p halts l.1)
  rest ← all_events fs p x.1 ls
  Ok (x.0 ++ rest.0, rest.1)

-- the events of a text in these forms, and whether `halt` ends it; or its refusal
unfoldable pub schedule_in : Forms → Program → List ℕ → Result (List Event × Bool) Refusal
schedule_in fs p text = if nat_lt TEXT_BYTES (length text) then Err (0, Limit) else all_events fs p false (numbered 1 (lines_of text))

-- of a schedule
abbrev pub schedule_of : Program → List ℕ → Result (List Event × Bool) Refusal
schedule_of p text = schedule_in forms p text

-- of a schedule with numbered clients
abbrev pub clients_of : Program → List ℕ → Result (List Event × Bool) Refusal
clients_of p text = schedule_in client_forms p text
