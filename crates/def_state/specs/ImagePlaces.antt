-- Where bytes stop being an image of a component: at the first field that doesn't fit.
use Rattle.std.specs.Prelude.{ℕ, zero, suc, ◌+◌, ◌-◌, ◌==◌, nat_le, nat_lt, Bool, true, ◌&&◌, ◌||◌, cond, List, [], ◌∷◌, ◌++◌, length, Option, Some, None, option_map, Result, Ok, Err, slice_get, unwrap_or}
use Rattle.ic_base.specs.declared.limits.TheConstants.{VALUES}
use Rattle.std.specs.List.{list_all}
use Rattle.std.specs.Int.{w8, w32}
use Rattle.ic_base.specs.declared.messages.ComId.{ComId}
use Rattle.ic_base.specs.declared.scenario.Handler.{Handler}
use Rattle.ic_base.specs.declared.scenario.Component.{Component}
use Rattle.ic_base.specs.declared.scenario.Program.{Program}
use Rattle.ic_base.specs.Programs.{is_a_tcom, is_an_xcom, is_other_pcom}
use Rattle.def_log.specs.Reading.{number_at, time_at, count_at, com_at, value_at}
use Rattle.def_state.specs.Names.{Numbers, number_of, put_number}
use Rattle.def_state.specs.Vol.{first_vol}

-- what was read so far with the bytes behind it, or the bytes from the field on that doesn't fit
abbrev pub Reading : Type 0 → Type 0
Reading A = Result (A × List ℕ) (List ℕ)

infixl 10 ◌>>=◌
abbrev pub ◌>>=◌ : {A B : Type 0} → Reading A → (A × List ℕ → Reading B) → Reading B
(Ok x) >>= f = f x
(Err bytes) >>= f = Err bytes

-- what was read of a field that begins these bytes, where it passes a test
abbrev pub tested : {A : Type 0} → (A → Bool) → List ℕ → Option (A × List ℕ) → Reading A
tested test bytes None = Err bytes
tested test bytes (Some x) = cond (test x.0) (Ok x) (Err bytes)

-- a field that stands whole and passes a test
abbrev pub field : {A : Type 0} → (List ℕ → Option (A × List ℕ)) → (A → Bool) → List ℕ → Reading A
field read test bytes = tested test bytes (read bytes)

-- so many items, each of which is read behind what those before it came to
abbrev pub items : {A : Type 0} → (A → List ℕ → Reading A) → ℕ → A → List ℕ → Reading A
items read zero so_far bytes = Ok (so_far, bytes)
items read (suc n) so_far bytes = read so_far bytes >>= (λ x. items read n x.0 x.1)

abbrev pub any : {A : Type 0} → A → Bool
any x = true

-- so many values
abbrev pub values : ℕ → List ℕ → Reading ℕ
values n bytes = items (λ so_far rest. field value_at any rest >>= (λ x. Ok (so_far + 1, x.1))) n 0 bytes

-- a count that passes a test, and so many values
unfoldable pub counted_values : (ℕ → Bool) → List ℕ → Reading ℕ
counted_values test bytes = do
  n ← field (number_at w8) test bytes
  values n.0 n.1

-- the last ended transaction: none, or a Tcom and a number up to those begun
unfoldable pub last_txn : Program → ℕ → List ℕ → Reading ℕ
last_txn program begun bytes = do
  there ← field (number_at w8) (λ n. nat_le n 1) bytes
  cond (there.0 == 0) (Ok (0, there.1)) (field com_at (is_a_tcom program) there.1 >>= (λ t. field count_at (λ n. nat_le n begun) t.1))

-- an output behind one of this number
unfoldable pub output : Program → ℕ → ℕ → List ℕ → Reading ℕ
output program made last bytes = do
  m ← field count_at (λ m. nat_lt last m && nat_le m made) bytes
  to ← field com_at (is_an_xcom program) m.1
  xs ← counted_values (λ n. nat_le n VALUES) to.1
  Ok (m.0, xs.1)

-- a link behind these, whose components are all below it
unfoldable pub link : Program → ComId → Numbers → List ℕ → Reading Numbers
link program c links bytes = do
  to ← field com_at (λ to. is_other_pcom program c to && list_all (λ x. nat_lt x.0.0 to.0) links) bytes
  n ← field count_at any to.1
  Ok (links ++ (to.0, n.0) ∷ [], n.1)

abbrev pub handlers_of : Program → ComId → List Handler
handlers_of program c = unwrap_or (option_map (λ (d : Component). d.handlers) (slice_get program.components c.0)) []

abbrev pub params_of : Program → ComId → ℕ → ℕ
params_of program c h = unwrap_or (option_map (λ (x : Handler). x.params) (slice_get (handlers_of program c) h)) 0

-- a held message behind those with these last numbers on their links
unfoldable pub message : Program → ComId → ℕ → Numbers → Numbers → List ℕ → Reading Numbers
message program c clock links last bytes = do
  to ← field com_at (is_other_pcom program c) bytes
  k ← field count_at (λ k. nat_lt (number_of 0 last to.0) k && nat_le k (number_of 0 links to.0)) to.1
  stamp ← field time_at (λ s. nat_le s clock) k.1
  handler ← field (number_at w8) (λ h. nat_lt h (length (handlers_of program to.0))) stamp.1
  xs ← counted_values (λ n. nat_le n VALUES && (n == params_of program to.0 handler.0)) handler.1
  Ok (put_number to.0 k.0 last, xs.1)

-- a taken number above this one
abbrev pub above : ℕ → List ℕ → Reading ℕ
above last bytes = field count_at (nat_lt last) bytes

-- a sender behind these, which are all below it
unfoldable pub sender : Program → ComId → List ℕ → List ℕ → Reading (List ℕ)
sender program c senders bytes = do
  from ← field com_at (λ from. is_other_pcom program c from && list_all (λ s. nat_lt s from.0) senders) bytes
  w ← field time_at any from.1
  n ← field (number_at w32) (λ n. nat_lt 0 w.0 || nat_lt 0 n) w.1
  last ← items above n.0 (w.0 + 1) n.1
  Ok (senders ++ from.0.0 ∷ [], last.1)

abbrev pub at_end : List ℕ → Reading ℕ
at_end [] = Ok (0, [])
at_end (b ∷ bytes) = Err (b ∷ bytes)

-- all fields in their order, and nothing behind
unfoldable pub image : Program → ComId → List ℕ → Reading ℕ
image program c bytes = do
  clock ← field time_at any bytes
  vars ← counted_values (λ n. n == length (first_vol program c).vars) clock.1
  begun ← field time_at any vars.1
  last ← last_txn program begun.0 begun.1
  made ← field time_at any last.1
  outputs ← field (number_at w32) any made.1
  shelf ← items (output program made.0) outputs.0 0 outputs.1
  count ← field (number_at w8) any shelf.1
  links ← items (link program c) count.0 [] count.1
  held ← field (number_at w32) any links.1
  messages ← items (message program c clock.0 links.0) held.0 [] held.1
  senders ← field (number_at w8) any messages.1
  taken ← items (sender program c) senders.0 [] senders.1
  at_end taken.1

abbrev pub place_in : List ℕ → Reading ℕ → Option ℕ
place_in bytes (Ok x) = None
place_in bytes (Err rest) = Some (length bytes - length rest)

-- the offset of the first field that doesn't fit; None where the bytes are an image
abbrev pub bad_image_at : Program → ComId → List ℕ → Option ℕ
bad_image_at program c bytes = place_in bytes (image program c bytes)
