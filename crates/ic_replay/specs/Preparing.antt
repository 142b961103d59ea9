-- What a record comes to, computed before it is applied.
use Rattle.std.specs.Prelude.{Bool, true, false, List, [], ◌∷◌, ◌++◌, ℤ, Option, Some, None, option_map}
use Rattle.ic_base.specs.declared.messages.ComId.{ComId}
use Rattle.ic_base.specs.declared.messages.Msg.{Msg}
use Rattle.ic_base.specs.declared.scenario.Program.{Program}
use Rattle.ic_base.specs.declared.record.Record.{Record}
use Rattle.ic_base.specs.declared.record.Record.TheVariants.{Take, TakeWhole, Input, Value, Outcome}
use Rattle.def_plain.specs.declared.world.InHand.{InHand}
use Rattle.def_plain.specs.Cell.{new_in_hand}
use Rattle.def_state.specs.Hist.{hand_plays}
use Rattle.def_state.specs.Txn.{Txn, take_reply, end}
use Rattle.def_state.specs.Vol.{Vol, add_done, done_by}
use Rattle.ic_txn.specs.Replies.{has_next_place}
use Rattle.ic_replay.specs.declared.prepared.Prepared.{Prepared}

-- this is in hand, and is played without an answer
abbrev pub with_hand : Program → ComId → List ℤ → Option InHand → Prepared
with_hand program c vars hand = record { hand = hand; answers = []; played = option_map (hand_plays program c vars []) hand }

-- what is in hand is played with these answers
abbrev pub with_answers : Program → ComId → List ℤ → Option InHand → List ℤ → Prepared
with_answers program c vars hand answers = record { hand = None; answers = answers; played = option_map (hand_plays program c vars answers) hand }

abbrev pub hand_of : Msg → InHand
hand_of m = new_in_hand m.handler m.args

-- what a record comes to, with the content of the message that it takes by identity
abbrev pub preparation : Program → ComId → Option Msg → Vol → Record → Prepared
preparation program c content v (Take from k stamp) = with_hand program c v.vars (option_map hand_of content)
preparation program c content v (TakeWhole from k stamp handler args) = with_hand program c v.vars (Some (new_in_hand handler args))
preparation program c content v (Input stamp handler args) = with_hand program c v.vars (Some (new_in_hand handler args))
preparation program c content v (Value n place session value) = with_answers program c v.vars v.hand (v.now ++ value ∷ [])
preparation program c content v (Outcome stamp n abort) = with_hand program c v.vars (option_map (add_done (done_by v.now abort)) v.hand)
preparation program c content v _ = with_hand program c v.vars None

-- the content is there where the record takes a message by identity
abbrev pub has_content : Option Msg → Record → Bool
has_content None (Take from k stamp) = false
has_content content r = true

-- the open transaction once the record is entered
abbrev pub entered_txn : Txn → Record → Txn
entered_txn x (Value n place session value) = take_reply x session
entered_txn x (Outcome stamp n abort) = end x
entered_txn x _ = x

-- a place behind that of its answer is a number of 16 bits
abbrev pub has_place : Vol → Record → Bool
has_place v r = has_next_place (entered_txn v.txn r).stage
