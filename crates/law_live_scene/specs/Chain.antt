-- A shop whose orders go to a till, which puts them on the books of a bank, and the states through which one order leads them.
use Rattle.std.specs.Prelude.{ℕ, ℤ, pos, Bool, true, false, List, [], ◌∷◌, Some, None, replicate}
use Rattle.std.specs.declared.alloc.Global.{Global}
use Rattle.std.proofs.Common.{lit<}
use Rattle.ic_base.specs.declared.messages.ComId.{ComId}
use Rattle.ic_base.specs.declared.messages.Decision.TheVariants.{Committed}
use Rattle.ic_base.specs.declared.messages.Level.TheVariants as levels
use Rattle.ic_base.specs.declared.messages.Msg.{Msg}
use Rattle.ic_base.specs.declared.messages.Packet.{Packet}
use Rattle.ic_base.specs.declared.messages.Packet.TheVariants as packets
use Rattle.ic_base.specs.declared.messages.Request.{Request}
use Rattle.ic_base.specs.declared.messages.Request.TheVariants as requests
use Rattle.ic_base.specs.declared.messages.Session.{Session}
use Rattle.ic_base.specs.declared.record.Record.{Record}
use Rattle.ic_base.specs.declared.record.Record.TheVariants.{Input, Take, Value, Outcome, Decided}
use Rattle.ic_base.specs.declared.scenario.Expr.TheVariants.{One}
use Rattle.ic_base.specs.declared.scenario.Operand.TheVariants.{Param}
use Rattle.ic_base.specs.declared.scenario.Program.{Program}
use Rattle.ic_base.specs.declared.scenario.Stmt.{Stmt}
use Rattle.ic_base.specs.declared.scenario.Stmt.TheVariants.{Txn, Put}
use Rattle.def_log.specs.Frame.{at_rest}
use Rattle.def_log.specs.Loads.{payload_of}
use Rattle.def_play.specs.Scenes.{body, order}
use Rattle.def_plain.specs.Cell.{new_in_hand}
use Rattle.def_plain.specs.Scenes.{com_at, on, pcom_with, tcom_with}
use Rattle.def_state.specs.Inbox.{empty_inbox}
use Rattle.def_state.specs.Outbox.{empty_outbox}
use Rattle.def_state.specs.Shelf.{empty_shelf}
use Rattle.def_state.specs.Txn.{Stage, Idle, Waiting, Committing, no_txn}
use Rattle.def_state.specs.Vol.{Vol}
use Rattle.def_step.specs.Pcom.{Pcom}
use Rattle.def_step.specs.Tcom.{Tcom, Sitting}

abbrev pub shop : ComId
shop = com_at 0

abbrev pub till : ComId
till = com_at 1

abbrev pub bank : ComId
bank = com_at 2

-- put key n
abbrev pub charge_part : List Stmt
charge_part = Put 0 (One (Param 0)) ∷ []

-- on charge n: txn bank / put key n / else / end
abbrev pub charge : Global → List Stmt
charge a = Txn bank (body a charge_part (lit< tt)) (body a [] (lit< tt)) ∷ []

-- on order n the shop counts it and sends it to the till
abbrev pub chain : Global → Program
chain a =
    record {
      components = pcom_with (([], pos 0) ∷ []) (on (body a (order till) (lit< tt)) ∷ [])
          ∷ pcom_with [] (on (body a (charge a) (lit< tt)) ∷ [])
          ∷ tcom_with (([], pos 100) ∷ [])
          ∷ [];
    }

-- records and packets ---------------------------------------------------------------------------------------

abbrev pub the_session : Session
the_session = record { epoch = 1; counter = 1 }

abbrev pub the_put : Request
the_put = requests.Put 0 (pos 3)

abbrev pub the_order : Msg
the_order = record { from = shop; to = till; k = 1; stamp = 1; handler = 0; args = pos 3 ∷ [] }

abbrev pub the_input : Record
the_input = Input 1 0 (pos 3 ∷ [])

abbrev pub the_receipt : Record
the_receipt = Take shop 1 2

abbrev pub the_value : Record
the_value = Value 1 0 the_session (pos 3)

abbrev pub the_outcome : Record
the_outcome = Outcome 4 1 None

abbrev pub the_decision : Record
the_decision = Decided 3 till 1 ((0, pos 3) ∷ [])

abbrev pub the_data : Packet
the_data = packets.Data the_order

abbrev pub the_stable : Packet
the_stable = packets.Stable till shop 1

abbrev pub the_op : Packet
the_op = packets.Op till bank 1 0 None the_put

abbrev pub the_reply : Packet
the_reply = packets.OpReply bank till 1 0 the_session (pos 3)

abbrev pub the_commit : Packet
the_commit = packets.Commit till bank 1 1 the_session 2

abbrev pub the_answer : Packet
the_answer = packets.Outcome bank till 1 1 (Some the_session) (Committed 3)

abbrev pub the_drop : Packet
the_drop = packets.Drop till bank 1

-- the shop --------------------------------------------------------------------------------------------------

abbrev pub untouched : List ℤ → Vol
untouched vars = record {
  vars = vars;
  clock = 0;
  outbox = empty_outbox;
  inbox = empty_inbox;
  shelf = empty_shelf;
  txn = no_txn;
  hand = None;
  now = [];
  ended_at = 0;
  owes_drop = false;
}

-- up over an empty log
abbrev pub fresh : List ℤ → Pcom
fresh vars = record { log = record { forced = []; buffered = [] }; vol = untouched vars; rest = [] }

-- behind its order, whose message may leave from this position on
abbrev pub ordered : ℕ → Pcom
ordered at = record {
  log = record { forced = the_input ∷ []; buffered = [] };
  vol = record (untouched (pos 1 ∷ [])) { clock = 1; outbox = record { held = record { msg = the_order; at = at; put = true; stable = false } ∷ []; links = (till, 1) ∷ [] } };
  rest = [];
}

-- the till --------------------------------------------------------------------------------------------------

-- it has taken the message, and told that it is stable
abbrev pub taken : Vol
taken = record (untouched []) {
  clock = 2;
  inbox = record { taken = record { peer = shop; k = 1 } ∷ []; receipts = record { name = record { peer = shop; k = 1 }; at = 18; covered = false; told = levels.Stable } ∷ [] };
}

-- the message is in hand, and its transaction at this stage, with these answers
abbrev pub charging : Stage → List ℤ → Vol
charging stage now = record taken { txn = record { begun = 1; last = None; stage = stage }; hand = Some (new_in_hand 0 (pos 3 ∷ [])); now = now }

abbrev pub asking : Pcom
asking = record { log = record { forced = the_receipt ∷ []; buffered = [] }; vol = charging (Waiting bank 0 None the_put) []; rest = [] }

abbrev pub ready : Pcom
ready = record { log = record { forced = the_receipt ∷ the_value ∷ []; buffered = [] }; vol = charging (Committing bank 1 the_session) (pos 3 ∷ []); rest = [] }

-- its transaction has ended, and a Drop is owed or not
abbrev pub charged : Bool → Vol
charged owes = record taken { clock = 4; txn = record { begun = 1; last = Some (bank, 1); stage = Idle }; ended_at = 71; owes_drop = owes }

abbrev pub ended : Pcom
ended = record { log = record { forced = the_receipt ∷ the_value ∷ []; buffered = the_outcome ∷ [] }; vol = charged true; rest = [] }

abbrev pub done : Pcom
done = record { log = record { forced = the_receipt ∷ the_value ∷ the_outcome ∷ []; buffered = [] }; vol = charged false; rest = [] }

-- the bank --------------------------------------------------------------------------------------------------

abbrev pub idle : Tcom
idle = record { records = []; book = record { ledger = pos 100 ∷ []; decided = []; epoch = 1; clock = 0 }; counter = 0; sittings = []; least = [] }

abbrev pub the_sitting : Sitting
the_sitting = record { session = the_session; peer = till; n = 1; answers = pos 3 ∷ []; keys = 0 ∷ []; writes = (0, pos 3) ∷ [] }

-- it has answered the request
abbrev pub serving : Tcom
serving = record idle { counter = 1; sittings = the_sitting ∷ []; least = (till, 1) ∷ [] }

-- it has decided, and serves the till from this number on
abbrev pub decided : ℕ → Tcom
decided least = record {
  records = the_decision ∷ [];
  book = record { ledger = pos 3 ∷ []; decided = record { peer = till; n = 1; stamp = 3 } ∷ []; epoch = 1; clock = 3 };
  counter = 1;
  sittings = [];
  least = (till, least) ∷ [];
}

-- files -----------------------------------------------------------------------------------------------------

abbrev pub print : List ℕ
print = replicate 32 7

abbrev pub no_records : ComId → List ℕ
no_records c = at_rest print c.0 [] []

abbrev pub shop_file : List ℕ
shop_file = at_rest print shop.0 [] (payload_of (the_input ∷ []) ∷ [])

abbrev pub asking_file : List ℕ
asking_file = at_rest print till.0 [] (payload_of (the_receipt ∷ []) ∷ [])

abbrev pub ready_file : List ℕ
ready_file = at_rest print till.0 [] (payload_of (the_receipt ∷ []) ∷ payload_of (the_value ∷ []) ∷ [])

abbrev pub done_file : List ℕ
done_file = at_rest print till.0 [] (payload_of (the_receipt ∷ []) ∷ payload_of (the_value ∷ []) ∷ payload_of (the_outcome ∷ []) ∷ [])

abbrev pub bank_file : List ℕ
bank_file = at_rest print bank.0 [] (payload_of (the_decision ∷ []) ∷ [])
