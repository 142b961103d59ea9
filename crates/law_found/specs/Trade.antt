-- A bank with one key, a buyer and a clerk. The buyer's purchase of 30 commits, and tells the clerk; a checkpoint stands behind it. The
-- clerk's own booking of 50 finds the key held by the buyer and is aborted.
use Rattle.std.specs.Prelude.{◌≡◌, ℕ, zero, suc, pos, List, [], ◌∷◌, Some, None}
use Rattle.std.specs.declared.alloc.Global.{Global}
use Rattle.std.proofs.Common.{lit<}
use Rattle.ic_base.specs.declared.messages.AbortCause.TheVariants.{Held}
use Rattle.ic_base.specs.declared.messages.Decision.TheVariants.{Committed, Aborted}
use Rattle.ic_base.specs.declared.messages.Msg.{Msg}
use Rattle.ic_base.specs.declared.messages.Packet.{Packet}
use Rattle.ic_base.specs.declared.messages.Packet.TheVariants as packets
use Rattle.ic_base.specs.declared.messages.Request.{Request}
use Rattle.ic_base.specs.declared.messages.Request.TheVariants as requests
use Rattle.ic_base.specs.declared.messages.Session.{Session}
use Rattle.ic_base.specs.declared.scenario.Expr.TheVariants.{One, Two}
use Rattle.ic_base.specs.declared.scenario.Op.TheVariants.{Add}
use Rattle.ic_base.specs.declared.scenario.Operand.TheVariants.{Number, Var, Param}
use Rattle.ic_base.specs.declared.scenario.Program.{Program}
use Rattle.ic_base.specs.declared.scenario.Stmt.{Stmt}
use Rattle.ic_base.specs.declared.scenario.Stmt.TheVariants.{Set, Send, Txn, Put}
use Rattle.ic_base.specs.declared.record.Record.{Record}
use Rattle.ic_base.specs.declared.record.Record.TheVariants.{Take, Input, Value, Outcome, Checkpoint, Decided}
use Rattle.def_play.specs.Scenes.{body, add}
use Rattle.def_plain.specs.Cell.{new_in_hand}
use Rattle.def_plain.specs.Scenes.{com_at, on, pcom_with, tcom_with}
use Rattle.def_state.specs.Hist.{Hist, Begun, after}
use Rattle.def_state.specs.Txn.{Idle, Waiting, Committing}
use Rattle.def_state.specs.Image.{image_of}
use Rattle.def_state.specs.Mirrors.{vol_of}
use Rattle.def_facts.specs.Logs.{Logs, contents_in}
use Rattle.def_facts.specs.World.{Past}

-- put balance n
abbrev pub put_part : List Stmt
put_part = Put 0 (One (Param 0)) ∷ []

-- on buy n: txn bank / put balance n / else / end / send clerk note n
abbrev pub buy : Global → List Stmt
buy a = Txn (com_at 0) (body a put_part (lit< tt)) (body a [] (lit< tt)) ∷ Send (com_at 2) 1 (Param 0 ∷ []) ∷ []

-- set failed failed + 1
abbrev pub fail : List Stmt
fail = Set 0 (Two (Var 0) Add (Number (pos 1))) ∷ []

-- on book n: txn bank / put balance n / else / set failed failed + 1 / end
abbrev pub book : Global → List Stmt
book a = Txn (com_at 0) (body a put_part (lit< tt)) (body a fail (lit< tt)) ∷ []

-- a bank, a buyer, and a clerk who also notes what was bought
abbrev pub trade : Global → Program
trade a =
    record {
      components = tcom_with (([], pos 0) ∷ [])
          ∷ pcom_with (([], pos 0) ∷ []) (on (body a (buy a) (lit< tt)) ∷ [])
          ∷ pcom_with (([], pos 0) ∷ []) (on (body a (book a) (lit< tt)) ∷ on (body a add (lit< tt)) ∷ [])
          ∷ [];
    }

abbrev pub the_session : Session
the_session = record { epoch = 1; counter = 1 }

abbrev pub the_put : Request
the_put = requests.Put 0 (pos 30)

abbrev pub other_put : Request
other_put = requests.Put 0 (pos 50)

-- what the buyer tells the clerk
abbrev pub the_note : Msg
the_note = record { from = com_at 1; to = com_at 2; k = 1; stamp = 3; handler = 1; args = pos 30 ∷ [] }

-- the states of the buyer -----------------------------------------------------------------------------------

abbrev pub buying : Begun
buying = record { tcom = com_at 0; handler = 0; vars = pos 0 ∷ []; args = pos 30 ∷ []; done = [] }

abbrev pub asking : Hist
asking = record {
  plain = record { vars = pos 0 ∷ []; hand = Some (new_in_hand 0 (pos 30 ∷ [])); sent = []; receipts = []; outs = []; begun = 1 };
  clock = 1;
  sent = [];
  held = [];
  unshown = [];
  shown = 0;
  last = None;
  stage = Waiting (com_at 0) 0 None the_put;
  now = [];
  begun = buying ∷ [];
}

abbrev pub ready : Hist
ready = record asking { stage = Committing (com_at 0) 1 the_session; now = pos 30 ∷ [] }

abbrev pub bought : Hist
bought = record {
  plain = record { vars = pos 0 ∷ []; hand = None; sent = record { to = com_at 2; handler = 1; args = pos 30 ∷ [] } ∷ []; receipts = []; outs = []; begun = 1 };
  clock = 3;
  sent = the_note ∷ [];
  held = the_note ∷ [];
  unshown = [];
  shown = 0;
  last = Some (com_at 0, 1);
  stage = Idle;
  now = [];
  begun = buying ∷ [];
}

-- the states of the clerk -----------------------------------------------------------------------------------

abbrev pub booking : Begun
booking = record { tcom = com_at 0; handler = 0; vars = pos 0 ∷ []; args = pos 50 ∷ []; done = [] }

abbrev pub refused : Hist
refused = record {
  plain = record { vars = pos 0 ∷ []; hand = Some (new_in_hand 0 (pos 50 ∷ [])); sent = []; receipts = []; outs = []; begun = 1 };
  clock = 1;
  sent = [];
  held = [];
  unshown = [];
  shown = 0;
  last = None;
  stage = Waiting (com_at 0) 0 None other_put;
  now = [];
  begun = booking ∷ [];
}

abbrev pub failed : Hist
failed = record {
  plain = record { vars = pos 1 ∷ []; hand = None; sent = []; receipts = []; outs = []; begun = 1 };
  clock = 2;
  sent = [];
  held = [];
  unshown = [];
  shown = 0;
  last = Some (com_at 0, 1);
  stage = Idle;
  now = [];
  begun = booking ∷ [];
}

abbrev pub told : Hist
told = record failed {
  plain = record { vars = pos 31 ∷ []; hand = None; sent = []; receipts = (com_at 1, 1) ∷ []; outs = []; begun = 1 };
  clock = 4;
}

-- logs ------------------------------------------------------------------------------------------------------

abbrev pub bank_log : List Record
bank_log = Decided 2 (com_at 1) 1 ((0, pos 30) ∷ []) ∷ []

abbrev pub buyer_log : List Record
buyer_log = Input 1 0 (pos 30 ∷ []) ∷ Value 1 0 the_session (pos 30) ∷ Outcome 3 1 None ∷ Checkpoint (image_of (vol_of bought)) ∷ []

abbrev pub clerk_log : List Record
clerk_log = Input 1 0 (pos 50 ∷ []) ∷ Outcome 2 1 (Some (Held (com_at 1) 1)) ∷ Take (com_at 1) 1 4 ∷ []

abbrev pub trade_logs : Logs
trade_logs = bank_log ∷ buyer_log ∷ clerk_log ∷ []

-- packets -----------------------------------------------------------------------------------------------------

-- the buyer's request, its Commit, its message, and the Drop
abbrev pub buyer_sent : List Packet
buyer_sent =
    packets.Op (com_at 1) (com_at 0) 1 0 None the_put
    ∷ packets.Commit (com_at 1) (com_at 0) 1 1 the_session 1
    ∷ packets.Data the_note
    ∷ packets.Drop (com_at 1) (com_at 0) 1
    ∷ []

-- the clerk's request, the Drop, and the acknowledgement
abbrev pub clerk_sent : List Packet
clerk_sent = packets.Op (com_at 2) (com_at 0) 1 0 None other_put ∷ packets.Drop (com_at 2) (com_at 0) 1 ∷ packets.Stable (com_at 2) (com_at 1) 1 ∷ []

abbrev pub the_reply : Packet
the_reply = packets.OpReply (com_at 0) (com_at 1) 1 0 the_session (pos 30)

abbrev pub the_commit : Packet
the_commit = packets.Outcome (com_at 0) (com_at 1) 1 1 (Some the_session) (Committed 2)

abbrev pub the_abort : Packet
the_abort = packets.Outcome (com_at 0) (com_at 2) 1 0 None (Aborted (Held (com_at 1) 1))

abbrev pub bank_sent : List Packet
bank_sent = the_reply ∷ the_abort ∷ the_commit ∷ []

abbrev pub bank_received : List Packet
bank_received =
    packets.Op (com_at 1) (com_at 0) 1 0 None the_put
    ∷ packets.Op (com_at 2) (com_at 0) 1 0 None other_put
    ∷ packets.Commit (com_at 1) (com_at 0) 1 1 the_session 1
    ∷ []

abbrev pub buyer_received : List Packet
buyer_received = the_reply ∷ the_commit ∷ packets.Stable (com_at 2) (com_at 1) 1 ∷ []

abbrev pub clerk_received : List Packet
clerk_received = the_abort ∷ packets.Data the_note ∷ []

abbrev pub by_number : List Packet → List Packet → List Packet → ℕ → List Packet
by_number xs ys zs zero = xs
by_number xs ys zs (suc zero) = ys
by_number xs ys zs (suc (suc zero)) = zs
by_number xs ys zs (suc (suc (suc n))) = []

abbrev pub trade_past : Past
trade_past = record { sent = λ c. by_number bank_sent buyer_sent clerk_sent c.0; received = λ c. by_number bank_received buyer_received clerk_received c.0 }

-- the logs replay to these states
abbrev pub SceneReplays : Type 0
SceneReplays = (a : Global) →
    (after (trade a) (com_at 1) (contents_in buyer_received) buyer_log ≡ Some bought)
    × (after (trade a) (com_at 2) (contents_in clerk_received) clerk_log ≡ Some told)
