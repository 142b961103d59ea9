-- The replayed state of a Pcom: its log folded from the first state on, one record at a time.
use Rattle.std.specs.Prelude.{true, false, ℕ, zero, suc, ◌+◌, ◌==◌, nat_le, Bool, not, ◌&&◌, cond, List, [], ◌∷◌, ◌++◌, map, drop, fold, length, slice_get, filter, ℤ, Option, Some, None, option_map, option_and_then, option_to_list, is_none}
use Rattle.ic_base.specs.declared.limits.TheConstants.{GREATEST_NUMBER}
use Rattle.std.specs.List.{list_any, list_all}
use Rattle.ic_base.specs.declared.messages.ComId.{ComId}
use Rattle.ic_base.specs.declared.messages.Msg.{Msg}
use Rattle.ic_base.specs.declared.messages.Output.{Output}
use Rattle.ic_base.specs.declared.messages.Send.{Send}
use Rattle.ic_base.specs.declared.messages.Out.{Out}
use Rattle.ic_base.specs.declared.messages.Done.{Done}
use Rattle.ic_base.specs.declared.messages.Session.{Session}
use Rattle.ic_base.specs.declared.scenario.Program.{Program}
use Rattle.ic_base.specs.declared.played.Played.{Played}
use Rattle.ic_base.specs.declared.played.Played.TheVariants.{Asks, Ready, NeedFails, Ends}
use Rattle.ic_base.specs.declared.record.Record.{Record}
use Rattle.ic_base.specs.declared.record.Record.TheVariants.{Take, TakeWhole, Input, Value, Outcome, Released, Shown, Checkpoint, Epoch, Decided}
use Rattle.ic_base.specs.declared.scenario.Component.{Component}
use Rattle.def_play.specs.Playing.{played}
use Rattle.def_plain.specs.declared.world.PlainPcom.{PlainPcom}
use Rattle.def_plain.specs.declared.world.InHand.{InHand}
use Rattle.def_plain.specs.Cell.{Touch, TakesMessage, TakesInput, SeesAbort, SeesCommit, cell_step, first_pcom}
use Rattle.def_state.specs.Names.{Identity, same_identity, Numbers, number_of, count_up}
use Rattle.def_state.specs.Txn.{Txn, Stage, Idle, Waiting, answered_in, asking, readied, tcom_of, last_of}
use Rattle.def_state.specs.Fits.{Standing, fits, failed_line}

-- how a transaction was begun: all that its part needs to be played again
pub record Begun : Type 0 where
  pub tcom : ComId
  pub handler : ℕ
  pub vars : List ℤ
  pub args : List ℤ
  pub done : List Done

-- the crash-free part, and what only a log tells: stamps, messages not released, outputs not shown, the open transaction's answers
pub record Hist : Type 0 where
  pub plain : PlainPcom
  pub clock : ℕ
  pub sent : List Msg
  pub held : List Msg
  pub unshown : List Output
  pub shown : ℕ
  pub last : Option (ComId × ℕ)
  pub stage : Stage
  pub now : List ℤ
  pub begun : List Begun

-- the content of a message that was taken by identity
abbrev pub Contents : Type 0
Contents = ComId → ℕ → Option Msg

abbrev pub first_cell : Option Component → PlainPcom
first_cell None = record { vars = []; hand = None; sent = []; receipts = []; outs = []; begun = 0 }
first_cell (Some d) = first_pcom d

abbrev pub first_plain : Program → ComId → PlainPcom
first_plain program c = first_cell (slice_get program.components c.0)

abbrev pub first_hist : Program → ComId → Hist
first_hist program c = record {
  plain = first_plain program c;
  clock = 0;
  sent = [];
  held = [];
  unshown = [];
  shown = 0;
  last = None;
  stage = Idle;
  now = [];
  begun = [];
}

-- what the message in hand comes to
abbrev pub hand_plays : Program → ComId → List ℤ → List ℤ → InHand → Played
hand_plays program c vars now h = played program c h.handler vars h.args h.done now

-- what is said of messages and outputs -----------------------------------------------

abbrev pub identity_of : Msg → Identity
identity_of m = record { peer = m.to; k = m.k }

abbrev pub is_in : List Identity → Identity → Bool
is_in xs x = list_any (same_identity x) xs

abbrev pub receipt_identity : ComId × ℕ → Identity
receipt_identity r = record { peer = r.0; k = r.1 }

abbrev pub number_outputs : ℕ → List Out → List Output
number_outputs m [] = []
number_outputs m (o ∷ os) = record { m = m; to = o.to; args = o.args } ∷ number_outputs (m + 1) os

-- the outputs, numbered from 1
abbrev pub outputs_of : Hist → List Output
outputs_of h = number_outputs 1 h.plain.outs

-- the number sent on each link
abbrev pub links_of : List Msg → Numbers
links_of ms = fold (λ links m. count_up m.to links) [] ms

-- the transactions, as the live component holds them
abbrev pub txn_of : Hist → Txn
txn_of h = record { begun = h.plain.begun; last = h.last; stage = h.stage }

-- one record ---------------------------------------------------------------------------

abbrev pub standing_of : Program → ComId → Hist → Standing
standing_of program c h = record {
  clock = h.clock;
  is_free = is_none h.plain.hand;
  has_taken = λ x. is_in (map receipt_identity h.plain.receipts) x;
  holds = λ x. is_in (map identity_of h.held) x;
  oldest = option_map (λ o. o.m) (slice_get h.unshown 0);
  begun = h.plain.begun;
  stage = h.stage;
  failed = option_and_then (λ hand. failed_line (hand_plays program c h.plain.vars h.now hand)) h.plain.hand;
}

-- what a record says to the crash-free cell: it takes, is given an input, or ends a transaction
abbrev pub touch_of : Contents → List ℤ → Record → Option Touch
touch_of contents now (Take from k stamp) = option_map (λ m. TakesMessage from k m.handler m.args) (contents from k)
touch_of contents now (TakeWhole from k stamp handler args) = Some (TakesMessage from k handler args)
touch_of contents now (Input stamp handler args) = Some (TakesInput handler args)
touch_of contents now (Outcome stamp n None) = Some (SeesCommit n now)
touch_of contents now (Outcome stamp n (Some cause)) = Some (SeesAbort n)
touch_of contents now _ = None

-- a message for each send, the next on its link, with this stamp
abbrev pub stamp_all : ComId → ℕ → Numbers → List Send → List Msg
stamp_all c stamp links [] = []
stamp_all c stamp links (s ∷ ss) =
    record { from = c; to = s.to; k = number_of 0 links s.to + 1; stamp = stamp; handler = s.handler; args = s.args } ∷ stamp_all c stamp (count_up s.to links) ss

-- a play that begins a transaction waits at place 0
abbrev pub first_stage : Option Played → Stage
first_stage None = Idle
first_stage (Some (Asks t request)) = Waiting t 0 None request
first_stage _ = Idle

abbrev pub begun_with : PlainPcom → Option InHand → Option ComId → List Begun
begun_with p None t = []
begun_with p (Some h) None = []
begun_with p (Some h) (Some t) = record { tcom = t; handler = h.handler; vars = p.vars; args = h.args; done = h.done } ∷ []

-- where a cell that has just played on stands
abbrev pub stage_of : Program → ComId → PlainPcom → Stage
stage_of program c p = first_stage (option_map (hand_plays program c p.vars []) p.hand)

-- the transaction that it has just begun, if it has
abbrev pub newly_begun : Program → ComId → PlainPcom → List Begun
newly_begun program c p = begun_with p p.hand (tcom_of (stage_of program c p))

-- what a cell that has played on to p has sent and put out
abbrev pub new_messages : ComId → ℕ → Hist → PlainPcom → List Msg
new_messages c stamp h p = stamp_all c stamp (links_of h.sent) (drop (length h.plain.sent) p.sent)

abbrev pub new_outputs : Hist → PlainPcom → List Output
new_outputs h p = number_outputs (length h.plain.outs + 1) (drop (length h.plain.outs) p.outs)

-- the crash-free cell has played on to p, at this stamp
abbrev pub moved : Program → ComId → Hist → ℕ → PlainPcom → Hist
moved program c h stamp p = record {
  plain = p;
  clock = stamp;
  sent = h.sent ++ new_messages c stamp h p;
  held = h.held ++ new_messages c stamp h p;
  unshown = h.unshown ++ new_outputs h p;
  shown = h.shown;
  last = h.last;
  stage = stage_of program c p;
  now = [];
  begun = h.begun ++ newly_begun program c p;
}

-- no number passes its limit
abbrev pub numbers_fit : Hist → Bool
numbers_fit h =
    list_all (λ m. nat_le m.k GREATEST_NUMBER) h.sent && (nat_le (length h.plain.outs) GREATEST_NUMBER && nat_le h.plain.begun GREATEST_NUMBER)

-- a part begins with a request: a play that has just begun a transaction asks it
abbrev pub is_at_request : Option Played → Bool
is_at_request None = true
is_at_request (Some (Asks t request)) = true
is_at_request _ = false

abbrev pub moved_well : Program → ComId → Hist → ℕ → PlainPcom → Option Hist
moved_well program c h stamp p =
    cond (numbers_fit (moved program c h stamp p) && is_at_request (option_map (hand_plays program c p.vars []) p.hand)) (Some (moved program c h stamp p)) None

abbrev pub played_on : Program → ComId → Hist → ℕ → Option Touch → Option Hist
played_on program c h stamp None = None
played_on program c h stamp (Some touch) = option_and_then (moved_well program c h stamp) (cell_step program c h.plain touch)

-- the open transaction becomes the last that ended
abbrev pub last_ended : Hist → Hist
last_ended h = record h { last = last_of (txn_of h) (tcom_of h.stage) }

-- where the part stands with one more answer
abbrev pub staged : Stage → Option Played → Stage
staged s None = s
staged s (Some (Asks t request)) = asking s request
staged s (Some (Ready t)) = readied s
staged s (Some (NeedFails t line)) = s
staged s (Some (Ends vars sends outs)) = s

abbrev pub answered : Program → ComId → Hist → Session → List ℤ → Hist
answered program c h session now = record h {
  now = now;
  stage = staged (answered_in h.stage session) (option_map (hand_plays program c h.plain.vars now) h.plain.hand);
}

-- what a fitting record does
abbrev pub recorded : Program → ComId → Contents → Hist → Record → Option Hist
recorded program c contents h (Take from k stamp) = played_on program c h stamp (touch_of contents h.now (Take from k stamp))
recorded program c contents h (TakeWhole from k stamp handler args) = played_on program c h stamp (touch_of contents h.now (TakeWhole from k stamp handler args))
recorded program c contents h (Input stamp handler args) = played_on program c h stamp (touch_of contents h.now (Input stamp handler args))
recorded program c contents h (Outcome stamp n abort) = played_on program c (last_ended h) stamp (touch_of contents h.now (Outcome stamp n abort))
recorded program c contents h (Value n place session value) = Some (answered program c h session (h.now ++ value ∷ []))
recorded program c contents h (Released to k) = Some (record h { held = filter (λ m. not (same_identity (record { peer = to; k = k }) (identity_of m))) h.held })
recorded program c contents h (Shown m) = Some (record h { unshown = filter (λ o. not (o.m == m)) h.unshown; shown = m })
recorded program c contents h (Checkpoint image) = Some h
recorded program c contents h (Epoch epoch) = None
recorded program c contents h (Decided stamp d n writes) = None

-- one record applied; None where it is a misfit, or the content is missing
abbrev pub apply : Program → ComId → Contents → Hist → Record → Option Hist
apply program c contents h r = cond (fits program c (standing_of program c h) r) (recorded program c contents h r) None

-- a whole log, from a state on
abbrev pub apply_all : Program → ComId → Contents → Option Hist → List Record → Option Hist
apply_all program c contents h [] = h
apply_all program c contents h (r ∷ rs) = apply_all program c contents (option_and_then (λ x. apply program c contents x r) h) rs

-- the state that the records give
abbrev pub after : Program → ComId → Contents → List Record → Option Hist
after program c contents records = apply_all program c contents (Some (first_hist program c)) records

-- the touches that the records give to the crash-free cell, in order
abbrev pub touches : Program → ComId → Contents → Option Hist → List Record → List Touch
touches program c contents None rs = []
touches program c contents (Some h) [] = []
touches program c contents (Some h) (r ∷ rs) = option_to_list (touch_of contents h.now r) ++ touches program c contents (apply program c contents h r) rs

-- the crash-free cell behind touches
abbrev pub cells : Program → ComId → Option PlainPcom → List Touch → Option PlainPcom
cells program c p [] = p
cells program c p (x ∷ xs) = cells program c (option_and_then (λ q. cell_step program c q x) p) xs

abbrev pub nth : {A : Type 0} → List A → ℕ → Option A
nth xs zero = None
nth xs (suc n) = slice_get xs n

-- how the n-th transaction was begun, counted from 1
abbrev pub opened : Hist → ℕ → Option Begun
opened h n = nth h.begun n

-- what its part comes to with these answers
abbrev pub plays_again : Program → ComId → Begun → List ℤ → Played
plays_again program c b now = played program c b.handler b.vars b.args b.done now
