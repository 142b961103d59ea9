-- The volatile state of a Pcom, and what a record does to it.
use Rattle.std.specs.Prelude.{ℕ, nat_le, Bool, true, false, cond, List, [], ◌∷◌, ◌++◌, map, ℤ, Option, Some, None, option_map, option_and_then, is_none}
use Rattle.ic_base.specs.declared.limits.TheConstants.{GREATEST_NUMBER}
use Rattle.std.specs.List.{list_all}
use Rattle.ic_base.specs.declared.messages.ComId.{ComId}
use Rattle.ic_base.specs.declared.messages.Msg.{Msg}
use Rattle.ic_base.specs.declared.messages.AbortCause.{AbortCause}
use Rattle.ic_base.specs.declared.messages.Done.{Done}
use Rattle.ic_base.specs.declared.messages.Done.TheVariants.{Committed, Aborted}
use Rattle.ic_base.specs.declared.scenario.Program.{Program}
use Rattle.ic_base.specs.declared.played.Played.{Played}
use Rattle.ic_base.specs.declared.played.Played.TheVariants.{Asks, Ready, NeedFails, Ends}
use Rattle.ic_base.specs.declared.record.Record.{Record}
use Rattle.ic_base.specs.declared.record.Record.TheVariants.{Take, TakeWhole, Input, Value, Outcome, Released, Shown}
use Rattle.def_plain.specs.declared.world.InHand.{InHand}
use Rattle.def_state.specs.Outbox
use Rattle.def_state.specs.Outbox.{Outbox, Held, empty_outbox}
use Rattle.def_state.specs.Inbox
use Rattle.def_state.specs.Inbox.{Inbox, empty_inbox}
use Rattle.def_state.specs.Shelf
use Rattle.def_state.specs.Shelf.{Shelf, empty_shelf}
use Rattle.def_state.specs.Txn
use Rattle.def_state.specs.Txn.{Txn, no_txn}
use Rattle.def_state.specs.Fits.{Standing, failed_line}
use Rattle.def_state.specs.Hist.{hand_plays, first_plain}

-- all that a Pcom holds beside its log; a Drop is owed until the Outcome that ended at `ended_at` is forced
pub record Vol : Type 0 where
  pub vars : List ℤ
  pub clock : ℕ
  pub outbox : Outbox
  pub inbox : Inbox
  pub shelf : Shelf
  pub txn : Txn
  pub hand : Option InHand
  pub now : List ℤ
  pub ended_at : ℕ
  pub owes_drop : Bool

abbrev pub first_vol : Program → ComId → Vol
first_vol program c = record {
  vars = (first_plain program c).vars;
  clock = 0;
  outbox = empty_outbox;
  inbox = empty_inbox;
  shelf = empty_shelf;
  txn = no_txn;
  hand = None;
  now = [];
  ended_at = 0;
  owes_drop = false;
}

abbrev pub standing : Program → ComId → Vol → Standing
standing program c v = record {
  clock = v.clock;
  is_free = is_none v.hand;
  has_taken = λ x. Inbox.is_taken v.inbox x;
  holds = λ x. Outbox.is_held v.outbox x;
  oldest = Shelf.oldest v.shelf;
  begun = v.txn.begun;
  stage = v.txn.stage;
  failed = option_and_then (λ hand. failed_line (hand_plays program c v.vars v.now hand)) v.hand;
}

-- the message in hand has come to this; what it sent may leave once the log is forced up to `at`
abbrev pub come_to : ComId → ℕ → Vol → Played → Vol
come_to c at v (Ends vars sends outs) = record v {
  vars = vars;
  hand = None;
  now = [];
  outbox = Outbox.send_all c v.clock at v.outbox sends;
  shelf = Shelf.add_all at v.shelf outs;
}
come_to c at v (Asks t request) = record v { txn = cond (Txn.is_idle v.txn.stage) (Txn.begin v.txn t request) (Txn.ask v.txn request) }
come_to c at v (Ready t) = record v { txn = Txn.ready v.txn }
come_to c at v (NeedFails t line) = v

-- the message in hand is played until it ends or waits
abbrev pub play_hand : Program → ComId → ℕ → Vol → Option InHand → Vol
play_hand program c at v None = v
play_hand program c at v (Some hand) = come_to c at v (hand_plays program c v.vars v.now hand)

abbrev pub play_on : Program → ComId → ℕ → Vol → Vol
play_on program c at v = play_hand program c at v v.hand

abbrev pub take_in_hand : Vol → ℕ → ℕ → List ℤ → Vol
take_in_hand v stamp handler args = record v { clock = stamp; hand = Some (record { handler = handler; args = args; done = [] }); now = [] }

abbrev pub receive : Vol → ComId → ℕ → ℕ → Bool → Vol
receive v from k at whole = record v { inbox = Inbox.took v.inbox (record { peer = from; k = k }) at whole }

abbrev pub done_by : List ℤ → Option AbortCause → Done
done_by now None = Committed now
done_by now (Some cause) = Aborted

abbrev pub add_done : Done → InHand → InHand
add_done d hand = record hand { done = hand.done ++ d ∷ [] }

abbrev pub end_txn : Vol → ℕ → ℕ → Option AbortCause → Vol
end_txn v stamp at abort = record v {
  clock = stamp;
  hand = option_map (add_done (done_by v.now abort)) v.hand;
  now = [];
  txn = Txn.end v.txn;
  ended_at = at;
  owes_drop = true;
}

-- a message that is taken by identity, with its content
abbrev pub take_named : Program → ComId → ℕ → Vol → ComId → ℕ → ℕ → Option Msg → Vol
take_named program c at v from k stamp None = v
take_named program c at v from k stamp (Some m) = play_on program c at (take_in_hand (receive v from k at false) stamp m.handler m.args)

-- a record that ends at position `at` of the log, with the content of the message that it takes
abbrev pub record_in : Program → ComId → ℕ → Option Msg → Vol → Record → Vol
record_in program c at content v (Take from k stamp) = take_named program c at v from k stamp content
record_in program c at content v (TakeWhole from k stamp handler args) = play_on program c at (take_in_hand (receive v from k at true) stamp handler args)
record_in program c at content v (Input stamp handler args) = play_on program c at (take_in_hand v stamp handler args)
record_in program c at content v (Value n place session value) = play_on program c at (record v { now = v.now ++ value ∷ []; txn = Txn.take_reply v.txn session })
record_in program c at content v (Outcome stamp n abort) = play_on program c at (end_txn v stamp at abort)
record_in program c at content v (Released to k) = record v { outbox = Outbox.installed v.outbox (record { peer = to; k = k }) }
record_in program c at content v (Shown m) = record v { shelf = Shelf.shown v.shelf m }
record_in program c at content v _ = v

-- no number passes its limit
abbrev pub numbers_fit : Vol → Bool
numbers_fit v = list_all (λ n. nat_le n GREATEST_NUMBER) (v.clock ∷ v.shelf.made ∷ v.txn.begun ∷ map (λ x. x.1) v.outbox.links)

abbrev pub with_put_mark : Held → Held
with_put_mark h = record h { put = true }

-- what a replay regenerates has its put mark, and its Drop is left to a resend
abbrev pub regenerated : Vol → Vol
regenerated v = record v { outbox = record v.outbox { held = map with_put_mark v.outbox.held }; owes_drop = false }
