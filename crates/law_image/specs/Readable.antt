-- Which states have an image that is read back, and as what.
use Rattle.std.specs.Prelude.{◌≡◌, ◌<◌, ◌≤◌, ◌^◌, ℕ, Bool, true, false, ◌&&◌, List, [], ◌∷◌, map, length, Option, Some, None, FitsSigned}
use Rattle.std.specs.List.{AllByRecursion, list_all}
use Rattle.std.specs.Int.{w64}
use Rattle.ic_base.specs.declared.limits.TheConstants.{GREATEST_NUMBER, VALUES}
use Rattle.ic_base.specs.declared.messages.ComId.{ComId}
use Rattle.ic_base.specs.declared.messages.Msg.{Msg}
use Rattle.ic_base.specs.declared.messages.Output.{Output}
use Rattle.def_log.specs.Spelling.{IsCount, IsCom}
use Rattle.def_state.specs.Names.{Identity}
use Rattle.def_state.specs.Inbox.{comes_before}
use Rattle.def_state.specs.Outbox.{Held}
use Rattle.def_state.specs.Shelf.{Waiting}
use Rattle.def_state.specs.Txn.{Idle}
use Rattle.def_state.specs.Vol.{Vol}
use Rattle.def_state.specs.Image.{HasCounts}

abbrev pub LastFits : Option (ComId × ℕ) → Type 0
LastFits None = Unit {0}
LastFits (Some x) = IsCom x.0 × IsCount x.1

pub record OutputFits (o : Output) : Type 0 where
  pub m : IsCount o.m
  pub to : IsCom o.to
  pub few : length o.args ≤ VALUES
  pub args : AllByRecursion (FitsSigned w64) o.args

pub record LinkFits (x : ComId × ℕ) : Type 0 where
  pub to : IsCom x.0
  pub sent : IsCount x.1

pub record MessageFits (c : ComId) (m : Msg) : Type 0 where
  pub from : m.from ≡ c
  pub to : IsCom m.to
  pub k : IsCount m.k
  pub stamp : m.stamp ≤ GREATEST_NUMBER
  pub handler : m.handler < 256
  pub few : length m.args ≤ VALUES
  pub args : AllByRecursion (FitsSigned w64) m.args

pub record TakenFits (x : Identity) : Type 0 where
  pub peer : IsCom x.peer
  pub k : IsCount x.k

-- each identity comes before those behind it
abbrev pub is_ordered : List Identity → Bool
is_ordered [] = true
is_ordered (x ∷ xs) = list_all (comes_before x) xs && is_ordered xs

-- each field of the state's image has its bytes, and the taken identities are in order
pub record HasImage (c : ComId) (v : Vol) : Type 0 where
  pub counts : HasCounts v
  pub clock : v.clock ≤ GREATEST_NUMBER
  pub vars : AllByRecursion (FitsSigned w64) v.vars
  pub begun : v.txn.begun ≤ GREATEST_NUMBER
  pub last : LastFits v.txn.last
  pub made : v.shelf.made ≤ GREATEST_NUMBER
  pub outputs : AllByRecursion (λ w. OutputFits w.output) v.shelf.waiting
  pub links : AllByRecursion LinkFits v.outbox.links
  pub held : AllByRecursion (λ h. MessageFits c h.msg) v.outbox.held
  pub taken : AllByRecursion TakenFits v.inbox.taken
  pub ordered : is_ordered v.inbox.taken ≡ true

abbrev pub waiting_as_read : Waiting → Waiting
waiting_as_read w = record { output = w.output; at = 0 }

abbrev pub held_as_read : Held → Held
held_as_read h = record { msg = h.msg; at = 0; put = true; stable = false }

-- what an image keeps of a state: all is due, the messages have their put mark and no stable mark, and no receipt is open
abbrev pub as_read : Vol → Vol
as_read v = record {
  vars = v.vars;
  clock = v.clock;
  outbox = record { held = map held_as_read v.outbox.held; links = v.outbox.links };
  inbox = record { taken = v.inbox.taken; receipts = [] };
  shelf = record { waiting = map waiting_as_read v.shelf.waiting; made = v.shelf.made };
  txn = record { begun = v.txn.begun; last = v.txn.last; stage = Idle };
  hand = None;
  now = [];
  ended_at = 0;
  owes_drop = false;
}
