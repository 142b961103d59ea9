-- How a state is seen.
use Rattle.std.specs.Prelude.{◌≡◌, ◌<◌, ◌≤◌, ℕ, true, false, [], None}
use Rattle.std.specs.List.{All, AllPairs}
use Rattle.ic_base.specs.declared.messages.ComId.{ComId}
use Rattle.def_state.specs.Names.{number_of}
use Rattle.def_state.specs.Image.{is_rising, numbers_to}
use Rattle.def_state.specs.Vol.{Vol}
use Rattle.ic_out.specs.Views.{outbox_of}
use Rattle.ic_in.specs.Senders.{AreParts, only_taken, taken_in}
use Rattle.ic_edge.specs.RoomyShelf.{of_image}
use Rattle.ic_txn.specs.Replies.{ended}
use Rattle.ic_ckpt.specs.declared.state.State.{State}
use Rattle.ic_ckpt.specs.declared.parts.Parts.{Parts}

-- what a component holds beside its log
abbrev pub seen : State → Vol
seen s = record {
  vars = s.vars;
  clock = s.clock;
  outbox = s.outbox.seen;
  inbox = s.inbox.seen;
  shelf = s.shelf.shelf;
  txn = s.txn;
  hand = s.hand;
  now = s.answers;
  ended_at = s.ended_at;
  owes_drop = s.owes_drop;
}

-- so many more messages, receipts and outputs can be added without a growth
pub record HasRoom (s : State) (sends takes outs : ℕ) : Type 0 where
  pub messages : sends ≤ s.outbox.spare
  pub receipts : takes ≤ s.inbox.spare
  pub outputs : outs ≤ s.shelf.spare

-- the state that an image's fields give
abbrev pub vol_of : Parts → Vol
vol_of p = record {
  vars = p.vars;
  clock = p.clock;
  outbox = outbox_of p.links p.messages;
  inbox = only_taken (taken_in p.senders);
  shelf = of_image p.made p.outputs;
  txn = ended p.begun p.last;
  hand = None;
  now = [];
  ended_at = 0;
  owes_drop = false;
}

-- the fields go together, as the tables that are made of them ask
pub record AreWhole (p : Parts) : Type 0 where
  pub sent : All (λ m. m.k ≤ number_of 0 p.links m.to) p.messages
  pub rising : (to : ComId) → is_rising (numbers_to (outbox_of p.links p.messages) to) ≡ true
  pub outputs : AllPairs (λ x y. x.m < y.m) p.outputs
  pub made : All (λ x. x.m ≤ p.made) p.outputs
  pub senders : AreParts p.senders
