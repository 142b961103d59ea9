-- A Pcom that replays keeps its facts.
use Rattle.std.specs.Prelude.{◌≡◌, ℕ, ◌≤◌, List, Some, Contains, IsTrue}
use Rattle.ic_base.specs.declared.messages.ComId.{ComId}
use Rattle.ic_base.specs.declared.messages.Packet.{Packet}
use Rattle.ic_base.specs.declared.messages.Packet.TheVariants as packets
use Rattle.ic_base.specs.declared.scenario.Program.{Program}
use Rattle.ic_base.specs.declared.record.Record.{Record}
use Rattle.def_state.specs.Names.{Identity}
use Rattle.def_state.specs.Positions.{end_of}
use Rattle.def_state.specs.Inbox.{Receipt}
use Rattle.def_state.specs.Outbox.{Held}
use Rattle.def_state.specs.Shelf
use Rattle.def_state.specs.Hist.{Hist}
use Rattle.def_state.specs.Vol.{Vol}
use Rattle.def_state.specs.Mirrors.{Mirrors}
use Rattle.def_facts.specs.Logs.{is_kept}
use Rattle.def_facts.specs.Pcom.{state_after}
use Rattle.law_pcom.specs.Keeping.{MayTell}

-- the live state is that of the records that are played; all are forced
pub record Plays (program : Program) (c : ComId) (received : List Packet) (v : Vol) (played forced : List Record) : Type 0 where
  pub state : Hist
  pub is_state : state_after program c received played ≡ Some state
  pub mirrors : Mirrors v state
  pub held_within : (x : Held) → Contains v.outbox.held x → x.at ≤ end_of forced
  pub shelved_within : (x : Shelf.Waiting) → Contains v.shelf.waiting x → x.at ≤ end_of forced
  pub received_within : (x : Receipt) → Contains v.inbox.receipts x → x.at ≤ end_of forced
  pub ended_within : (t : ComId) (n : ℕ) → v.txn.last ≡ Some (t, n) → v.ended_at ≤ end_of forced
  pub receipt_taken : (x : Receipt) → Contains v.inbox.receipts x → Contains v.inbox.taken x.name
  pub stable_received : (x : Held) → Contains v.outbox.held x → IsTrue x.stable → Contains received (packets.Stable x.msg.to c x.msg.k)
  pub kept : (x : Identity) → Contains v.inbox.taken x → MayTell v x → IsTrue (is_kept forced x)
