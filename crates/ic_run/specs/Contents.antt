-- What the messages that were put out carry, and what the ledgers of the Tcoms are made of.
use Rattle.std.specs.Prelude.{◌≡◌, ◌≤◌, ℕ, List, length, Some, Contains, slice_get}
use Rattle.ic_base.specs.declared.messages.ComId.{ComId}
use Rattle.ic_base.specs.declared.messages.Msg.{Msg}
use Rattle.ic_base.specs.declared.messages.Packet.{Packet}
use Rattle.ic_base.specs.declared.messages.Packet.TheVariants.{Data}
use Rattle.ic_base.specs.declared.scenario.Program.{Program}
use Rattle.def_facts.specs.Logs.{decisions_on}
use Rattle.def_step.specs.Tcom.{Tcom, first_ledger}
use Rattle.def_step.specs.World.{World, Serves, node_at}
use Rattle.law_tcom.specs.Decisions.{ledger_by}

-- however often a message was put out, by whatever life of its sender, it carries one content and one stamp
abbrev pub HaveOneContent : List Packet → Type 0
HaveOneContent packets = (m n : Msg) → Contains packets (Data m) → Contains packets (Data n) → m.from ≡ n.from → m.to ≡ n.to → m.k ≡ n.k → m ≡ n

-- The ledger of a Tcom that is up is the one that the scenario declares, with the decisions of its log applied to it, each whole, in order;
-- and its log has at most one decision on a transaction.
abbrev pub LedgersAreOfDecisions : Program → World → Type 0
LedgersAreOfDecisions program w =
    (t : ComId) (x : Tcom) → node_at w t ≡ Some (Serves x) → (x.book.ledger ≡ ledger_by (first_ledger (slice_get program.components t.0)) x.records) × ((c : ComId) (n : ℕ) → length (decisions_on x.records c n) ≤ 1)
