-- What becomes of a packet at a Pcom that replays.
use Rattle.std.specs.Prelude.{◌&&◌, cond, List, Option, Some, None}
use Rattle.ic_base.specs.declared.messages.ComId.{ComId}
use Rattle.ic_base.specs.declared.messages.Msg.{Msg}
use Rattle.ic_base.specs.declared.messages.Packet.{Packet}
use Rattle.ic_base.specs.declared.messages.Packet.TheVariants.{Data, Fetch}
use Rattle.ic_base.specs.declared.record.Record.{Record}
use Rattle.ic_base.specs.declared.scenario.Program.{Program}
use Rattle.def_state.specs.Outbox
use Rattle.def_step.specs.Packets.{fits_pcom}
use Rattle.def_step.specs.Pcom as step

-- the message that it waits for, where the packet is that
abbrev pub wanted : Program → ComId → List Record → Packet → Option Msg
wanted program c rest (Data m) = cond (fits_pcom program c (Data m) && step.is_needed rest m) (Some m) None
wanted program c rest _ = None

-- the message of its own that the packet asks for, where it is held and due
abbrev pub asked : Program → ComId → step.Pcom → Packet → Option Msg
asked program c p (Fetch from to k) = cond (fits_pcom program c (Fetch from to k)) (Outbox.fetch p.vol.outbox (record { peer = from; k = k }) (step.forced_end p)) None
asked program c p _ = None
