-- Each packet that is put out goes to a component that has a disk, whatever the disks do.
use Rattle.std.specs.Prelude.{◌≡◌, ⊤, true, List, Option, Some, MatchOption}
use Rattle.std.specs.List.{AllByRecursion}
use Rattle.ic_base.specs.declared.messages.ComId.{ComId}
use Rattle.ic_base.specs.declared.messages.Packet.{Packet}
use Rattle.ic_base.specs.declared.events.Answer.TheVariants as answers
use Rattle.ic_base.specs.declared.events.Event.{Event}
use Rattle.ic_base.specs.declared.events.What.{What}
use Rattle.ic_base.specs.declared.scenario.Program.{Program}
use Rattle.ic_base.specs.declared.record.Record.{Record}
use Rattle.def_state.specs.Txn.{tcom_of}
use Rattle.def_state.specs.Vol.{Vol}
use Rattle.def_step.specs.Packets.{receiver_of}
use Rattle.def_step.specs.Pcom.{Pcom, needed}
use Rattle.def_step.specs.Settle.{PolicyIntervals, oldest, asked_of, settling_event}
use Rattle.def_step.specs.World.{World, Node, Runs, Serves, Down, External, DiskOutcome, After, node_at, happens, first_world}
use Rattle.def_run.specs.Openings.{found_world}
use Rattle.def_run.specs.SystemStates.{has_disk}
use Rattle.def_facts.specs.Playable.{IsPlayable}
use Rattle.law_settle.specs.Represented.{IsWorldRepresented}

abbrev pub HasDisk : Program → ComId → Type 0
HasDisk program c = has_disk program c ≡ true

abbrev pub GoesToKept : Program → Packet → Type 0
GoesToKept program p = HasDisk program (receiver_of p)

-- a state names such components alone: its messages go to them, its open receipts are theirs, and so are its transactions
pub record NamesKept (program : Program) (v : Vol) : Type 0 where
  pub held : AllByRecursion (λ h. HasDisk program h.msg.to) v.outbox.held
  pub receipts : AllByRecursion (λ r. HasDisk program r.name.peer) v.inbox.receipts
  pub last : MatchOption v.txn.last ⊤ (λ x. HasDisk program x.0)
  pub open_on : MatchOption (tcom_of v.txn.stage) ⊤ (HasDisk program)

-- what is played next waits for a message of such a one
abbrev pub WaitsForKept : Program → List Record → Type 0
WaitsForKept program rs = MatchOption (needed rs) ⊤ (λ x. HasDisk program x.peer)

pub record PutsToKept (program : Program) (p : Pcom) : Type 0 where
  pub state : NamesKept program p.vol
  pub rest : WaitsForKept program p.rest

-- each packet goes to such a component, and so does what a Pcom that isn't down may put out
pub record IsWorldPutToKept (program : Program) (w : World) : Type 0 where
  pub packets : AllByRecursion (GoesToKept program) w.packets
  pub components : (c : ComId) (p : Pcom) → node_at w c ≡ Some (Runs p) → PutsToKept program p

-- the laws ----------------------------------------------------------------------------------------

-- a run begins so, anew or over logs that were found
abbrev pub FirstWorldPutsToKept : Type 0
FirstWorldPutsToKept = (program : Program) → IsWorldPutToKept program (first_world program)

abbrev pub FoundWorldPutsToKept : Type 0
FoundWorldPutsToKept = (program : Program) (logs : List (List Record)) → IsWorldRepresented program (found_world program logs) × IsWorldPutToKept program (found_world program logs)

-- an event keeps it, its stop reached or not, whatever the disks give
abbrev pub EventsPutToKept : Type 0
EventsPutToKept = (program : Program) (w : World) (e : Event) (x : DiskOutcome) (a : After) → IsPlayable program → IsWorldRepresented program w → IsWorldPutToKept program w → happens program w e x ≡ Some a → IsWorldPutToKept program a.world

-- so a delivery that settles, that of the oldest packet, is to such a component
abbrev pub OldestGoesToKept : Type 0
OldestGoesToKept = (program : Program) (w : World) (p : Packet) → IsWorldPutToKept program w → oldest w ≡ Some p → GoesToKept program p

-- no component that isn't an Xcom is without a disk
abbrev pub NodeHasDisk : Program → ComId → Node → Type 0
NodeHasDisk program c (Runs p) = HasDisk program c
NodeHasDisk program c (Serves t) = HasDisk program c
NodeHasDisk program c (Down records) = HasDisk program c
NodeHasDisk program c External = ⊤

abbrev pub HaveDisks : Program → World → Type 0
HaveDisks program w = (c : ComId) (n : Node) → node_at w c ≡ Some n → NodeHasDisk program c n

-- so whatever settles is asked of a component that has one, also where the policy asks for it
abbrev pub SettlesAtKept : Type 0
SettlesAtKept = (program : Program) (w : World) (x : PolicyIntervals) (last : Option ComId) (what : What) → IsWorldPutToKept program w → HaveDisks program w → settling_event w x last ≡ Some what → (c : ComId) → asked_of what answers.Idle ≡ Some c → HasDisk program c
