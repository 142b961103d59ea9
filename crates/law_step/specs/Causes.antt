-- Each abort has its cause.
use Rattle.std.specs.Prelude.{◌≡◌, ◌⊎◌, ℕ, ◌==◌, true, false, ℤ, ◌++◌, Option, Some, Contains}
use Rattle.std.specs.List.{list_any}
use Rattle.ic_base.specs.declared.messages.ComId.{ComId}
use Rattle.ic_base.specs.declared.messages.AbortCause.{AbortCause}
use Rattle.ic_base.specs.declared.messages.AbortCause.TheVariants.{Need, Held, Epoch as Epochs}
use Rattle.ic_base.specs.declared.messages.Decision.TheVariants.{Aborted}
use Rattle.ic_base.specs.declared.messages.Packet.{Packet}
use Rattle.ic_base.specs.declared.messages.Packet.TheVariants.{Op, OpReply, Commit, Outcome}
use Rattle.ic_base.specs.declared.messages.Request.{Request}
use Rattle.ic_base.specs.declared.messages.Session.{Session}
use Rattle.ic_base.specs.declared.events.Event.{Event}
use Rattle.ic_base.specs.declared.scenario.Program.{Program}
use Rattle.def_state.specs.Txn.{reply, outcome}
use Rattle.def_step.specs.Calls.{called, call_of}
use Rattle.def_step.specs.Packets.{key_of}
use Rattle.def_step.specs.Pcom.{Pcom, Gets, fails_with}
use Rattle.def_step.specs.Tcom.{Tcom, Sitting, sits_for}
use Rattle.def_facts.specs.Logs.{Logs}
use Rattle.def_facts.specs.World.{IsExplained}
use Rattle.def_step.specs.World.{World, Runs, Serves, DiskOutcome, After, node_at, happens}

-- at a Tcom ---------------------------------------------------------------------------------------------------

-- the packet asks for something in this session
abbrev pub AsksIn : Packet → ComId → ℕ → ℕ → Session → Type 0
AsksIn p c n place session = ((t : ComId) × (q : Request) × (p ≡ Op c t n place (Some session) q)) ⊎ ((t : ComId) × (stamp : ℕ) × (p ≡ Commit c t n place session stamp))

-- why a Tcom refuses this packet: another session holds the key that it asks for, or its session is of another epoch
abbrev pub IsCause : Tcom → Packet → ComId → ℕ → ℕ → Option Session → AbortCause → Type 0
IsCause x p c n place session (Need line) = ⊥
IsCause x p c n place session (Held d j) =
    (t : ComId) × (at : ℕ) × (q : Request) × (p ≡ Op c t n at session q) × (s : Sitting) × Contains x.sittings s × (s.peer ≡ d) × (s.n ≡ j) × (sits_for c n s ≡ false) × (list_any (λ key. key == key_of q) s.keys ≡ true)
IsCause x p c n place session (Epochs a b) = (s : Session) × (session ≡ Some s) × (s.epoch ≡ a) × (x.book.epoch ≡ b) × ((a == b) ≡ false) × AsksIn p c n place s

-- an event has t put out this abort: it serves a packet that was put out, and has this cause
pub record Refuses (program : Program) (w : World) (e : Event) (t c : ComId) (n place : ℕ) (session : Option Session) (cause : AbortCause) : Type 0 where
  pub tcom : Tcom
  pub serves : node_at w t ≡ Some (Serves tcom)
  pub packet : Packet
  pub came : Contains w.packets packet
  pub call : call_of w e.what ≡ Some (called t (Gets packet))
  pub why : IsCause tcom packet c n place session cause

-- at a Pcom ---------------------------------------------------------------------------------------------------

-- why a Pcom aborts its transaction: with this answer its part fails at that line, or its Tcom refuses
abbrev pub IsTold : Program → ComId → Pcom → Packet → ℕ → AbortCause → Type 0
IsTold program c p packet n (Need line) =
    (from : ComId) × (to : ComId) × (place : ℕ) × (session : Session) × (value : ℤ) × (packet ≡ OpReply from to n place session value) × (reply p.vol.txn packet ≡ Some value) × (fails_with program c p.vol value ≡ Some line)
IsTold program c p packet n cause =
    (from : ComId) × (to : ComId) × (place : ℕ) × (session : Option Session) × (packet ≡ Outcome from to n place session (Aborted cause)) × (outcome p.vol.txn packet ≡ Some (Aborted cause))

-- an event has a Pcom abort its n-th transaction, which is the last that it began
pub record Aborts (program : Program) (w : World) (e : Event) (n : ℕ) (cause : AbortCause) : Type 0 where
  pub who : ComId
  pub pcom : Pcom
  pub runs : node_at w who ≡ Some (Runs pcom)
  pub is_last : pcom.vol.txn.begun ≡ n
  pub packet : Packet
  pub came : Contains w.packets packet
  pub call : call_of w e.what ≡ Some (called who (Gets packet))
  pub why : IsTold program who pcom packet n cause

-- the law -------------------------------------------------------------------------------------------------------

-- each abort that an event tells or puts out has its cause, and what it puts out stands behind all that was put out before
pub record TellsCauses (program : Program) (w : World) (e : Event) (a : After) : Type 0 where
  pub aborts : (n : ℕ) (cause : AbortCause) → a.trace.aborted ≡ Some (n, cause) → Aborts program w e n cause
  pub refuses : (t c : ComId) (n place : ℕ) (session : Option Session) (cause : AbortCause) → Contains a.trace.puts (Outcome t c n place session (Aborted cause)) → Refuses program w e t c n place session cause
  pub grows : a.world.packets ≡ w.packets ++ a.trace.puts

abbrev pub EventsTellCauses : Type 0
EventsTellCauses = (program : Program) (found : Logs) (here : ComId → ℕ) (w : World) (e : Event) (x : DiskOutcome) (a : After) → IsExplained program found here w → happens program w e x ≡ Some a → TellsCauses program w e a
