-- What holds of every world that steps lead to, whatever the disks do.
use Rattle.std.specs.Prelude.{◌≡◌, ⊤, true, false, ℕ, ℤ, ◌≤◌, List, [], ◌∷◌, Some, MatchOption, IsSome, is_none}
use Rattle.std.specs.List.{AllByRecursion}
use Rattle.ic_base.specs.declared.messages.ComId.{ComId}
use Rattle.ic_base.specs.declared.messages.Request.{Request}
use Rattle.ic_base.specs.declared.events.Event.{Event}
use Rattle.ic_base.specs.declared.played.Played.TheVariants.{Asks, Ready}
use Rattle.ic_base.specs.declared.scenario.Program.{Program}
use Rattle.ic_base.specs.declared.record.Record.{Record}
use Rattle.def_plain.specs.declared.world.InHand.{InHand}
use Rattle.def_state.specs.Hist.{hand_plays}
use Rattle.def_state.specs.Txn.{Stage, is_idle, is_committing}
use Rattle.def_state.specs.Outbox.{Outbox, Held, sent_to}
use Rattle.def_state.specs.Shelf
use Rattle.def_state.specs.Shelf.{Shelf}
use Rattle.def_state.specs.Inbox.{Inbox, Receipt, is_taken}
use Rattle.def_state.specs.Vol.{Vol}
use Rattle.def_step.specs.Replay.{waits_for}
use Rattle.def_step.specs.Pcom.{Pcom, is_replaying, log_end}
use Rattle.def_step.specs.World.{World, Runs, DiskOutcome, After, node_at, happens, first_world}
use Rattle.def_facts.specs.Playable.{IsPlayable, AreResults}
use Rattle.law_settle.specs.Measure.{AllCanSettle}

-- what is in hand has an open transaction: its results are such that its handler gave, its part asks a request without any answer, and
-- is ready with its answers where it is committing
pub record OpenHand (program : Program) (c : ComId) (vars now : List ℤ) (stage : Stage) (hand : InHand) : Type 0 where
  pub is_open : is_idle stage ≡ false
  pub results : AreResults program c hand.handler vars hand.args hand.done
  pub asks : (t : ComId) × (q : Request) × (hand_plays program c vars [] hand ≡ Asks t q)
  pub ready : is_committing stage ≡ true → (t : ComId) × (hand_plays program c vars now hand ≡ Ready t)

-- something is in hand exactly where a transaction is open
abbrev pub HandFits : Program → ComId → Vol → Type 0
HandFits program c v = MatchOption v.hand (is_idle v.txn.stage ≡ true) (OpenHand program c v.vars v.now v.txn.stage)

-- a held message was sent, an output on the shelf was made, an open receipt is of a message that is taken, and each ends within the
-- first n bytes of the log
pub record HeldFits (o : Outbox) (n : ℕ) (x : Held) : Type 0 where
  pub sent : x.msg.k ≤ sent_to o x.msg.to
  pub within : x.at ≤ n

pub record ShelvedFits (s : Shelf) (n : ℕ) (x : Shelf.Waiting) : Type 0 where
  pub made : x.output.m ≤ s.made
  pub within : x.at ≤ n

pub record ReceiptFits (i : Inbox) (n : ℕ) (x : Receipt) : Type 0 where
  pub taken : is_taken i x.name ≡ true
  pub within : x.at ≤ n

pub record TablesFit (n : ℕ) (v : Vol) : Type 0 where
  pub held : AllByRecursion (HeldFits v.outbox n) v.outbox.held
  pub shelved : AllByRecursion (ShelvedFits v.shelf n) v.shelf.waiting
  pub receipts : AllByRecursion (ReceiptFits v.inbox n) v.inbox.receipts
  pub ended : v.ended_at ≤ n

-- a replay waits at a Take, with nothing in hand
abbrev pub RestFits : Vol → List Record → Type 0
RestFits v [] = ⊤
RestFits v (r ∷ rs) = (IsSome (waits_for r)) × (is_none v.hand ≡ true)

-- of a Pcom that isn't down
pub record IsRepresented (program : Program) (c : ComId) (p : Pcom) : Type 0 where
  pub hand : HandFits program c p.vol
  pub tables : TablesFit (log_end p) p.vol
  pub rest : RestFits p.vol p.rest
  pub forced : is_replaying p ≡ true → p.log.buffered ≡ []

abbrev pub IsWorldRepresented : Program → World → Type 0
IsWorldRepresented program w = (c : ComId) (p : Pcom) → node_at w c ≡ Some (Runs p) → IsRepresented program c p

-- the laws ----------------------------------------------------------------------------------------

abbrev pub FirstWorldIsRepresented : Type 0
FirstWorldIsRepresented = (program : Program) → IsWorldRepresented program (first_world program)

-- an event keeps it, its stop reached or not, whatever the disks give
abbrev pub EventsKeepRepresented : Type 0
EventsKeepRepresented = (program : Program) (w : World) (e : Event) (x : DiskOutcome) (a : After) → IsPlayable program → IsWorldRepresented program w → happens program w e x ≡ Some a → IsWorldRepresented program a.world

-- what settling needs holds of a represented world
abbrev pub RepresentedCanSettle : Type 0
RepresentedCanSettle = (program : Program) (w : World) → IsWorldRepresented program w → AllCanSettle w
