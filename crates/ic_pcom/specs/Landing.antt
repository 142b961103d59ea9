-- What a planned step comes to: its records are committed, its plan leads to a state, and something is put out behind that.
use Rattle.std.specs.Prelude.{◌≡◌, ⊤, ℕ, ◌+◌, ◌≤◌, Bool, true, false, cond, ◌||◌, List, ◌++◌, length, filter, Option, Some, None, IsTrue}
use Rattle.ic_base.specs.declared.messages.ComId.{ComId}
use Rattle.ic_base.specs.declared.messages.Packet.{Packet}
use Rattle.ic_base.specs.declared.record.Record.{Record}
use Rattle.def_state.specs.Inbox
use Rattle.def_state.specs.Outbox.{is_due}
use Rattle.def_state.specs.Positions.{end_of}
use Rattle.def_state.specs.Vol.{Vol, numbers_fit}
use Rattle.def_step.specs.Pcom as step
use Rattle.def_step.specs.Pcom.{Log, all_of}
use Rattle.ic_ckpt.specs.Views.{seen, HasRoom}
use Rattle.ic_ckpt.specs.declared.state.State.{State}
use Rattle.ic_pcom.specs.Effects.{effects_of}
use Rattle.ic_gate.specs.RecordCommits.{adding, forced_if}
use Rattle.ic_replay.specs.Applying.{applied, sends_of, outs_of, receipts_of, TakesNew}
use Rattle.ic_replay.specs.Preparing.{has_place}
use Rattle.ic_replay.specs.declared.prepared.Prepared.{Prepared}
use Rattle.ic_wire.specs.Placed.{IsCounted}
use Rattle.ic_pcom.specs.Carrying.{last_in, up, led_by, marked_in, finished, put_with}
use Rattle.ic_pcom.specs.Views.{told_of}
use Rattle.ic_pcom.specs.declared.plan.Plan.{Plan}
use Rattle.ic_pcom.specs.declared.plan.Plan.TheVariants.{Adds, AddsNone}
use Rattle.ic_pcom.specs.declared.step.Step.{Step}

-- what the plan is to do
abbrev pub effects_in : Plan → step.Effects
effects_in (Adds e p) = effects_of e
effects_in (AddsNone e) = effects_of e

-- the same with these for its answers
abbrev pub answering : step.Effects → List Packet → step.Effects
answering e packets = record e { answers = packets }

-- the state to which it leads where these records are added, the last of which ends at this position; or the mark, where none is
abbrev pub landed : ComId → ℕ → Vol → List Record → Plan → Vol
landed c at v adds (Adds e p) = led_by c at p v (last_in adds)
landed c at v adds (AddsNone e) = marked_in (effects_of e).marks v

-- the same behind a log
abbrev pub landed_behind : ComId → Log → Vol → Plan → Vol
landed_behind c l v plan = landed c (end_of (all_of l ++ (effects_in plan).adds)) v (effects_in plan).adds plan

-- every receipt is covered up to here, where a step asks for that
abbrev pub covered_if : Bool → ℕ → Vol → Vol
covered_if true end v = record v { inbox = Inbox.cover v.inbox end }
covered_if false end v = v

-- a step that began in the state v forces the log
abbrev pub must_force : Vol → step.Effects → Vol → Bool
must_force v d w = d.forces || step.must_force v w

-- the records that are then forced
abbrev pub batch : ComId → Log → Vol → Plan → List Record
batch c l v plan = forced_if (must_force v (effects_in plan) (landed_behind c l v plan)) (adding l (effects_in plan).adds)

-- the step
abbrev pub landing : ComId → Log → Vol → Plan → step.StepResult
landing c l v plan = finished c v (effects_in plan) (up (adding l (effects_in plan).adds) (landed_behind c l v plan))

-- the receipts that may have something to tell behind a step, over a log that is forced up to here: each, where it covers them, else
-- those that have
abbrev pub may_tell : Bool → ℕ → List Inbox.Receipt → List Inbox.Receipt
may_tell true forced receipts = receipts
may_tell false forced receipts = filter (Inbox.is_loud forced) receipts

-- beside so many packets there is room, over a log that is forced up to here, for each receipt of a state that may have something to
-- tell, for each of its messages that is due, for a Drop where it owes one, and for a request where the step came to one
abbrev pub HasPacketRoom : Bool → Bool → ℕ → ℕ → ℕ → Vol → Type 0
HasPacketRoom covers came forced count capacity v = count + length (may_tell covers forced v.inbox.receipts) + length (filter (is_due forced) v.outbox.held) + cond v.owes_drop 1 0 + cond came 1 0 ≤ capacity

-- how far the log may be forced behind a step: one that doesn't force leaves it as it was
abbrev pub MayReach : Bool → ℕ → ℕ → Type 0
MayReach true before forced = ⊤
MayReach false before forced = forced ≡ before

-- the record may be applied at this position as it was prepared
pub record MayApply (c : ComId) (at : ℕ) (s : State) (p : Prepared) (r : Record) : Type 0 where
  pub room : HasRoom s (length (sends_of p.played)) (receipts_of r) (length (outs_of p.played))
  pub new : TakesNew (seen s) r
  pub place : IsTrue (has_place (seen s) r)
  pub limits : numbers_fit (applied c at p (seen s) r) ≡ true
  pub counted : IsCounted r

-- what was planned may be done to the state, where this is the last record
abbrev pub MayLand : ComId → ℕ → State → Option Record → Plan → Type 0
MayLand c at s None (Adds e p) = ⊥
MayLand c at s (Some r) (Adds e p) = MayApply c at s p r
MayLand c at s r (AddsNone e) = ⊤

-- the state and what is told behind that, over a log, in the words of the definition
pub record Lands (c : ComId) (came : Bool) (e : step.Effects) (log : Log) (w now : Vol) (told : Step) : Type 0 where
  pub state : up log now ≡ (put_with c came e (up log (step.cover_if e.covers (up log w)).vol)).pcom
  pub tells : told ≡ told_of (put_with c came e (up log (step.cover_if e.covers (up log w)).vol))
