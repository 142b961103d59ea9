-- A run with a standby: what becomes of each of its orders.
use Rattle.std.specs.Prelude.{ℕ, ◌+◌, ◌-◌, Bool, false, cond, List, [], ◌∷◌, drop, length, Option, Some, None}
use Rattle.ic_base.specs.declared.messages.ComId.{ComId}
use Rattle.ic_base.specs.declared.record.Record.{Record}
use Rattle.ic_base.specs.declared.scenario.Program.{Program}
use Rattle.def_rounds.specs.Rounds.{Turn, Happens, Answers, Leaps, Ways, Round, Ran, Told, Leapt, side_behind, state_behind}
use Rattle.def_run.specs.CoreSteps.{forced_of}
use Rattle.def_run.specs.Reports.{played_in}
use Rattle.def_run.specs.SystemStates.{SystemState}
use Rattle.def_standby.specs.Standbys.{Standby, shipped_to, contents_to}
use Rattle.def_standby.specs.TakeOvers.{TakesOver}
use Rattle.def_standby.specs.declared.orders.Order.{Order}
use Rattle.def_standby.specs.declared.orders.Order.TheVariants.{Ship, TakeOver, Run}
use Rattle.def_step.specs.Settle.{is_down, replays}
use Rattle.def_step.specs.World.{World, Node, node_at}
use Rattle.def_failover.specs.declared.note.Note.{Note}
use Rattle.def_failover.specs.declared.note.Note.TheVariants as notes

abbrev pub holds_of : (Node → Bool) → Option Node → Bool
holds_of test None = false
holds_of test (Some node) = test node

-- a standby, until it has taken over
abbrev pub Side : Type 0
Side = Option Standby

module _ (program : Program) (c : ComId) where
  -- what is shipped is played, or it doesn't play
  abbrev pub applied : Standby → Option Standby → Turn Side Note
  applied s None = Answers notes.Bad (Some s)
  applied s (Some t) = Answers (notes.Applied t.have) (Some t)

  -- the records behind those that it has are shipped to it, with the messages that were put out
  abbrev pub shipped : World → List Record → Standby → Turn Side Note
  shipped w [] s = Answers notes.Empty (Some s)
  shipped w (r ∷ rs) s = applied s (shipped_to program c (contents_to c w.packets) s (r ∷ rs))

  abbrev pub ship_all : World → List Record → Side → Turn Side Note
  ship_all w forced None = Answers notes.Gone None
  ship_all w forced (Some s) = shipped w (drop s.have forced) s

  -- all records that are forced are shipped of a component that is up and doesn't replay
  abbrev pub ship_turn : World → Side → Option Node → Turn Side Note
  ship_turn w side node = cond (holds_of is_down node) (Answers notes.Down side) (cond (holds_of replays node) (Answers notes.Replaying side) (ship_all w (forced_of node) side))

  -- a component that is down is taken over, once
  abbrev pub taken_by : List Record → Side → Turn Side Note
  taken_by records None = Answers notes.Gone None
  taken_by records (Some s) = Leaps (notes.Done (length (drop s.have records))) None

  abbrev pub take_turn : Side → Option Node → Turn Side Note
  take_turn side node = cond (holds_of replays node) (Answers notes.Replaying side) (cond (holds_of is_down node) (taken_by (forced_of node) side) (Answers notes.Up side))

  abbrev pub turn : World → Side → Order → Turn Side Note
  turn w side Ship = ship_turn w side (node_at w c)
  turn w side TakeOver = take_turn side (node_at w c)
  turn w side (Run e) = Happens e

  abbrev pub leap : List ℕ → Side → SystemState → Note → SystemState → Type 0
  leap fingerprint (Some s) p (notes.Done played) q = TakesOver program fingerprint c (contents_to c p.world.packets) s played p q
  leap fingerprint side p note q = ⊥

  -- each event with what the policy asks for; a takeover is a step of another kind
  abbrev pub failover : List ℕ → Ways Order Side Note
  failover fingerprint = record { turn = turn; settles = false; saw = λ side t. side; leap = leap fingerprint }

-- how many records a standby has; one that has taken over plays no more
abbrev pub had_by : Side → ℕ
had_by None = 0
had_by (Some s) = s.have

abbrev pub done_by : Note → ℕ
done_by (notes.Done played) = played
done_by _ = 0

-- the records that are played in a round: by recoveries, by a shipment, or by a takeover
abbrev pub played_by : Side → SystemState → Round Side Note → ℕ
played_by side p (Ran vs) = played_in p vs
played_by side p (Told note behind) = had_by behind - had_by side
played_by side p (Leapt note behind q) = done_by note

module _ (ways : Ways Order Side Note) where
  abbrev pub played_over : Side → SystemState → List (Round Side Note) → ℕ
  played_over side p [] = 0
  played_over side p (r ∷ rs) = played_by side p r + played_over (side_behind ways side r) (state_behind p r) rs
