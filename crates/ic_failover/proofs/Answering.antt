-- What is answered with no step of the world.
use Rattle.std.proofs.Common.{◌≡◌, ◌∙◌, refl, ap, sym, Bool, true, false, cond, List, [], ◌∷◌, length, drop, Option, Some, None, arith}
use Rattle.std.specs.Prelude.{is_some, ◌&&◌, not}
use Rattle.ic_base.specs.declared.messages.ComId.{ComId}
use Rattle.ic_base.specs.declared.record.Record.{Record}
use Rattle.ic_base.specs.declared.scenario.Program.{Program}
use Rattle.def_failover.specs.Orders.{holds_of, ship_all, taken_by, turn}
use Rattle.def_failover.specs.declared.note.Note.{Note}
use Rattle.def_failover.specs.declared.note.Note.TheVariants as notes
use Rattle.def_rounds.specs.Rounds.{Answers, Leaps}
use Rattle.def_run.specs.CoreSteps.{forced_of}
use Rattle.def_standby.specs.Standbys.{Standby, first_missing, is_missing, play_all, played_on}
use Rattle.def_standby.specs.declared.orders.Order.{Order}
use Rattle.def_standby.specs.declared.orders.Order.TheVariants.{Ship, TakeOver}
use Rattle.def_state.specs.Hist.{Contents}
use Rattle.def_state.specs.Vol.{Vol}
use Rattle.def_step.specs.Replay.{waits_for}
use Rattle.def_step.specs.Settle.{is_down, replays}
use Rattle.def_step.specs.World.{World, Node, node_at}
use Rattle.ic_failover.specs.Shipping.{IsAnswered}
use Rattle.ic_failover.specs.Sides.{Beside}
use Rattle.ic_world.specs.Reading.{at_node}

-- a reader of a component, by either word
pub same_reader : (test : Node → Bool) (o : Option Node) → at_node false test o ≡ holds_of test o
same_reader test None = refl
same_reader test (Some node) = refl

module _ (program : Program) (c : ComId) (w : World) (a : Beside) where
  -- nothing is shipped or played
  stays : (o : Order) (note : Note) → turn program c w a.side o ≡ Answers note a.side → (note ≡ notes.Bad → ⊥) → IsAnswered program c w o a note a
  stays o note is plays = record { turn_is = is; plays = plays; shipped = omega arith }

  pub answers_down : holds_of is_down (node_at w c) ≡ true → IsAnswered program c w Ship a notes.Down a
  answers_down d = stays Ship notes.Down (ap (λ b. cond b (Answers notes.Down a.side) (cond (holds_of replays (node_at w c)) (Answers notes.Replaying a.side) (ship_all program c w (forced_of (node_at w c)) a.side))) d) (λ k. cc k)

  behind-down : holds_of is_down (node_at w c) ≡ false → turn program c w a.side Ship ≡ cond (holds_of replays (node_at w c)) (Answers notes.Replaying a.side) (ship_all program c w (forced_of (node_at w c)) a.side)
  behind-down d = ap (λ b. cond b (Answers notes.Down a.side) (cond (holds_of replays (node_at w c)) (Answers notes.Replaying a.side) (ship_all program c w (forced_of (node_at w c)) a.side))) d

  pub answers_replaying : holds_of is_down (node_at w c) ≡ false → holds_of replays (node_at w c) ≡ true → IsAnswered program c w Ship a notes.Replaying a
  answers_replaying d r = stays Ship notes.Replaying (behind-down d ∙ ap (λ b. cond b (Answers notes.Replaying a.side) (ship_all program c w (forced_of (node_at w c)) a.side)) r) (λ k. cc k)

  -- the component is up and doesn't replay
  pub is_shipped : holds_of is_down (node_at w c) ≡ false → holds_of replays (node_at w c) ≡ false → turn program c w a.side Ship ≡ ship_all program c w (forced_of (node_at w c)) a.side
  is_shipped d r = behind-down d ∙ ap (λ b. cond b (Answers notes.Replaying a.side) (ship_all program c w (forced_of (node_at w c)) a.side)) r

  pub answers_gone : holds_of is_down (node_at w c) ≡ false → holds_of replays (node_at w c) ≡ false → a.side ≡ None → IsAnswered program c w Ship a notes.Gone a
  answers_gone d r none = stays Ship notes.Gone (is_shipped d r ∙ ap (ship_all program c w (forced_of (node_at w c))) none ∙ ap (λ s. Answers notes.Gone s) (sym none)) (λ k. cc k)

  -- a takeover
  pub takes_replaying : holds_of replays (node_at w c) ≡ true → IsAnswered program c w TakeOver a notes.Replaying a
  takes_replaying r = stays TakeOver notes.Replaying (ap (λ b. cond b (Answers notes.Replaying a.side) (cond (holds_of is_down (node_at w c)) (taken_by program c (forced_of (node_at w c)) a.side) (Answers notes.Up a.side))) r) (λ k. cc k)

  behind-replay : holds_of replays (node_at w c) ≡ false → turn program c w a.side TakeOver ≡ cond (holds_of is_down (node_at w c)) (taken_by program c (forced_of (node_at w c)) a.side) (Answers notes.Up a.side)
  behind-replay r = ap (λ b. cond b (Answers notes.Replaying a.side) (cond (holds_of is_down (node_at w c)) (taken_by program c (forced_of (node_at w c)) a.side) (Answers notes.Up a.side))) r

  pub takes_up : holds_of replays (node_at w c) ≡ false → holds_of is_down (node_at w c) ≡ false → IsAnswered program c w TakeOver a notes.Up a
  takes_up r d = stays TakeOver notes.Up (behind-replay r ∙ ap (λ b. cond b (taken_by program c (forced_of (node_at w c)) a.side) (Answers notes.Up a.side)) d) (λ k. cc k)

  down-taken : holds_of replays (node_at w c) ≡ false → holds_of is_down (node_at w c) ≡ true → turn program c w a.side TakeOver ≡ taken_by program c (forced_of (node_at w c)) a.side
  down-taken r d = behind-replay r ∙ ap (λ b. cond b (taken_by program c (forced_of (node_at w c)) a.side) (Answers notes.Up a.side)) d

  pub takes_gone : holds_of replays (node_at w c) ≡ false → holds_of is_down (node_at w c) ≡ true → a.side ≡ None → IsAnswered program c w TakeOver a notes.Gone a
  takes_gone r d none = stays TakeOver notes.Gone (down-taken r d ∙ ap (taken_by program c (forced_of (node_at w c))) none ∙ ap (λ s. Answers notes.Gone s) (sym none)) (λ k. cc k)

  pub takes_leap : (s : Standby) → holds_of replays (node_at w c) ≡ false → holds_of is_down (node_at w c) ≡ true → a.side ≡ Some s → turn program c w a.side TakeOver ≡ Leaps (notes.Done (length (drop s.have (forced_of (node_at w c))))) None
  takes_leap s r d some = down-taken r d ∙ ap (taken_by program c (forced_of (node_at w c))) some

none-later : (b : Bool) (later : Option Vol) → later ≡ None → cond b later None ≡ None
none-later true later e = e
none-later false later e = refl

-- a content that is missing stops the playing
if-missing : (f m n : Bool) (later : Option Vol) → m ≡ true → cond (f && not m && n) later None ≡ None
if-missing true true n later e = refl
if-missing false m n later e = refl
if-missing true false n later e = cc e

module _ (program : Program) (c : ComId) (contents : Contents) where
  pub missing_stops : (v : Vol) (rs : List Record) → is_some (first_missing contents rs) ≡ true → play_all program c contents v rs ≡ None
  missing_stops v [] e = cc e
  missing_stops v (r ∷ rs) e = by (is_missing contents r) refl (λ later. missing_stops (played_on program c contents v r) rs later)
    where
      by : (m : Bool) → is_missing contents r ≡ m → (is_some (first_missing contents rs) ≡ true → play_all program c contents (played_on program c contents v r) rs ≡ None) → play_all program c contents v (r ∷ rs) ≡ None
      by true is behind = if-missing _ (is_missing contents r) _ _ is
      by false is behind = none-later _ _ (behind (sym (ap (λ m. is_some (cond m (waits_for r) (first_missing contents rs))) is) ∙ e))
