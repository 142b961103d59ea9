-- An event without a stop, as the step of its component.
use Rattle.std.proofs.Common.{◌≡◌, refl, ◌∙◌, ap, sym, ℕ, Bool, true, false, cond, Option, Some, None, option_map, option_and_then}
use Rattle.std.proofs.lemmas.Option.{same_Some}
use Rattle.ic_base.specs.declared.messages.ComId.{ComId}
use Rattle.ic_base.specs.declared.events.What.{What}
use Rattle.ic_base.specs.declared.scenario.Program.{Program}
use Rattle.def_step.specs.Pcom.{Pcom, Call, Effects, StepResult, decide, carry_out, replay_step, pcom_step, is_replaying, force_if}
use Rattle.def_step.specs.World.{World, Node, Runs, DiskOutcome, Done, After, node_at, does, does_or_stops, cut_off, answer_stopped, done_as, answer_of, behind, calls, world_with}
use Rattle.law_settle.specs.Measure.{without_stop}
use Rattle.law_replay.proofs.Lists.{none-some}

-- a call on c is its step
pub ran : (program : Program) (w : World) (what : What) (x : DiskOutcome) (c : ComId) (number : ℕ) (call : Call) (n : Node) (a : After) → node_at w c ≡ Some n → calls program w (without_stop what) x c number call ≡ Some a
    → (d : Done) × (does program c n number call ≡ Some d) × (world_with w c d ≡ a.world)
ran program w what x c number call n a is e =
    at (does program c n number call) refl (sym (ap (λ o. option_map (behind w (without_stop what) c) (option_and_then (λ node. does_or_stops program c node None x number call) o)) is) ∙ e)
  where
    at : (o : Option Done) → does program c n number call ≡ o → option_map (behind w (without_stop what) c) (option_map (cut_off None x n (answer_stopped number x.is_open call)) o) ≡ Some a
        → (d : Done) × (does program c n number call ≡ Some d) × (world_with w c d ≡ a.world)
    at None h f = none-some a f
    at (Some d) h f = (d, h, ap (λ (z : After). z.world) (same_Some (behind w (without_stop what) c d) a f))

-- a Pcom's step
pub ran_pcom : (program : Program) (w : World) (what : What) (x : DiskOutcome) (c : ComId) (number : ℕ) (call : Call) (p : Pcom) (t : StepResult) (a : After) → node_at w c ≡ Some (Runs p) → pcom_step program c p call ≡ Some t → calls program w (without_stop what) x c number call ≡ Some a
    → world_with w c (done_as (answer_of p number call t) t) ≡ a.world
ran_pcom program w what x c number call p t a is step e =
    let r = ran program w what x c number call (Runs p) a is e in
    ap (world_with w c) (same_Some (done_as (answer_of p number call t) t) r.0 (sym (ap (option_map (λ u. done_as (answer_of p number call u) u)) step) ∙ r.1)) ∙ r.2

-- of one that doesn't replay
pub live_step : (program : Program) (c : ComId) (p : Pcom) (call : Call) (d : Effects) → is_replaying p ≡ false → decide program c p call ≡ d → pcom_step program c p call ≡ Some (carry_out program c p d)
live_step program c p call d live is = ap (λ b. cond b (replay_step program c p call) (Some (carry_out program c p (decide program c p call)))) live ∙ ap (λ z. Some (carry_out program c p z)) is

-- of one that does
pub replay_is : (program : Program) (c : ComId) (p : Pcom) (call : Call) → is_replaying p ≡ true → pcom_step program c p call ≡ replay_step program c p call
replay_is program c p call on = ap (λ b. cond b (replay_step program c p call) (Some (carry_out program c p (decide program c p call)))) on

pub force_vol : (b : Bool) (q : Pcom) → (force_if b q).vol ≡ q.vol
force_vol true q = refl
force_vol false q = refl
