-- A planned step for which all memory is there that it takes behind its commit.
use Rattle.std.specs.Prelude.{◌≡◌, ◌<◌, ⊤, ℕ, true, false, ◌||◌, List, [], length}
use Rattle.std.specs.List.{AllByRecursion}
use Rattle.std.specs.Vec.{vec_capacity}
use Rattle.ic_base.specs.declared.messages.ComId.{ComId}
use Rattle.ic_base.specs.declared.record.Record.{Record}
use Rattle.def_state.specs.Vol.{Vol, numbers_fit}
use Rattle.def_step.specs.Pcom as step
use Rattle.ic_ckpt.specs.declared.state.State.{State}
use Rattle.ic_gate.specs.declared.refusals.StepRefused.{StepRefused}
use Rattle.ic_gate.specs.declared.refusals.StepRefused.TheVariants.{Failed, Stopped, Full, Memory}
use Rattle.ic_wire.specs.Placed.{IsCounted}
use Rattle.ic_pcom.specs.Carrying.{last_in}
use Rattle.ic_pcom.specs.Landing.{effects_in, landed, must_force, HasPacketRoom, MayReach, MayLand}
use Rattle.ic_pcom.specs.declared.plan.Plan.{Plan}
use Rattle.ic_pcom.specs.declared.ready.Ready.{Ready}

-- Its records and its answers are taken out of the plan. Wherever the last record will end, the rest may land there in this state, and
-- comes to what was told beforehand. The log was forced up to here before.
pub record IsReadied (c : ComId) (before : ℕ) (v : Vol) (plan : Plan) (s : State) (adds : List Record) (r : Ready) : Type 0 where
  pub adds_are : adds ≡ (effects_in plan).adds
  pub puts_are : r.puts.items ≡ (effects_in plan).answers
  pub rest : effects_in r.plan ≡ record (effects_in plan) { adds = []; answers = [] }
  pub counted : AllByRecursion IsCounted adds
  pub may : (at : ℕ) → MayLand c at s (last_in adds) r.plan
  pub room : (at forced : ℕ) → MayReach r.forces before forced → (0 < length adds → before < at) → HasPacketRoom (effects_in plan).covers r.came forced (length r.puts.items) (vec_capacity r.puts) (landed c at v adds r.plan)
  pub lands : (at : ℕ) (rs : List Record) → landed c at v rs r.plan ≡ landed c at v rs plan
  pub fits : (at : ℕ) → numbers_fit (landed c at v adds plan) ≡ true
  pub forces : (at : ℕ) → r.forces ≡ must_force v (effects_in plan) (landed c at v adds plan)
  pub came : (at : ℕ) (u : Vol) → u.txn ≡ (landed c at v adds plan).txn → r.came ≡ (step.came_to_first v u || step.came_further v u)

-- why it isn't: a number would pass its limit, wherever the last record would end
abbrev pub FailsToReady : ComId → Vol → Plan → StepRefused → Type 0
FailsToReady c v plan Failed = ⊥
FailsToReady c v plan Stopped = ⊥
FailsToReady c v plan Full = (at : ℕ) → numbers_fit (landed c at v (effects_in plan).adds plan) ≡ false
FailsToReady c v plan Memory = ⊤
