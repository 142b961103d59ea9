-- What an input and its replay come to, once it is known how its handler plays.
use Rattle.std.proofs.Common.{ℕ, ◌+◌, ℤ, cond, List, [], ◌∷◌, ◌++◌, Option, Some, None}
use Rattle.ic_base.specs.declared.messages.ComId.{ComId}
use Rattle.ic_base.specs.declared.played.Played.{Played}
use Rattle.ic_base.specs.declared.scenario.Program.{Program}
use Rattle.ic_base.specs.declared.record.Record.{Record}
use Rattle.ic_base.specs.declared.record.Record.TheVariants.{Input}
use Rattle.def_state.specs.Positions.{end_of}
use Rattle.def_state.specs.Vol.{Vol, come_to, take_in_hand, numbers_fit}
use Rattle.def_step.specs.Replay.{Playing}
use Rattle.def_step.specs.Pcom.{Pcom, StepResult, Gives, all_of, decide, put_out, force_where}

abbrev pub input_record : Pcom → ℕ → List ℤ → Record
input_record p h args = Input (p.vol.clock + 1) h args

-- the component with its input buffered, whose handler plays so
abbrev pub with_input : ComId → Pcom → ℕ → List ℤ → Played → Pcom
with_input c p h args r = record p {
  log = record p.log { buffered = p.log.buffered ++ input_record p h args ∷ [] };
  vol = come_to c (end_of (all_of p.log ++ input_record p h args ∷ [])) (take_in_hand p.vol (p.vol.clock + 1) h args) r;
}

-- the whole step of an input
abbrev pub input_step : Program → ComId → Pcom → ℕ → List ℤ → Played → StepResult
input_step program c p h args r =
    put_out c p.vol (decide program c p (Gives h args)) (force_where p.vol (decide program c p (Gives h args)) (with_input c p h args r))

-- a replay that ends with an input
abbrev pub replayed_input : ComId → Vol → ℕ → ℕ → List ℤ → Played → Option Playing
replayed_input c v stamp h args r =
    cond (numbers_fit (come_to c 0 (take_in_hand v stamp h args) r)) (Some (record { vol = come_to c 0 (take_in_hand v stamp h args) r; rest = [] })) None
