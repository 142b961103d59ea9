-- A Pcom that is up, and so has played all its records.
use Rattle.std.specs.Prelude.{◌≡◌, ℕ, false, Some, IsSomeAnd}
use Rattle.ic_base.specs.declared.messages.ComId.{ComId}
use Rattle.ic_base.specs.declared.scenario.Program.{Program}
use Rattle.def_plain.specs.Plain.{PlainWorld}
use Rattle.def_state.specs.Mirrors.{Mirrors}
use Rattle.def_step.specs.Pcom.{Pcom, is_replaying}
use Rattle.def_step.specs.World.{World, Runs, node_at}
use Rattle.def_facts.specs.Logs.{Logs}
use Rattle.def_facts.specs.Sound.{IsSound, state_in}
use Rattle.def_facts.specs.World.{IsExplained, whole_logs}

-- In an explained world the whole state of a Pcom that is up, its replay ended, is that which all its records give with the messages of the
-- crash-free world.
abbrev pub UpHasAllRecords : Type 0
UpHasAllRecords = (program : Program) (found : Logs) (here : ComId → ℕ) (w : World) (v : PlainWorld) (c : ComId) (p : Pcom) → IsExplained program found here w → IsSound program (whole_logs w) v →
    node_at w c ≡ Some (Runs p) → is_replaying p ≡ false → IsSomeAnd (state_in program (whole_logs w) v c) (Mirrors p.vol)
