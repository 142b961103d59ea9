-- A takeover leaves a world such as steps lead to.
use Rattle.std.specs.Prelude.{◌≡◌, List, Some}
use Rattle.ic_base.specs.declared.messages.ComId.{ComId}
use Rattle.ic_base.specs.declared.scenario.Program.{Program}
use Rattle.ic_base.specs.declared.record.Record.{Record}
use Rattle.def_facts.specs.Playable.{IsPlayable}
use Rattle.def_state.specs.Hist.{Contents}
use Rattle.def_state.specs.Vol.{Vol}
use Rattle.def_step.specs.World.{World}
use Rattle.law_settle.specs.Kept.{IsWorldPutToKept}
use Rattle.law_settle.specs.Represented.{IsWorldRepresented}
use Rattle.def_standby.specs.Standbys.{Arises, play_all}
use Rattle.def_standby.specs.TakeOvers.{taken_over, world_over}

-- by a state that shipments made, from which more records are played
abbrev pub TakeOversKeepRepresented : Type 0
TakeOversKeepRepresented = (program : Program) (w : World) (c : ComId) (contents : Contents) (v later : Vol) (log rest : List Record) → IsPlayable program → Arises program c v → play_all program c contents v rest ≡ Some later →
    IsWorldRepresented program w → IsWorldPutToKept program w → IsWorldRepresented program (world_over w c (taken_over log later)) × IsWorldPutToKept program (world_over w c (taken_over log later))
