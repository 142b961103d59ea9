-- What a berth keeps of its component, as the definitions have it.
use Rattle.std.specs.Prelude.{◌≡◌, ℕ, List}
use Rattle.ic_base.specs.declared.events.Event.{Event}
use Rattle.ic_base.specs.declared.messages.ComId.{ComId}
use Rattle.ic_base.specs.declared.messages.Packet.{Packet}
use Rattle.ic_base.specs.declared.scenario.Program.{Program}
use Rattle.def_facts.specs.Flat.{HasFlatParts}
use Rattle.def_facts.specs.Playable.{IsPlayable}
use Rattle.def_live.specs.Turns.{Berth}
use Rattle.def_step.specs.Pcom.{Pcom}
use Rattle.def_step.specs.World.{Node, Runs}
use Rattle.ic_lane.specs.Lanes.{In, Out}
use Rattle.ic_turn.specs.Standings.{Standing, files_with}
use Rattle.law_live.specs.Keeping.{BerthKeeps}
use Rattle.law_run.specs.ProgramBytes.{HasBytes}
use Rattle.law_settle.specs.Kept.{PutsToKept}
use Rattle.law_settle.specs.Represented.{IsRepresented}
use Rattle.ic_live.specs.Berthed.{berthed}
use Rattle.ic_live.specs.Ends.{HaveOneContent, lanes_at}

-- the berth of the definitions, had its component put out and got these packets
abbrev pub berth_of : Program → ComId → Standing → List Packet → List Packet → Berth
berth_of program c s sent received = record {
  part = record { node = s.node; sent = sent; received = received; showings = s.shown };
  files = files_with program c s.file;
  left = s.left;
  answers = s.answers;
  turns = s.turns;
}

-- In some order of all that the component put out and of all that it got, the berth keeps the facts of its component, and nothing of any
-- other.
pub record IsKept (program : Program) (print : List ℕ) (c : ComId) (plan : List Event) (s : Standing) (ins : List In) (outs : List Out) : Type 0 where
  pub playable : IsPlayable program
  pub flat : HasFlatParts program
  pub bytes : HasBytes program
  pub sent : List Packet
  pub received : List Packet
  pub here : ℕ
  pub keeps : BerthKeeps program print c plan (lanes_at c (berthed program) ins outs) here (berth_of program c s sent received)
  pub contents : HaveOneContent ins

-- Whatever its disk gave: if it is a Pcom that isn't down, its state is one that steps lead to, and it puts out to components that have a
-- disk alone.
abbrev pub FitsProgram : Program → ComId → Node → Type 0
FitsProgram program c node = (p : Pcom) → node ≡ Runs p → IsRepresented program c p × PutsToKept program p
