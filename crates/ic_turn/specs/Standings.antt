-- What a berth has of its component and of its list, as the definitions have it, and what the event of a turn makes of it.
use Rattle.std.specs.Prelude.{◌≡◌, ◌+◌, ℕ, List, [], ◌++◌, map, slice_set, Option, Some, None}
use Rattle.ic_base.specs.declared.events.Answer.{Answer}
use Rattle.ic_base.specs.declared.events.Event.{Event}
use Rattle.ic_base.specs.declared.events.Trace.{Trace}
use Rattle.ic_base.specs.declared.messages.ComId.{ComId}
use Rattle.ic_base.specs.declared.messages.Output.{Output}
use Rattle.ic_base.specs.declared.messages.Packet.{Packet}
use Rattle.ic_base.specs.declared.scenario.Program.{Program}
use Rattle.def_step.specs.World.{World, Node, DiskOutcome, node_at, happens}
use Rattle.def_run.specs.CoreSteps.{CoreStep}
use Rattle.def_live.specs.Turns.{Choice, alone, event_of, left_behind, answers_of, shown_in}

-- the component and what its disk reads, the events of its list that are left, the answers of those that it did, what it showed, and the
-- number of its turns
pub record Standing : Type 0 where
  pub node : Node
  pub file : List ℕ
  pub left : List Event
  pub answers : List Answer
  pub shown : List Output
  pub turns : ℕ

-- a component's file among those of all; the others have none
abbrev pub files_with : Program → ComId → List ℕ → List (List ℕ)
files_with program c file = slice_set (map (λ d. []) program.components) c.0 file

-- The event of a choice leads there, with this trace, as the step of the world of its component alone, given what the disk decided. Where
-- the disk tells its bytes it is a core step.
pub record Leads (program : Program) (print : List ℕ) (c : ComId) (x : Choice) (tells : Type 0) (s : Standing) (node : Node) (file : List ℕ) (t : Trace) : Type 0 where
  pub outcome : DiskOutcome
  pub behind : World
  pub happens : happens program (alone program c s.node x s.shown) (event_of c x) outcome ≡ Some (record { world = behind; trace = t })
  pub leads : node_at behind c ≡ Some node
  pub core : tells → CoreStep program print (record { world = alone program c s.node x s.shown; files = files_with program c s.file }) (event_of c x) t (record { world = behind; files = files_with program c file })

-- what stands behind the event of a choice
abbrev pub stands_behind : Choice → Standing → Node → List ℕ → Trace → Standing
stands_behind x s node file t = record {
  node = node;
  file = file;
  left = left_behind x s.left;
  answers = s.answers ++ answers_of x t;
  shown = s.shown ++ shown_in t;
  turns = s.turns;
}

abbrev pub counted : Standing → Standing
counted s = record s { turns = s.turns + 1 }

-- The event of a choice is done, putting out these packets; or nothing where there is none.
abbrev pub DoesOne : Program → List ℕ → ComId → Option Choice → Type 0 → List Packet → Standing → Standing → Type 0
DoesOne program print c None tells puts s r = (r ≡ s) × (puts ≡ [])
DoesOne program print c (Some x) tells puts s r =
    (node : Node) × (file : List ℕ) × (t : Trace) × Leads program print c x tells s node file t × (r ≡ stands_behind x s node file t) × (t.puts ≡ puts)
