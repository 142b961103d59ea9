-- What the event of a berth comes to, with what is pushed.
use Rattle.std.specs.Prelude.{◌≡◌, ℕ, ◌+◌, Bool, false, cond, min, List, length, Option, Some, None}
use Rattle.ic_base.specs.declared.messages.ComId.{ComId}
use Rattle.ic_base.specs.declared.messages.Packet.{Packet}
use Rattle.ic_base.specs.declared.refusals.WorldRefused.{WorldRefused}
use Rattle.ic_base.specs.declared.refusals.WorldRefused.TheVariants as refused
use Rattle.ic_base.specs.declared.scenario.Program.{Program}
use Rattle.def_live.specs.Turns.{Choice, IsOwn, event_of}
use Rattle.def_run.specs.Reports.{played_by}
use Rattle.def_step.specs.World.{Node}
use Rattle.ic_disk.specs.TornDisks.{Torn}
use Rattle.ic_disk.specs.declared.disk.Disk.{Ghosts}
use Rattle.ic_lane.specs.Lanes.{Out}
use Rattle.ic_node.specs.Doing.{IsAllowed}
use Rattle.ic_node.specs.Meeting.{GoesOn}
use Rattle.ic_node.specs.Views.{node_of, com_of, Tells}
use Rattle.ic_node.specs.declared.component.Component.{Component}
use Rattle.ic_turn.specs.Doing.{standing_of, choice_receives, FailsToDoChoice}
use Rattle.ic_turn.specs.Progresses.{GREATEST, received_of, packets_of, played_of}
use Rattle.ic_turn.specs.Standings.{DoesOne}
use Rattle.ic_turn.specs.declared.progress.Progress.{Progress}
use Rattle.ic_live.specs.Ends.{ArePushed}

-- the event is one of the component, if there is one
abbrev pub MayDo : ComId → Option Choice → Type 0
MayDo c None = Unit {0}
MayDo c (Some x) = IsOwn c x × IsAllowed (event_of c x).stop

abbrev pub next_receives : Program → ComId → Option Choice → Node → Bool
next_receives program c None node = false
next_receives program c (Some x) node = choice_receives program c x node

-- with the records that its event played, if there is one: a recovery's
abbrev pub next_played : Option Choice → ℕ → Node → Node → ℕ
next_played None played old new = played
next_played (Some x) played old new = min (played + played_by old new) GREATEST

module _ {D : Type 0} {d : Ghosts D} where
  -- The event is done, if there is one, and what it put out is pushed. What it received, put out and played is counted.
  pub record CarriesOut (program : Program) (print : List ℕ) (peers : List ComId) (next : Option Choice) (old : Component D d) (before : Progress) (outs : List Out) (new : Component D d) (behind : Progress) (news : List Out) : Type 0 where
    pub puts : List Packet
    pub does : DoesOne program print (com_of old) next (Tells old) puts (standing_of old before) (standing_of new behind)
    pub pushed : ArePushed (com_of old) peers outs news puts
    pub received : received_of behind ≡ received_of before + cond (next_receives program (com_of old) next (node_of old)) 1 0
    pub packets : packets_of behind ≡ packets_of before + length puts
    pub played : played_of behind ≡ next_played next (played_of before) (node_of old) (node_of new)
    pub goes_on : GoesOn old new

module _ {D : Type 0} (b : Ghosts D) {d : Ghosts (Torn D)} where
  -- why it isn't done
  abbrev pub FailsToCarryOut : Program → List ℕ → Option Choice → Component (Torn D) d → ℕ → ℕ → Component (Torn D) d → WorldRefused → Type 0
  FailsToCarryOut program print None old received packets new why = why ≡ refused.Memory
  FailsToCarryOut program print (Some x) old received packets new why = FailsToDoChoice b program print x old received packets new why
