-- What the event of a choice comes to at a component with its disk.
use Rattle.std.specs.Prelude.{◌≡◌, ◌<◌, ◌≤◌, ℕ, ◌+◌, Bool, true, false, cond, min, List, [], length, Option, Some, None}
use Rattle.ic_base.specs.declared.limits.TheConstants.{RECEIPTS, PACKETS}
use Rattle.ic_base.specs.declared.messages.ComId.{ComId}
use Rattle.ic_base.specs.declared.messages.Packet.{Packet}
use Rattle.ic_base.specs.declared.record.Record.{Record}
use Rattle.ic_base.specs.declared.refusals.Which.TheVariants.{Receipts, Packets}
use Rattle.ic_base.specs.declared.refusals.WorldRefused.{WorldRefused}
use Rattle.ic_base.specs.declared.refusals.WorldRefused.TheVariants as refused
use Rattle.ic_base.specs.declared.scenario.Program.{Program}
use Rattle.def_live.specs.Turns.{Choice, event_of}
use Rattle.def_run.specs.Reports.{played_by}
use Rattle.def_step.specs.World.{Node, does}
use Rattle.ic_disk.specs.TornDisks.{Torn}
use Rattle.ic_disk.specs.declared.disk.Disk.{Ghosts}
use Rattle.ic_node.specs.Meeting.{adds_in}
use Rattle.ic_node.specs.Recovering.{would_begin}
use Rattle.ic_node.specs.Views.{node_of, file_of, com_of, Tells}
use Rattle.ic_node.specs.declared.component.Component.{Component}
use Rattle.ic_node.specs.declared.done.Done.{Done}
use Rattle.ic_node.specs.declared.done.NodeRefused.{NodeRefused}
use Rattle.ic_work.specs.Components.{Works, FailsToWork, refusal_of}
use Rattle.ic_work.specs.Tasks as tasks
use Rattle.ic_work.specs.Working.{work_of, work_receives}
use Rattle.ic_work.specs.declared.work.Work.{Work}
use Rattle.ic_turn.specs.Progresses.{GREATEST, left_of, answers_of, shown_of, turns_of, received_of, packets_of, played_of}
use Rattle.ic_turn.specs.Standings.{Standing, DoesOne}
use Rattle.ic_turn.specs.Works as asked
use Rattle.ic_turn.specs.declared.progress.Progress.{Progress}

-- whether the event of a choice receives something
abbrev pub choice_receives : Program → ComId → Choice → Node → Bool
choice_receives program c x node = elim (asked.work_of x) [ None ↦ false | Some work ↦ work_receives program c work node ]

module _ {D : Type 0} {d : Ghosts D} where
  abbrev pub standing_of : Component D d → Progress → Standing
  standing_of x p = record { node = node_of x; file = file_of x; left = left_of p; answers = answers_of p; shown = shown_of p; turns = turns_of p }

  -- The event of the choice is done, putting these packets out. What it received and put out is counted, and so are the records that it played.
  pub record DoesChoice (program : Program) (print : List ℕ) (x : Choice) (old : Component D d) (before : Progress) (new : Component D d) (behind : Progress) (puts : List Packet) : Type 0 where
    pub does : DoesOne program print (com_of old) (Some x) (Tells old) puts (standing_of old before) (standing_of new behind)
    pub received : received_of behind ≡ received_of before + cond (choice_receives program (com_of old) x (node_of old)) 1 0
    pub packets : packets_of behind ≡ packets_of before + length puts
    pub played : played_of behind ≡ min (played_of before + played_by (node_of old) (node_of new)) GREATEST

  -- the records that the work would force without a stop
  abbrev pub would_add : Program → Component D d → tasks.Work → List Record
  would_add program x (tasks.Calls number call) = adds_in (node_of x) (does program (com_of x) (node_of x) number call)
  would_add program x tasks.Crashes = []
  would_add program x tasks.Recovers = would_begin program x

  -- those that the event of a choice would force, if there is one
  abbrev pub choice_adds : Program → Option Choice → Component D d → List Record
  choice_adds program None x = []
  choice_adds program (Some choice) x = elim (asked.work_of choice) [ None ↦ [] | Some work ↦ would_add program x work ]

  -- it would receive one thing more than may be, and nothing is done
  pub record ReceivesTooMuch (program : Program) (x : Choice) (old : Component D d) (received : ℕ) (new : Component D d) : Type 0 where
    pub receives : choice_receives program (com_of old) x (node_of old) ≡ true
    pub past : RECEIPTS ≤ received
    pub same : new ≡ old

  -- it is done, and puts out more packets than may be
  pub record PutsTooMany (program : Program) (x : Choice) (old : Component D d) (packets : ℕ) (new : Component D d) : Type 0 where
    pub work : Work
    pub asks : asked.work_of x ≡ Some (work_of work)
    pub done : Done
    pub works : Works program old (event_of (com_of old) x).stop work new done
    pub past : PACKETS < packets + length done.puts

module _ {D : Type 0} (b : Ghosts D) {d : Ghosts (Torn D)} where
  -- the component doesn't do its work
  pub record FailsAt (program : Program) (print : List ℕ) (x : Choice) (old new : Component (Torn D) d) (why : WorldRefused) : Type 0 where
    pub work : Work
    pub asks : asked.work_of x ≡ Some (work_of work)
    pub node_why : NodeRefused
    pub is : why ≡ refusal_of (com_of old) node_why
    pub fails : FailsToWork b program print old (event_of (com_of old) x).stop work new node_why

  -- why the event of a choice isn't done by a component that received and put out so many things
  abbrev pub FailsToDoChoice : Program → List ℕ → Choice → Component (Torn D) d → ℕ → ℕ → Component (Torn D) d → WorldRefused → Type 0
  FailsToDoChoice program print x old received packets new (refused.Limit Receipts) = ReceivesTooMuch program x old received new
  FailsToDoChoice program print x old received packets new (refused.Limit Packets) = PutsTooMany program x old packets new
  FailsToDoChoice program print x old received packets new refused.Memory = Unit {0}
  FailsToDoChoice program print x old received packets new why = FailsAt program print x old new why
