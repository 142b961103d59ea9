-- What contracts see of a berth, what its type keeps, and what its turns and flushes come to.
use Rattle.std.specs.Prelude.{◌≡◌, ◌≤◌, ℕ, ◌+◌, Bool, true, false, cond, List, [], length, map, Option, Some, None, is_some, option_map, slice_get}
use Rattle.atomic_table.specs.Seated.{TableId}
use Rattle.ic_base.specs.declared.events.Event.{Event}
use Rattle.ic_base.specs.declared.messages.ComId.{ComId}
use Rattle.ic_base.specs.declared.messages.Packet.{Packet}
use Rattle.ic_base.specs.declared.refusals.WorldRefused.{WorldRefused}
use Rattle.ic_base.specs.declared.report.Policy.{Policy}
use Rattle.ic_base.specs.declared.scenario.Component.{Component as Declared}
use Rattle.ic_base.specs.declared.scenario.Program.{Program}
use Rattle.def_facts.specs.Flat.{HasFlatParts}
use Rattle.def_facts.specs.Playable.{IsPlayable}
use Rattle.def_live.specs.Turns.{Choice, Unlisted, Pop, ArePopsOf, choice, flushes, senders_of}
use Rattle.def_run.specs.SystemStates.{KeepsLog}
use Rattle.def_step.specs.World.{Node, first_node}
use Rattle.ic_disk.specs.declared.disk.Disk.{Ghosts}
use Rattle.ic_lane.specs.Lanes.{In, Out}
use Rattle.ic_node.specs.Views.{node_of, disk_of, com_of, file_of, is_over as ended, Tells}
use Rattle.ic_node.specs.declared.component.Component.{Component}
use Rattle.ic_turn.specs.Choices.{intervals_of}
use Rattle.ic_turn.specs.Doing.{standing_of}
use Rattle.ic_turn.specs.Progresses.{left_of, answers_of, shown_of, turns_of, received_of, packets_of, played_of}
use Rattle.ic_turn.specs.Standings.{Standing, DoesOne}
use Rattle.ic_turn.specs.declared.progress.Progress.{Progress}
use Rattle.law_live.specs.Berths.{OwnEvents}
use Rattle.law_live.specs.Meeting.{IsOfSound}
use Rattle.law_run.specs.ProgramBytes.{HasBytes}
use Rattle.ic_live.specs.Berthed.{berthed, AreLeftOf}
use Rattle.ic_live.specs.Carrying.{MayDo, next_receives, next_played}
use Rattle.ic_live.specs.Ends.{ArePopped, ArePushed}
use Rattle.ic_live.specs.Faults.{faults_of}
use Rattle.ic_live.specs.Standings.{IsKept, FitsProgram}

-- its place among the berths, its component, how far that has come, the ends of its lanes, its policy, and the refusal that ended it
pub record Berthed (X : Type 0) : Type 0 where
  pub place : ℕ
  pub component : X
  pub progress : Progress
  pub ins : List In
  pub outs : List Out
  pub policy : Policy
  pub refused : Option WorldRefused

-- so many lanes, each by its name
abbrev pub AreNamed : ℕ → (ℕ → TableId) → List TableId → Type 0
AreNamed count name lanes = (length lanes ≡ count) × ((k : ℕ) (t : TableId) → slice_get lanes k ≡ Some t → t ≡ name k)

-- the ends are those of the lanes to and from this place
abbrev pub AreEndsOf : (ℕ → ℕ → TableId) → ℕ → ℕ → List In → List Out → Type 0
AreEndsOf lane place count ins outs = AreNamed count (λ k. lane k place) (map (λ x. x.lane) ins) × AreNamed count (lane place) (map (λ o. o.lane) outs)

module _ {X : Type 0} (node : X → Node) (which : X → ComId) (file : X → List ℕ) (tells : X → Type 0) (is_over has : X → Bool) (faults : X → ℕ) (fails : Program → List ℕ → Option Choice → X → ℕ → ℕ → X → WorldRefused → Type 0) where
  -- while it goes on: which component it is of, what is left of the list, that it fits its program, that its log stands on its disk, and in an
  -- honest run the facts of its component
  pub record GoesOnBy (program : Program) (print : List ℕ) (plan : ComId → List Event) (honest : Type 0) (b : Berthed X) : Type 0 where
    pub at_place : slice_get (berthed program) b.place ≡ Some (which b.component)
    pub own : OwnEvents program (which b.component) (left_of b.progress)
    pub listed : AreLeftOf (plan (which b.component)) (left_of b.progress)
    pub playable : IsPlayable program
    pub fits : FitsProgram program (which b.component) (node b.component)
    pub going : is_over b.component ≡ false
    pub logs : tells b.component → KeepsLog print (which b.component) (file b.component) (Some (node b.component))
    pub kept : honest → IsKept program print (which b.component) (plan (which b.component))
        (record { node = node b.component; file = file b.component; left = left_of b.progress; answers = answers_of b.progress; shown = shown_of b.progress; turns = turns_of b.progress }) b.ins b.outs

  -- The component that it was didn't do some event of its own, and this is why; in an honest run for no bad log and no foreign one. What it had
  -- received and put out is what is counted, and its disk had failed at least as often as when the run began.
  pub record RefusedBy (program : Program) (print : List ℕ) (began : ℕ → ℕ) (honest : Type 0) (b : Berthed X) (why : WorldRefused) : Type 0 where
    pub old : X
    pub next : Option Choice
    pub at_place : slice_get (berthed program) b.place ≡ Some (which old)
    pub own : MayDo (which old) next
    pub cause : fails program print next old (received_of b.progress) (packets_of b.progress) b.component why
    pub since : began b.place ≤ faults old
    pub sound : honest → IsOfSound why

  -- what the type of a berth keeps
  pub record BerthHolds (program : Program) (print : List ℕ) (plan : ComId → List Event) (lane : ℕ → ℕ → TableId) (began : ℕ → ℕ) (honest : Type 0) (fingerprint : List ℕ) (peers : List ComId) (b : Berthed X) : Type 0 where
    pub own_print : fingerprint ≡ print
    pub all_peers : peers ≡ berthed program
    pub ends : AreEndsOf lane b.place (length (berthed program)) b.ins b.outs
    pub has_disk : has b.component ≡ true
    pub told : honest → tells b.component
    pub since : began b.place ≤ faults b.component
    pub goes_on : b.refused ≡ None → GoesOnBy program print plan honest b
    pub ended : (why : WorldRefused) → b.refused ≡ Some why → RefusedBy program print began honest b why

module _ {D : Type 0} {d : Ghosts D} where
  -- it is up as its program declares it, and where its disk tells its bytes its log, without a record, stands there
  pub record IsUp (program : Program) (print : List ℕ) (x : Component D d) : Type 0 where
    pub first : (declared : Declared) → slice_get program.components (com_of x).0 ≡ Some declared → node_of x ≡ first_node program (com_of x) declared.kind
    pub going : ended x ≡ false
    pub logs : Tells x → KeepsLog print (com_of x) (file_of x) (Some (node_of x))

  -- A component that has just come up over a fresh log may have a berth in this place, with new lanes and its list of the plan.
  pub record BeginsBerth (program : Program) (print : List ℕ) (plan : ComId → List Event) (lane : ℕ → ℕ → TableId) (began : ℕ → ℕ) (honest : Type 0) (place : ℕ) (x : Component D d) (peers : List ComId) (ins : List In) (outs : List Out) (events : List Event) : Type 0 where
    pub playable : IsPlayable program
    pub flat : HasFlatParts program
    pub bytes : HasBytes program
    pub up : IsUp program print x
    pub has_disk : is_some (disk_of x) ≡ true
    pub told : honest → Tells x
    pub since : began place ≤ faults_of x
    pub all_peers : peers ≡ berthed program
    pub at_place : slice_get peers place ≡ Some (com_of x)
    pub ends : AreEndsOf lane place (length peers) ins outs
    pub none_received : (k : ℕ) (i : In) → slice_get ins k ≡ Some i → i.received ≡ []
    pub none_sent : (k : ℕ) (o : Out) → slice_get outs k ≡ Some o → o.sent ≡ []
    pub listed : events ≡ plan (com_of x)
    pub own : OwnEvents program (com_of x) events

  -- the choice of its next turn, on these pops
  abbrev pub turn_choice : Program → Berthed (Component D d) → List Pop → Option Choice
  turn_choice program b pops = choice program (intervals_of b.policy) (com_of b.component) (node_of b.component) (turns_of b.progress + 1) (left_of b.progress) pops

  abbrev pub flush_choice : Program → Berthed (Component D d) → Option Choice
  flush_choice program b = option_map Unlisted (flushes program (com_of b.component) (node_of b.component))

  -- The event of a choice is done, if there is one, from where it stood, and what it put out is pushed and counted.
  pub record ActsBy (program : Program) (print : List ℕ) (next : Option Choice) (s : Standing) (old new : Berthed (Component D d)) : Type 0 where
    pub puts : List Packet
    pub does : DoesOne program print (com_of old.component) next (Tells old.component) puts s (standing_of new.component new.progress)
    pub pushed : ArePushed (com_of old.component) (berthed program) old.outs new.outs puts
    pub received : received_of new.progress ≡ received_of old.progress + cond (next_receives program (com_of old.component) next (node_of old.component)) 1 0
    pub packets : packets_of new.progress ≡ packets_of old.progress + length puts
    pub played : played_of new.progress ≡ next_played next (played_of old.progress) (node_of old.component) (node_of new.component)
    pub going : new.refused ≡ None

  -- the pops are those of its turn, and its ends have what they gave
  pub record PopsBy (program : Program) (b : Berthed (Component D d)) (news : List In) (pops : List Pop) : Type 0 where
    pub are : ArePopsOf (intervals_of b.policy) (com_of b.component) (node_of b.component) (senders_of program (com_of b.component)) pops
    pub popped : ArePopped (berthed program) b.ins news pops
