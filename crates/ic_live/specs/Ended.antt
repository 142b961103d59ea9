-- What comes out of the berths, side by side, each in its place.
use Rattle.std.specs.Prelude.{◌≡◌, ◌⊎◌, ◌<◌, ◌≤◌, ℕ, true, false, List, [], map, length, is_some, slice_get, Option, Some}
use Rattle.atomic_table.specs.Seated.{TableId}
use Rattle.ic_base.specs.declared.events.Event.{Event}
use Rattle.ic_base.specs.declared.messages.ComId.{ComId}
use Rattle.ic_base.specs.declared.messages.Packet.{Packet}
use Rattle.ic_base.specs.declared.refusals.WorldRefused.{WorldRefused}
use Rattle.ic_base.specs.declared.refusals.WorldRefused.TheVariants.{Memory}
use Rattle.ic_base.specs.declared.scenario.Program.{Program}
use Rattle.def_facts.specs.Flat.{HasFlatParts}
use Rattle.def_facts.specs.Playable.{IsPlayable}
use Rattle.def_live.specs.Lanes.{Lanes}
use Rattle.def_live.specs.Turns.{Berth, Choice}
use Rattle.def_run.specs.SystemStates.{KeepsLog, has_disk}
use Rattle.ic_disk.specs.TornDisks.{Torn}
use Rattle.ic_disk.specs.declared.disk.Disk.{Ghosts}
use Rattle.ic_lane.specs.Lanes.{In, Out}
use Rattle.ic_disk.specs.Torns.{torn}
use Rattle.ic_node.specs.Views.{node_of, com_of, file_of, disk_of, is_over, Tells}
use Rattle.ic_node.specs.declared.component.Component.{Component}
use Rattle.ic_turn.specs.Doing.{standing_of}
use Rattle.ic_turn.specs.Progresses.{left_of}
use Rattle.ic_turn.specs.declared.progress.Progress.{Progress}
use Rattle.law_live.specs.Closing.{AreClosed}
use Rattle.law_live.specs.Meeting.{IsOfSound}
use Rattle.law_run.specs.Ends.{AreEvents}
use Rattle.law_run.specs.ProgramBytes.{HasBytes}
use Rattle.ic_live.specs.Berthed.{berthed, list_of, AreLeftOf}
use Rattle.ic_live.specs.Berths.{Berthed, IsUp}
use Rattle.ic_live.specs.Carrying.{MayDo, FailsToCarryOut}
use Rattle.ic_live.specs.Faults.{faults_of, HaveFailed}
use Rattle.ic_live.specs.Grids.{IsGrid, AreLanes}
use Rattle.ic_live.specs.Standings.{berth_of, FitsProgram}

module _ {X : Type 0} (holds : Berthed X → Type 0) where
  -- these are the parts of berths, each in its place, whose types kept this
  pub record AreEnded (components : List X) (progresses : List Progress) (refusals : List (Option WorldRefused)) (ins : List (List In)) (outs : List (List Out)) : Type 0 where
    pub berths : List (Berthed X)
    pub components_are : components ≡ map (λ b. b.component) berths
    pub progresses_are : progresses ≡ map (λ b. b.progress) berths
    pub refusals_are : refusals ≡ map (λ b. b.refused) berths
    pub ins_are : ins ≡ map (λ b. b.ins) berths
    pub outs_are : outs ≡ map (λ b. b.outs) berths
    pub hold : (k : ℕ) (b : Berthed X) → slice_get berths k ≡ Some b → (b.place ≡ k) × holds b

module _ {D : Type 0} {d : Ghosts D} where
  -- a component for each berth, in order, which has just come up over a fresh log
  pub record AreStarted (program : Program) (print : List ℕ) (xs : List (Component D d)) : Type 0 where
    pub one_each : length xs ≡ length (berthed program)
    pub at_place : (k : ℕ) (x : Component D d) → slice_get xs k ≡ Some x → slice_get (berthed program) k ≡ Some (com_of x)
    pub up : (k : ℕ) (x : Component D d) → slice_get xs k ≡ Some x → IsUp program print x
    pub has_disk : (k : ℕ) (x : Component D d) → slice_get xs k ≡ Some x → is_some (disk_of x) ≡ true

  -- the disk of each tells its bytes
  abbrev pub AllTell : List (Component D d) → Type 0
  AllTell xs = (k : ℕ) (x : Component D d) → slice_get xs k ≡ Some x → Tells x

  -- Components that may be moored over these lanes, each with its list of the plan.
  pub record MayMoor (program : Program) (print : List ℕ) (plan : ComId → List Event) (lane : ℕ → ℕ → TableId) (began : ℕ → ℕ) (honest : Type 0) (xs : List (Component D d)) (outs : List (List Out)) (ins : List (List In)) (events : List Event) : Type 0 where
    pub playable : IsPlayable program
    pub flat : HasFlatParts program
    pub bytes : HasBytes program
    pub started : AreStarted program print xs
    pub told : honest → AllTell xs
    pub since : HaveFailed began xs
    pub lists : (c : ComId) → plan c ≡ list_of c events
    pub events_are : AreEvents program events
    pub count : length outs ≡ length xs
    pub grid : IsGrid (length xs) outs ins
    pub lanes : AreLanes lane outs

  -- the berth of the definitions of this component, with all that it put out and got in some order, and its list
  pub record IsBerthOf (program : Program) (plan : ComId → List Event) (x : Component D d) (p : Progress) (berth : Berth) (list : List Event) : Type 0 where
    pub sent : List Packet
    pub received : List Packet
    pub is : berth ≡ berth_of program (com_of x) (standing_of x p) sent received
    pub list_is : list ≡ plan (com_of x)

  -- What holds of a component that came out of the berth in this place, and that no refusal ended: it fits its program, and goes on over its
  -- disk, on which its log stands.
  pub record IsGoing (program : Program) (print : List ℕ) (place : ℕ) (x : Component D d) : Type 0 where
    pub at_place : slice_get (berthed program) place ≡ Some (com_of x)
    pub not_over : is_over x ≡ false
    pub fits : FitsProgram program (com_of x) (node_of x)
    pub has_disk : is_some (disk_of x) ≡ true
    pub logs : Tells x → KeepsLog print (com_of x) (file_of x) (Some (node_of x))

  -- one component for each berth, in order, with its progress, and none that a refusal ended
  pub record AreReturned (program : Program) (print : List ℕ) (xs : List (Component D d)) (ps : List Progress) : Type 0 where
    pub one_each : length xs ≡ length (berthed program)
    pub progresses : length ps ≡ length xs
    pub going : (k : ℕ) (x : Component D d) → slice_get xs k ≡ Some x → IsGoing program print k x

  -- each left some end of its list of the plan
  abbrev pub HaveLeft : (ComId → List Event) → List (Component D d) → List Progress → Type 0
  HaveLeft plan xs ps = (k : ℕ) (x : Component D d) (p : Progress) → slice_get xs k ≡ Some x → slice_get ps k ≡ Some p → AreLeftOf (plan (com_of x)) (left_of p)

  -- The components that came out, all together: each is of a berth of the definitions, whose own facts, with what the joined lanes tell, are
  -- all that the serial phase needs.
  pub record AreJoined (program : Program) (print : List ℕ) (plan : ComId → List Event) (xs : List (Component D d)) (ps : List Progress) : Type 0 where
    pub plans : ComId → List Event
    pub lanes : Lanes
    pub berths : ComId → Berth
    pub closed : AreClosed program print plans lanes berths
    pub told : AllTell xs
    pub outside : (c : ComId) → has_disk program c ≡ false → (berths c).left ≡ []
    pub of : (k : ℕ) (x : Component D d) (p : Progress) → slice_get xs k ≡ Some x → slice_get ps k ≡ Some p → IsBerthOf program plan x p (berths (com_of x)) (plans (com_of x))

module _ {D : Type 0} (b : Ghosts D) where
  -- The component in this place didn't do some event, and this is why, in an honest run for no bad log and no foreign one; it had received and
  -- put out so many things, and its disk had failed at least so often. It is the lowest: each one before it goes on.
  pub record WasRefused (began : ℕ → ℕ) (honest : Type 0) (program : Program) (print : List ℕ) (xs : List (Component (Torn D) (torn b))) (received packets : ℕ) (why : WorldRefused) : Type 0 where
    pub one_each : length xs ≡ length (berthed program)
    pub have_disks : (k : ℕ) (x : Component (Torn D) (torn b)) → slice_get xs k ≡ Some x → is_some (disk_of x) ≡ true
    pub place : ℕ
    pub old : Component (Torn D) (torn b)
    pub new : Component (Torn D) (torn b)
    pub next : Option Choice
    pub at_place : slice_get (berthed program) place ≡ Some (com_of old)
    pub came_out : slice_get xs place ≡ Some new
    pub own : MayDo (com_of old) next
    pub cause : FailsToCarryOut b program print next old received packets new why
    pub since : began place ≤ faults_of old
    pub sound : honest → IsOfSound why
    pub lowest : (k : ℕ) (x : Component (Torn D) (torn b)) → k < place → slice_get xs k ≡ Some x → IsGoing program print k x

  -- for want of memory, with nothing counted, or as a component was
  abbrev pub IsRefused : (ℕ → ℕ) → Type 0 → Program → List ℕ → List (Component (Torn D) (torn b)) → ℕ → ℕ → WorldRefused → Type 0
  IsRefused began honest program print xs received packets why = ((why ≡ Memory) × (received ≡ 0) × (packets ≡ 0)) ⊎ WasRefused began honest program print xs received packets why
