-- Where a world begins, and why there is none.
use Rattle.std.specs.Prelude.{◌≡◌, ◌⊎◌, ◌+◌, ◌++◌, ℕ, ◌<◌, ◌≤◌, Bool, true, false, cond, List, [], ◌∷◌, length, map, take, Option, Some, None, is_some, Result, Ok, Err, slice_get}
use Rattle.ic_base.specs.declared.messages.ComId.{ComId}
use Rattle.ic_base.specs.declared.messages.Kind.{Kind}
use Rattle.ic_base.specs.declared.messages.Kind.TheVariants as kinds
use Rattle.ic_base.specs.declared.scenario.Component.{Component}
use Rattle.ic_base.specs.declared.scenario.Program.{Program}
use Rattle.ic_base.specs.declared.refusals.StartWhy.{StartWhy}
use Rattle.ic_base.specs.declared.refusals.StartWhy.TheVariants as starts
use Rattle.ic_base.specs.declared.record.Record.{Record}
use Rattle.def_log.specs.Frame.{fresh}
use Rattle.def_log.specs.Images.{LeavesJust}
use Rattle.def_run.specs.Openings.{IsStarted, IsFound, IsStartRefused, found_world, start_refusal, found_refusal}
use Rattle.def_run.specs.SystemStates.{has_disk}
use Rattle.def_step.specs.World.{first_world}
use Rattle.ic_disk.specs.Causes.{Rose}
use Rattle.ic_disk.specs.Disk.{Keeps, CrashLeaves}
use Rattle.ic_disk.specs.TornDisks.{Torn}
use Rattle.ic_disk.specs.declared.disk.Disk.{Ghosts}
use Rattle.ic_gate.specs.declared.refusals.LoadWhy.{LoadWhy}
use Rattle.ic_gate.specs.declared.refusals.LoadWhy.TheVariants as loads
use Rattle.ic_node.specs.Views as parts
use Rattle.ic_node.specs.declared.component.Component.{Component as Part}
use Rattle.ic_world.specs.Allowing.{IsMadeFor}
use Rattle.ic_world.specs.Views.{components_of, world_of, state_of, print_of, received_of, played_of, is_over, Tells}
use Rattle.ic_world.specs.declared.opening.StartRefused.{StartRefused}
use Rattle.ic_world.specs.declared.world.World.{World}

abbrev pub is_outside : Kind → Bool
is_outside kinds.Pcom = false
is_outside kinds.Tcom = false
is_outside kinds.Xcom = true

-- the files of all components, given those of the components that have a disk, in order; an Xcom has none
abbrev pub files_of : List Component → List (List ℕ) → List (List ℕ)
files_of [] files = []
files_of (x ∷ xs) [] = [] ∷ files_of xs []
files_of (x ∷ xs) (f ∷ files) = cond (is_outside x.kind) ([] ∷ files_of xs (f ∷ files)) (f ∷ files_of xs files)

-- how many components have a disk
abbrev pub disks_in : List Component → ℕ
disks_in [] = 0
disks_in (x ∷ xs) = cond (is_outside x.kind) (disks_in xs) (1 + disks_in xs)

-- the disk of each component, if it has one, given the disks in order
abbrev pub places : {D : Type 0} → List Component → List D → List (Option D)
places [] disks = []
places (x ∷ xs) [] = None ∷ places xs []
places (x ∷ xs) (f ∷ disks) = cond (is_outside x.kind) (None ∷ places xs (f ∷ disks)) (Some f ∷ places xs disks)

-- why a component's log isn't loaded, as the refusal of a world
abbrev pub start_why : ComId → LoadWhy → StartWhy
start_why c (loads.Bad place) = starts.Bad c place
start_why c (loads.Foreign kept) = starts.Foreign c kept
start_why c loads.Failed = starts.Failed c
start_why c loads.Stopped = starts.Failed c
start_why c loads.Memory = starts.Memory

-- the disk below, if there is one
abbrev pub inner_of : {D : Type 0} → Option (Torn D) → List D
inner_of None = []
inner_of (Some disk) = disk.inner ∷ []

module _ {D : Type 0} {d : Ghosts (Torn D)} where
  -- the disks below those of components, in order
  abbrev pub disks_under : List (Part (Torn D) d) → List D
  disks_under [] = []
  disks_under (x ∷ xs) = inner_of (parts.disk_of x) ++ disks_under xs

  -- those below a world that begins, or those that are handed back
  abbrev pub disks_behind : Result (World (Torn D) d) (StartRefused D) → List D
  disks_behind (Ok new) = disks_under (components_of new)
  disks_behind (Err refused) = refused.disks.items

  -- a crash leaves of each disk just a log of no batches
  abbrev pub LeavesFresh : List ℕ → World (Torn D) d → Type 0
  LeavesFresh print new =
      (k : ℕ) (x : Part (Torn D) d) (disk : Torn D) → slice_get (components_of new) k ≡ Some x → parts.disk_of x ≡ Some disk → d.keeps disk → LeavesJust (d.may_leave disk) (fresh print k)

-- each of these meets the one in its place
abbrev pub EachMeets : {A : Type 0} → (A → A → Type 0) → List A → List A → Type 0
EachMeets meets [] [] = Unit {0}
EachMeets meets (old ∷ olds) (new ∷ news) = meets old new × EachMeets meets olds news
EachMeets meets [] (new ∷ news) = ⊥
EachMeets meets (old ∷ olds) [] = ⊥

-- where the disk of a component comes among the disks
abbrev pub place_in : Program → ComId → ℕ
place_in program c = disks_in (take c.0 program.components)

module _ {D : Type 0} (b : Ghosts D) where
  -- each of these disks tells its bytes
  abbrev pub AllTell : List D → Type 0
  AllTell disks = (k : ℕ) (disk : D) → slice_get disks k ≡ Some disk → b.tells disk

  -- what they read, as the files of all components
  abbrev pub files_on : Program → List D → List (List ℕ)
  files_on program disks = files_of program.components (map (λ disk. b.seen disk) disks)

  -- each disk is kept, in its place
  abbrev pub AllKept : List D → List D → Type 0
  AllKept olds news = EachMeets (Keeps b) olds news

  -- a crash meanwhile leaves what it might have left before
  abbrev pub LeavesNoMore : D → D → Type 0
  LeavesNoMore old new = CrashLeaves b old new (b.may_leave old)

  module _ {d : Ghosts (Torn D)} where
    -- a world that was just made: it is the program's, over these disks, with nothing received and nothing played
    pub record IsNewWorld (program : Program) (print : List ℕ) (given : List D) (new : World (Torn D) d) : Type 0 where
      pub is_own : print_of new ≡ print
      pub received : received_of new ≡ 0
      pub played : played_of new ≡ 0
      pub going : is_over new ≡ false
      pub made : IsMadeFor program (world_of new)
      pub count : length (components_of new) ≡ length program.components
      pub disks : AllKept given (disks_under (components_of new))
      pub tells : AllTell given → Tells new

    -- all components are up over logs that were made on blank disks
    pub record Starts (program : Program) (print : List ℕ) (disks : List D) (new : World (Torn D) d) : Type 0 where
      pub world : world_of new ≡ first_world program
      pub state : AllTell disks → IsStarted program print (files_on program disks) (state_of new)
      pub is_new : IsNewWorld program print disks new

    -- all components are down over the logs that their disks hold
    pub record Finds (program : Program) (print : List ℕ) (disks : List D) (new : World (Torn D) d) : Type 0 where
      pub logs : List (List Record)
      pub world : world_of new ≡ found_world program logs
      pub state : AllTell disks → IsFound program print (files_on program disks) (state_of new)
      pub is_new : IsNewWorld program print disks new

  -- the disk of this component failed, or stands stopped itself
  pub record HasFailed (program : Program) (c : ComId) (old new : List D) : Type 0 where
    pub before : D
    pub now : D
    pub has : has_disk program c ≡ true
    pub was : slice_get old (place_in program c) ≡ Some before
    pub is : slice_get new (place_in program c) ≡ Some now
    pub fault : Rose (b.faults before) (b.faults now) ⊎ b.stopped now

  abbrev pub IsStartFailed : Program → List D → List D → StartWhy → Type 0
  IsStartFailed program old new (starts.Failed c) = HasFailed program c old new
  IsStartFailed program old new why = Unit {0}

  -- why there is no world, with the disks handed back in order
  pub record FailsToOpen (program : Program) (met : Option StartWhy) (disks : List D) (refused : StartRefused D) : Type 0 where
    pub why : AllTell disks → IsStartRefused met refused.why
    pub failed : IsStartFailed program disks refused.disks.items refused.why
    pub count : length refused.disks.items ≡ length disks
    pub kept : (k : ℕ) (old new : D) → slice_get disks k ≡ Some old → slice_get refused.disks.items k ≡ Some new → Keeps b old new

  -- the disk in this place is that of a component, and a crash leaves just its fresh log
  pub record IsBegun (program : Program) (print : List ℕ) (k : ℕ) (disk : D) : Type 0 where
    pub who : ComId
    pub has : has_disk program who ≡ true
    pub place : place_in program who ≡ k
    pub leaves : b.keeps disk → LeavesJust (b.may_leave disk) (fresh print who.0)

  -- The first disks hold fresh logs, of which a crash leaves just these; the log of at most one more was being made; and of each
  -- later disk a crash meanwhile leaves what it might have left before.
  pub record AreBegun (program : Program) (print : List ℕ) (olds news : List D) : Type 0 where
    pub made : ℕ
    pub begun : ℕ
    pub one : begun ≤ made + 1
    pub fresh : (k : ℕ) (disk : D) → k < made → slice_get news k ≡ Some disk → IsBegun program print k disk
    pub later : (k : ℕ) (old new : D) → begun ≤ k → slice_get olds k ≡ Some old → slice_get news k ≡ Some new → LeavesNoMore old new

  -- a disk that was asked reads as before; where one failed, if no write waited for a sync
  abbrev pub Stays : StartWhy → D → D → Type 0
  Stays (starts.NotBlank c) old new = b.tells old → b.seen new ≡ b.seen old
  Stays why old new = b.tells old → b.settled old ≡ true → b.seen new ≡ b.seen old

  abbrev pub AllStay : StartWhy → List D → List D → Type 0
  AllStay why olds news = (k : ℕ) (old new : D) → slice_get olds k ≡ Some old → slice_get news k ≡ Some new → Stays why old new

  -- why none starts; where a disk isn't blank, they were only asked
  pub record FailsToStart (program : Program) (disks : List D) (refused : StartRefused D) : Type 0 where
    pub opens : FailsToOpen program (start_refusal program (files_on program disks)) disks refused
    pub stay : AllTell disks → is_some (start_refusal program (files_on program disks)) ≡ true → AllStay refused.why disks refused.disks.items

  -- what a crash leaves where none starts; where a disk isn't blank, no log was begun
  pub record LeavesBegun (program : Program) (print : List ℕ) (disks : List D) (refused : StartRefused D) : Type 0 where
    pub logs : AreBegun program print disks refused.disks.items
    pub asked : (c : ComId) → refused.why ≡ starts.NotBlank c → logs.begun ≡ 0

  abbrev pub FailsToFind : Program → List ℕ → List D → StartRefused D → Type 0
  FailsToFind program print disks refused = FailsToOpen program (found_refusal program print (files_on program disks)) disks refused
